-- What an answer says of the call: whether it was refused, and whether the unit was wiped.
use Rattle.std.specs.Prelude.{Bool, true, false}
use Rattle.rules_masters.specs.Holding.{wipes_of as choice_wipes}
use Rattle.rules_exchange.specs.Said.{wipes_of as said_wipes}
use Rattle.rules_watch.specs.Rules.{wipes_of as pulse_wipes}
use Rattle.unit_core.specs.declared.calls.Answer.{Answer}
use Rattle.unit_core.specs.declared.calls.Answer.TheVariants.{Refused, Choice, Exchange, Watch, Wiped, Line, Shows}

abbrev pub is_refusal : Answer → Bool
is_refusal (Refused n) = true
is_refusal (Choice d) = false
is_refusal (Exchange said output) = false
is_refusal (Watch p) = false
is_refusal Wiped = false
is_refusal (Line line count) = false
is_refusal (Shows shown) = false

-- what wipes, and with which answer: a new or lost master; of the exchange BACK, the third PATH in a row and STEP; of the watch BACK, RANGE and JUMP;
-- the operator's reset
abbrev pub wipes_of : Answer → Bool
wipes_of (Refused n) = false
wipes_of (Choice d) = choice_wipes d
wipes_of (Exchange said output) = said_wipes said
wipes_of (Watch p) = pulse_wipes p
wipes_of Wiped = true
wipes_of (Line line count) = false
wipes_of (Shows shown) = false
