-- The history: all that happened, the newest first. What the log is after it, and the answer to the next event.
use Rattle.std.specs.Prelude.{List, [], ◌∷◌, cond, Ok, Err}
use Rattle.rules_exchange.specs.Events.{Answer}
use Rattle.rules_exchange.specs.Events.{Answered}
use Rattle.rules_exchange.specs.declared.Exchange.{Exchange}
use Rattle.rules_exchange.specs.Table.{Event}
use Rattle.rules_exchange.specs.Said.{wipes_of}
use Rattle.rules_exchange.specs.Events.{fresh_exchange, told}
use Rattle.story_exchange.specs.Log.{Log, entry}
use Rattle.story_exchange.specs.Rules.{answer}

pub data Happening : Type 0 where
  -- an event of the exchange
  happens : Event → Happening
  -- a wipe from elsewhere: a new or lost master, RANGE, JUMP, a reset
  wiped : Happening

-- an event that is refused leaves no line, one that wipes leaves an empty log
abbrev pub log_with : Event → Answer → Log → Log
log_with e (Err n) l = l
log_with e (Ok s) l = cond (wipes_of s) [] (entry e s ∷ l)

unfoldable pub log : List Happening → Log
log [] = []
log (happens e ∷ before) = log_with e (answer (log before) e) (log before)
log (wiped ∷ before) = []

-- the answer to an event that comes after all that
unfoldable pub answer_by_history : List Happening → Event → Answer
answer_by_history before e = answer (log before) e

-- ---- the machine of the code, for the same history. Where its answer wipes, who asked empties it
abbrev pub exchange_by : Answer → Exchange → Exchange
exchange_by (Err n) x = x
exchange_by (Ok s) x = cond (wipes_of s) fresh_exchange x

abbrev pub exchange_after : Answered → Exchange
exchange_after r = exchange_by r.answer r.exchange

unfoldable pub machine : List Happening → Exchange
machine [] = fresh_exchange
machine (happens e ∷ before) = exchange_after (told (machine before) e)
machine (wiped ∷ before) = fresh_exchange
