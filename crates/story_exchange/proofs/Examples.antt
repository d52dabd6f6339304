-- What follows from histories of events, by computation. The numbers to meet are in rules_exchange/proofs/Examples.
use Rattle.std.specs.Prelude.{Ok, Err}
use mathlib.Core.Path.{◌≡◌, refl}
use mathlib.Core.Bool.{true, false}
use mathlib.Core.List.{List, [], ◌∷◌, ◌++◌}
use Prim.Native.Nat.{ℕ, ◌+◌}
use lib.IntN.{pos}
use Rattle.numbers.specs.Grounds.{first_of}
use Rattle.numbers.specs.Rounding.{floor_z, rounded_of}
use Rattle.numbers.specs.Stamps.{moment, below_of}
use Rattle.numbers.specs.declared.stamp.Stamp.{Stamp}
use Rattle.numbers.specs.declared.refusal.Refusal.TheVariants.{Unmatched}
use Rattle.wire_layout.specs.declared.message.Port.{Port}
use Rattle.rules_exchange.specs.declared.said.Said.TheVariants.{Back, PathWiped}
use Rattle.rules_delays.specs.Median.{count_below, middling, first_middling}
use Rattle.rules_measure.specs.Measure.{forward_of, back_of, sum_of}
use Rattle.rules_exchange.specs.Table.{Event, sync, requested, sent, delay_resp, same_port}
use Rattle.rules_exchange.specs.Events.{measured_with}
use Rattle.story_lists.specs.Reading.{all, since}
use Rattle.story_exchange.specs.Log.{events_in, answers_in}
use Rattle.story_exchange.specs.Held.{last_two}
use Rattle.story_exchange.specs.Rules.{answer, answer_unbarred}
use Rattle.story_exchange.specs.History.{Happening, happens, wiped, log, answer_by_history}

abbrev own : Port
own = record { clock = 1; number = 1 }

abbrev at : ℕ → ℕ → Stamp
at s n = record { seconds = s; nanoseconds = n }

-- in second s: a Sync that was under way for `forward`, a request, and its t3
abbrev before-answer : ℕ → ℕ → List Happening
before-answer s forward = happens (sent s (at s 500000000)) ∷ happens (requested s) ∷ happens (sync false s (pos 0) (at s 0) (at s forward)) ∷ []

-- its Delay_Resp, under way for `back`; and all four
abbrev resp : ℕ → ℕ → Event
resp s back = delay_resp s (pos 0) (at s (500000000 + back)) own own

abbrev exchange : ℕ → ℕ → ℕ → List Happening
exchange s forward back = happens (resp s back) ∷ before-answer s forward

-- the third PATH in a row, among finished measurements, wipes; a wipe between breaks the row
third-path : answer_by_history (before-answer 4 9000000 ++ (exchange 3 9000000 9000000 ++ (exchange 2 9000000 9000000 ++ exchange 1 10000 10000))) (resp 4 9000000) ≡ Ok PathWiped
unfolding answer_by_history log answer first_of answer_unbarred events_in answers_in all since last_two same_port moment below_of floor_z rounded_of forward_of back_of sum_of count_below middling first_middling
third-path = refl

not_third : answer_by_history (before-answer 4 9000000 ++ (exchange 3 9000000 9000000 ++ (wiped ∷ (exchange 2 9000000 9000000 ++ exchange 1 10000 10000)))) (resp 4 9000000)
    ≡ Ok (measured_with 9000000 9000000 (pos 0))
unfolding answer_by_history log answer first_of answer_unbarred events_in answers_in all since last_two same_port moment below_of floor_z rounded_of forward_of back_of sum_of count_below middling first_middling
not_third = refl

-- a second Delay_Resp finds nothing, and a t2 of an earlier second is BACK
twice : answer_by_history (exchange 1 10500 10000) (resp 1 10000) ≡ Err Unmatched
unfolding answer_by_history log answer first_of answer_unbarred events_in answers_in all since last_two same_port moment below_of floor_z rounded_of forward_of back_of sum_of count_below middling first_middling
twice = refl

back : answer_by_history (exchange 2 10500 10000) (sync true 9 (pos 0) (at 0 0) (at 1 0)) ≡ Ok Back
unfolding answer_by_history log answer first_of answer_unbarred events_in answers_in all since last_two same_port moment below_of floor_z rounded_of forward_of back_of sum_of count_below middling first_middling
back = refl
