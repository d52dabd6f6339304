-- Numbers to meet of the exchange (rules 11.1 to 11.6 and 11.9), by computation.
use Rattle.std.specs.Prelude.{Ok}
use mathlib.Core.Path.{◌≡◌, refl}
use mathlib.Core.List.{List, [], ◌∷◌}
use lib.IntN.{ℤ, pos, negsuc, ◌+ℤ◌}
use Rattle.numbers.specs.Rounding.{rounded_of}
use Rattle.rules_exchange.specs.declared.Exchange.{Exchange}
use Rattle.rules_exchange.specs.Events.{Answer}
use Rattle.rules_exchange.specs.declared.said.Said.TheVariants.{Neg, Long}
use Rattle.rules_delays.specs.Median.{count_below, middling, first_middling}
use Rattle.rules_delays.specs.Delays.{path_by, used_by, filtered}
use Rattle.rules_measure.specs.Measure.{sum_of}
use Rattle.rules_exchange.specs.Events.{fresh_exchange, accepted, judged, measured_with, finished}

-- one measurement, by its forward and its back
pub record Measurement : Type 0 where
  pub forward : ℤ
  pub back : ℤ

abbrev pub of : ℤ → ℤ → Measurement
of forward back = record { forward = forward; back = back }

-- the answers to measurements, one after another
abbrev pub answers_to : Exchange → List Measurement → List Answer
answers_to x [] = []
answers_to x (m ∷ l) = (finished x m.forward (m.forward +ℤ m.back)).answer ∷ answers_to (finished x m.forward (m.forward +ℤ m.back)).exchange l

pub p1 : answers_to fresh_exchange (of (pos 10500) (pos 10000) ∷ []) ≡ Ok (measured_with 10250 10250 (pos 250)) ∷ []
unfolding sum_of rounded_of judged accepted path_by used_by filtered
p1 = refl

pub p2 : answers_to fresh_exchange (of (pos 10501) (pos 10000) ∷ []) ≡ Ok (measured_with 10250 10250 (pos 251)) ∷ []
unfolding sum_of rounded_of judged accepted path_by used_by filtered
p2 = refl

pub p3 : answers_to fresh_exchange (of (pos 10503) (pos 10000) ∷ []) ≡ Ok (measured_with 10252 10252 (pos 251)) ∷ []
unfolding sum_of rounded_of judged accepted path_by used_by filtered
p3 = refl

pub p4 : answers_to fresh_exchange (of (pos 10000) (negsuc 10000) ∷ []) ≡ Ok Neg ∷ []
unfolding sum_of
p4 = refl

pub p5 : answers_to fresh_exchange (of (pos 9999999) (pos 9999999) ∷ []) ≡ Ok (measured_with 9999999 9999999 (pos 0)) ∷ []
unfolding sum_of rounded_of judged accepted path_by used_by filtered
p5 = refl

pub p5-long : answers_to fresh_exchange (of (pos 9999999) (pos 10000000) ∷ []) ≡ Ok Long ∷ []
unfolding sum_of
p5-long = refl

pub p6 : answers_to fresh_exchange (of (pos 10000) (pos 10000) ∷ of (pos 15000) (pos 15000) ∷ of (pos 15000) (pos 15000) ∷ [])
    ≡ Ok (measured_with 10000 10000 (pos 0)) ∷ Ok (measured_with 15000 10000 (pos 5000)) ∷ Ok (measured_with 15000 15000 (pos 0)) ∷ []
unfolding sum_of rounded_of judged accepted path_by used_by filtered count_below middling first_middling
p6 = refl

-- an offset of 100,000,000 is no STEP
pub p9-no-step : answers_to fresh_exchange (of (pos 100010000) (negsuc 99989999) ∷ []) ≡ Ok (measured_with 10000 10000 (pos 100000000)) ∷ []
unfolding sum_of rounded_of judged accepted path_by used_by filtered
p9-no-step = refl
