-- One measurement over ℤ, in whole ns (rules 7.10 to 7.16 and 7.24).
use Rattle.std.specs.Prelude.{Bool, cond, ℕ, leb, ltb, ℤ, pos, nat_abs, ◌+ℤ◌, ◌-ℤ◌}
use Rattle.std.specs.Int.Signed.{lt_z}
use Rattle.numbers.specs.Rounding.{floor_z, half_to_even, held_within}
use Rattle.numbers.specs.Stamps.{moment}
use Rattle.numbers.specs.declared.stamp.Stamp.{Stamp}
use Rattle.numbers.specs.declared.units.Nanoseconds.{Nanoseconds}
use Rattle.rules_measure.specs.declared.Times.{Times}
use Rattle.rules_measure.specs.declared.Sum.{Sum}
use Rattle.rules_measure.specs.declared.Sum.TheVariants.{Neg, Long, Delay}

abbrev pub ns : ℤ → Nanoseconds
ns z = record { 0 = z }

-- a correction, cut to whole ns (rule 7.10)
abbrev pub cut_of : ℤ → ℤ
cut_of correction = floor_z 65_536 correction

-- rule 7.11
unfoldable pub forward_of : Stamp → Stamp → ℤ → ℤ → ℤ
forward_of t1 t2 sync follow = moment t2 -ℤ moment t1 -ℤ cut_of sync -ℤ cut_of follow

-- rule 7.12
unfoldable pub back_of : Stamp → Stamp → ℤ → ℤ
back_of t3 t4 correction = moment t4 -ℤ moment t3 -ℤ cut_of correction

-- NEG, LONG, or the delay (rules 7.13 to 7.15)
unfoldable pub sum_of : ℤ → Sum
sum_of sum = cond (lt_z sum (pos 0)) Neg (cond (lt_z (pos 19_999_998) sum) Long (Delay (nat_abs (half_to_even 2 sum))))

-- HUGE, of forward less delay (rule 7.16)
abbrev pub huge_of : ℤ → Bool
huge_of offset = leb 1_000_000_000 (nat_abs offset)

-- STEP, of the offset (rule 7.24)
abbrev pub is_step : ℤ → Bool
is_step offset = ltb 100_000_000 (nat_abs offset)

-- how far the code looks: 10^18 ns. proofs/Far.antt shows that no verdict changes by it
abbrev pub horizon : ℕ
horizon = 1_000_000_000_000_000_000

abbrev pub times_of : (t1 t2 : Stamp) (sync follow : ℤ) (t3 t4 : Stamp) (response : ℤ) → Times
times_of t1 t2 sync follow t3 t4 response =
    record {
      forward = ns (held_within horizon (forward_of t1 t2 sync follow));
      sum = ns (held_within horizon (forward_of t1 t2 sync follow +ℤ back_of t3 t4 response));
    }
