-- The delay's range, and what is given as 10^18 ns for more: its sum is judged as the exact sum is, and it is HUGE.
use mathlib.Core.Path.{◌≡◌, refl, subst}
use mathlib.Core.Bool.{Bool, true, false, cond}
use mathlib.Core.List.{[], ◌∷◌}
use Prim.Native.Nat.{ℕ, suc, ◌<◌, ◌≤◌, ◌^◌, min}
use native.Mathlib.Omega.{arith}
use borrow.Author.Tests.{lt-ltb, le-ltb, le-leb, ltb-true, ltb-false, leb-false}
use lib.Dec.{leb, ltb}
use lib.IntN.{ℤ, pos, negsuc, neg_ℤ, nat_abs, ◌-ℤ◌}
use lib.Signed.{lt_z}
use Rattle.numbers.specs.Integers.{Within}
use Rattle.numbers.proofs.Integers.{abs-parts, one_side}
use Rattle.numbers.specs.Rounding.{half_to_even, held_within}
use Rattle.numbers.proofs.Ring.{v, ◌⊖◌, rep}
use Rattle.numbers.proofs.Signs.{by-same}
use Rattle.rules_measure.specs.declared.Sum.{Sum}
use Rattle.rules_measure.specs.declared.Sum.TheVariants.{Neg, Long, Delay}
use Rattle.rules_measure.specs.Measure.{horizon, sum_of, huge_of}
use Rattle.rules_measure.proofs.Exact.{is-delay}

-- ---- the delay is from 0 to 9,999,999
abbrev pub Least : Sum → Type 0
Least Neg = Unit
Least Long = Unit
Least (Delay d) = d ≤ 9999999

pub sum-range : (sum : ℤ) → Least (sum_of sum)
unfolding sum_of
sum-range sum = go (lt_z sum (pos 0)) refl (lt_z (pos 19999998) sum) refl
  where
    go : (a : Bool) → lt_z sum (pos 0) ≡ a → (b : Bool) → lt_z (pos 19999998) sum ≡ b → Least (cond a Neg (cond b Long (Delay (nat_abs (half_to_even 2 sum)))))
    go true e b f = tt
    go false e true f = tt
    go false e false f = (is-delay sum e f).most

pub delay-range : (sum : ℤ) (d : ℕ) → sum_of sum ≡ Delay d → d ≤ 9999999
delay-range sum d e = subst Least e (sum-range sum)

-- ---- what is held within 10^18
-- the number itself, or beyond 10^18 on one side
pub data Reach (z : ℤ) : Type 0 where
  near : held_within horizon z ≡ z → Reach z
  over : (n : ℕ) → z ≡ pos n → held_within horizon z ≡ pos horizon → horizon < n → Reach z
  under : (n : ℕ) → z ≡ negsuc n → held_within horizon z ≡ neg_ℤ (pos horizon) → horizon ≤ n → Reach z

pub reach : (z : ℤ) → Reach z
reach (pos n) = go (ltb horizon n) refl
  where
    go : (b : Bool) → ltb horizon n ≡ b → Reach (pos n)
    go true t = let h = ltb-true horizon n t in over n refl (let e : min horizon n ≡ horizon = omega arith in rw e) h
    go false t = let h = ltb-false horizon n t in near (by-same (min horizon) (pos n) (omega arith))
reach (negsuc n) = go (ltb horizon (suc n)) refl
  where
    go : (b : Bool) → ltb horizon (suc n) ≡ b → Reach (negsuc n)
    go true t = let h = ltb-true horizon (suc n) t in under n refl (let e : min horizon (suc n) ≡ horizon = omega arith in rw e) (omega arith)
    go false t = let h = ltb-false horizon (suc n) t in near (by-same (min horizon) (negsuc n) (omega arith))

pub sum-held : (z : ℤ) → sum_of (held_within horizon z) ≡ sum_of z
unfolding sum_of
sum-held z = go (reach z)
  where
    go : Reach z → sum_of (held_within horizon z) ≡ sum_of z
    go (near e) = rw e
    go (over n e f h) = rw (f, e, le-ltb n 0 (omega arith), lt-ltb 19999998 n (omega arith))
    go (under n e f h) = rw (f, e)

-- so far away a number is HUGE, whatever the delay
pub far-over : (n d : ℕ) → horizon ≤ n → d ≤ 9999999 → leb 1000000000 (nat_abs (pos n -ℤ pos d)) ≡ true
far-over n d h k = le-leb 1000000000 (nat_abs (pos n -ℤ pos d)) (omega (arith, abs-parts (pos n -ℤ pos d), rep (v 0 ⊖ v 1) (pos n ∷ (pos d ∷ []))))

pub far-under : (n d : ℕ) → 1000000000 ≤ n → leb 1000000000 (nat_abs (negsuc n -ℤ pos d)) ≡ true
far-under n d h = le-leb 1000000000 (nat_abs (negsuc n -ℤ pos d)) (omega (arith, abs-parts (negsuc n -ℤ pos d), rep (v 0 ⊖ v 1) (negsuc n ∷ (pos d ∷ []))))

-- what is not HUGE is small
pub not-huge : (z : ℤ) (d : ℕ) → d < 2 ^ 32 → huge_of (z -ℤ pos d) ≡ false → Within (2 ^ 33) z
not-huge z d h e =
    omega (arith, leb-false 1000000000 (nat_abs (z -ℤ pos d)) e, abs-parts (z -ℤ pos d), one_side z, rep (v 0 ⊖ v 1) (z ∷ (pos d ∷ [])))
