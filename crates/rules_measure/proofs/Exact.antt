-- The measurement in i64: a span over 48 bits of seconds is exact, and what is given as 10^18 ns for more lies beyond every limit.
use mathlib.Core.Path.{◌≡◌, refl, sym, ap, ◌∙◌}
use mathlib.Core.Bool.{Bool, true, false}
use mathlib.Core.List.{[], ◌∷◌}
use Prim.Native.Nat.{ℕ, suc, ◌<◌, ◌≤◌, ◌^◌, min}
use native.Mathlib.Omega.{arith}
use lib.IntN.{ℤ, pos, negsuc, neg_ℤ, nat_abs, ◌+ℤ◌, ◌-ℤ◌, ◌*ℤ◌}
use lib.Signed.{lt_z}
use mir.Syntax.{w64}
use mir.Val.{SFits}
use Rattle.std.specs.Int.{int_min, int_max}
use Rattle.numbers.specs.Integers.{up, dn, Within}
use Rattle.numbers.proofs.Integers.{fits→, abs-parts, one_side, lt_z-true, lt_z-false}
use Rattle.numbers.specs.Rounding.{floor_z, half_to_even, rounded_of, held_within}
use Rattle.numbers.specs.Stamps.{lasting}
use Rattle.numbers.specs.declared.stamp.Span.{Span}
use Rattle.numbers.proofs.Ring.{v, k, ◌⊕◌, ◌⊖◌, ◌⊗◌, rep, ring, within_by}
use Rattle.numbers.proofs.Rounds.{nearest}
use Rattle.rules_measure.specs.Measure.{horizon}
use Rattle.rules_measure.specs.Inner.{Lasts}

-- a correction of 64 bits is cut to 48
pub cut_small : (z : ℤ) → SFits w64 z → Within (2 ^ 47) (floor_z 65536 z)
unfolding floor_z
cut_small (pos n) f = omega (arith, fits→ f)
cut_small (negsuc n) f = omega (arith, fits→ f)

-- a span of s seconds and n nanoseconds that lasts z, less a correction, and with another span
pub less_one : (s n a : ℤ) {z : ℤ} → Within (2 ^ 48) s → Within (2 ^ 32) n → Within (2 ^ 48) a → s *ℤ pos 1000000000 +ℤ n ≡ z
    → Lasts 48 49 (z -ℤ a) (record { seconds = s; nanoseconds = n -ℤ a })
unfolding lasting
less_one s n a ws wn wa e =
    record {
      exact = ring (v 0 ⊗ k (pos 1000000000) ⊕ (v 1 ⊖ v 2)) (v 0 ⊗ k (pos 1000000000) ⊕ v 1 ⊖ v 2) (s ∷ (n ∷ (a ∷ []))) tt ∙ rw e;
      seconds = ws;
      nanoseconds = within_by _ (v 0 ⊖ v 1) (n ∷ (a ∷ [])) (omega arith);
    }

-- two corrections in one
pub two_cuts : (a b : ℤ) → Within (2 ^ 47) a → Within (2 ^ 47) b → Within (2 ^ 48) (a +ℤ b)
two_cuts a b wa wb = within_by _ (v 0 ⊕ v 1) (a ∷ (b ∷ [])) (omega arith)

pub less_both : (z a b : ℤ) → z -ℤ (a +ℤ b) ≡ z -ℤ a -ℤ b
less_both z a b = ring (v 0 ⊖ (v 1 ⊕ v 2)) (v 0 ⊖ v 1 ⊖ v 2) (z ∷ (a ∷ (b ∷ []))) tt

pub both : (a b : Span) → Within (2 ^ 48) a.seconds → Within (2 ^ 49) a.nanoseconds → Within (2 ^ 48) b.seconds → Within (2 ^ 49) b.nanoseconds
    → Lasts 49 50 (lasting a +ℤ lasting b) (record { seconds = a.seconds +ℤ b.seconds; nanoseconds = a.nanoseconds +ℤ b.nanoseconds })
unfolding lasting
both a b p q r t =
    record {
      exact =
          ring ((v 0 ⊕ v 2) ⊗ k (pos 1000000000) ⊕ (v 1 ⊕ v 3)) ((v 0 ⊗ k (pos 1000000000) ⊕ v 1) ⊕ (v 2 ⊗ k (pos 1000000000) ⊕ v 3))
          (a.seconds ∷ (a.nanoseconds ∷ (b.seconds ∷ (b.nanoseconds ∷ [])))) tt;
      seconds = within_by _ (v 0 ⊕ v 1) (a.seconds ∷ (b.seconds ∷ [])) (omega arith);
      nanoseconds = within_by _ (v 0 ⊕ v 1) (a.nanoseconds ∷ (b.nanoseconds ∷ [])) (omega arith);
    }

-- what lies beyond its limit is held at it
held-over : (l : ℕ) (z : ℤ) → 0 < l → l ≤ up z → pos l ≡ held_within l z
held-over l (pos n) p h = ap pos (omega arith)
held-over l (negsuc n) p h = absurd (omega arith)

held-under : (l : ℕ) (z : ℤ) → 0 < l → l ≤ dn z → neg_ℤ (pos l) ≡ held_within l z
held-under l (pos n) p h = absurd (omega arith)
held-under l (negsuc n) p h = let e : min l (suc n) ≡ l = omega arith in rw e

-- a span of s seconds and n nanoseconds
module _ (s n : ℤ) (small : Within (2 ^ 50) n) where
  pub whole-over : lt_z (pos 2000000000) s ≡ true → pos horizon ≡ held_within horizon (s *ℤ pos 1000000000 +ℤ n)
  whole-over h =
      held-over horizon (s *ℤ pos 1000000000 +ℤ n) (omega arith)
      (omega (arith, lt_z-true (pos 2000000000) s h, one_side s, rep (v 0 ⊗ k (pos 1000000000) ⊕ v 1) (s ∷ (n ∷ []))))

  pub whole-under : lt_z s (negsuc 1999999999) ≡ true → neg_ℤ (pos horizon) ≡ held_within horizon (s *ℤ pos 1000000000 +ℤ n)
  whole-under h =
      held-under horizon (s *ℤ pos 1000000000 +ℤ n) (omega arith)
      (omega (arith, lt_z-true s (negsuc 1999999999) h, one_side s, rep (v 0 ⊗ k (pos 1000000000) ⊕ v 1) (s ∷ (n ∷ []))))

-- so that seconds beyond 2,000,000,000 may be taken as that
pub clamped : (s n : ℤ) → Within (2 ^ 50) n
    → held_within horizon (int_max (negsuc 1999999999) (int_min s (pos 2000000000)) *ℤ pos 1000000000 +ℤ n) ≡ held_within horizon (s *ℤ pos 1000000000 +ℤ n)
clamped s n small = go (lt_z (pos 2000000000) s) refl (lt_z s (negsuc 1999999999)) refl
  where
    high : held_within horizon (pos 2000000000 *ℤ pos 1000000000 +ℤ n) ≡ pos horizon
    high = sym (held-over horizon (pos 2000000000 *ℤ pos 1000000000 +ℤ n) (omega arith) (omega (arith, one_side n, rep (v 0 ⊗ k (pos 1000000000) ⊕ v 1) (pos 2000000000 ∷ (n ∷ [])))))

    low : held_within horizon (negsuc 1999999999 *ℤ pos 1000000000 +ℤ n) ≡ neg_ℤ (pos horizon)
    low = sym (held-under horizon (negsuc 1999999999 *ℤ pos 1000000000 +ℤ n) (omega arith) (omega (arith, one_side n, rep (v 0 ⊗ k (pos 1000000000) ⊕ v 1) (negsuc 1999999999 ∷ (n ∷ [])))))

    go : (a : Bool) → lt_z (pos 2000000000) s ≡ a → (b : Bool) → lt_z s (negsuc 1999999999) ≡ b
        → held_within horizon (int_max (negsuc 1999999999) (int_min s (pos 2000000000)) *ℤ pos 1000000000 +ℤ n) ≡ held_within horizon (s *ℤ pos 1000000000 +ℤ n)
    go true e b f = rw e (high ∙ whole-over s n small e)
    go false e true f = rw (e, f) (low ∙ whole-under s n small f)
    go false e false f = rw (e, f)

-- a sum that is neither NEG nor LONG is halved to a delay from 0 to 9,999,999
pub record IsDelay (sum : ℤ) : Type 0 where
  pub whole : half_to_even 2 sum ≡ pos (nat_abs (half_to_even 2 sum))
  pub most : nat_abs (half_to_even 2 sum) ≤ 9999999

pub is-delay : (sum : ℤ) → lt_z sum (pos 0) ≡ false → lt_z (pos 19999998) sum ≡ false → IsDelay sum
is-delay (pos n) h j =
    let q = rounded_of 2 n in
    let x = pos n -ℤ pos 2 *ℤ pos q in
    record {
      whole = refl;
      most = omega (arith, (nearest 2 (pos n) (omega arith)).near, abs-parts x, rep (v 0 ⊖ (v 1 ⊗ v 2)) (pos n ∷ (pos 2 ∷ (pos q ∷ []))), lt_z-false (pos 19999998) (pos n) j);
    }
is-delay (negsuc n) h j = absurd (omega (arith, lt_z-false (negsuc n) (pos 0) h))
