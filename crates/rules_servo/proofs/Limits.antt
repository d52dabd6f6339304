-- Laws of what is held within a limit, and of whole ppb.
use mathlib.Core.Path.{◌≡◌, refl, sym, ap, ◌∙◌}
use mathlib.Core.Bool.{Bool, true, false}
use mathlib.Core.List.{[], ◌∷◌}
use Prim.Native.Nat.{ℕ, suc, ◌+◌, ◌*◌, ◌%◌, ◌^◌, ◌<◌, ◌≤◌, min}
use native.Mathlib.Omega.{arith}
use lib.Dec.{ltb}
use lib.IntN.{ℤ, pos, negsuc, neg_ℤ, nat_abs, ◌+ℤ◌}
use lib.Signed.{◌≤ℤ◌, mag}
use mir.Syntax.{w32}
use mir.Val.{SFits}
use borrow.Author.Rules.{sfits_of}
use borrow.Author.Tests.{ltb-true, ltb-false}
use Rattle.numbers.specs.Integers.{Within}
use Rattle.numbers.proofs.Integers.{parts-le, up_neg, dn-neg, abs-parts, within-sign}
use Rattle.numbers.specs.Rounding.{rounded_of, half_to_even, held_within}
use Rattle.numbers.proofs.Ring.{v, k, ◌⊕◌, neg, le-by}
use Rattle.numbers.proofs.Signs.{by-same}
use Rattle.numbers.proofs.Rounds.{round-low, round-high, round-half}

-- what is within the limit is held as it is
pub held_same : (l : ℕ) (z : ℤ) → nat_abs z ≤ l → held_within l z ≡ z
held_same l z h = by-same (min l) z (omega arith)

-- what is past the limit is held at it, above and below
held-above : (l : ℕ) (z : ℤ) → pos l ≤ℤ z → held_within l z ≡ pos l
held-above l (pos n) h = ap pos (omega (arith, parts-le h))
held-above l (negsuc n) h = absurd (omega (arith, parts-le h))

held_below : (l : ℕ) (z : ℤ) → z ≤ℤ neg_ℤ (pos l) → held_within l z ≡ neg_ℤ (pos l)
held_below l (pos n) h = let e : l ≡ 0 = omega (arith, parts-le h, up_neg (pos l), dn-neg (pos l)) in let f : min 0 n ≡ 0 = omega arith in rw (e, f)
held_below l (negsuc n) h = let e : min l (suc n) ≡ l = omega (arith, parts-le h, up_neg (pos l), dn-neg (pos l)) in rw e

-- A number so far out that g does not bring it back within l may as well be held at m first.
pub held-far : (l m : ℕ) (z g : ℤ) → l + nat_abs g ≤ m → held_within l (held_within m z +ℤ g) ≡ held_within l (z +ℤ g)
held-far l m z g h = go z (ltb m (nat_abs z)) refl
  where
    high : (n : ℕ) → m ≤ n → pos l ≤ℤ (pos n +ℤ g)
    high n p = le-by (k (pos l)) (k (pos n) ⊕ v 0) (g ∷ []) (omega (arith, abs-parts g))

    low : (n : ℕ) → m ≤ n → (neg_ℤ (pos n) +ℤ g) ≤ℤ neg_ℤ (pos l)
    low n p = le-by (neg (k (pos n)) ⊕ v 0) (neg (k (pos l))) (g ∷ []) (omega (arith, abs-parts g))

    go : (z : ℤ) (b : Bool) → ltb m (nat_abs z) ≡ b → held_within l (held_within m z +ℤ g) ≡ held_within l (z +ℤ g)
    go z false e = ap (λ (y : ℤ). held_within l (y +ℤ g)) (held_same m z (ltb-false m (nat_abs z) e))
    go (pos n) true e =
        let q : m < n = ltb-true m n e in
        held-above l (pos (min m n) +ℤ g) (high (min m n) (omega arith)) ∙ sym (held-above l (pos n +ℤ g) (high n (omega arith)))
    go (negsuc n) true e =
        let q : m < suc n = ltb-true m (suc n) e in
        held_below l (neg_ℤ (pos (min m (suc n))) +ℤ g) (low (min m (suc n)) (omega arith)) ∙ sym (held_below l (negsuc n +ℤ g) (low (suc n) (omega arith)))

-- whole ppb do not pass a limit of whole ppb
round-limit : (l n : ℕ) → n ≤ l * 128_000 → rounded_of 128_000 n ≤ l
round-limit l n h = go (ltb (2 * (n % 128_000)) 128_000) refl (ltb 128_000 (2 * (n % 128_000))) refl
  where
    go : (a : Bool) → ltb (2 * (n % 128_000)) 128_000 ≡ a → (b : Bool) → ltb 128_000 (2 * (n % 128_000)) ≡ b → rounded_of 128_000 n ≤ l
    go true e b f = rw (round-low 128_000 n (ltb-true (2 * (n % 128_000)) 128_000 e)) (omega arith)
    go false e true f = let q = ltb-true 128_000 (2 * (n % 128_000)) f in rw (round-high 128_000 n q) (omega arith)
    go false e false f =
        let q : 2 * (n % 128_000) ≡ 128_000 = omega (arith, ltb-false (2 * (n % 128_000)) 128_000 e, ltb-false 128_000 (2 * (n % 128_000)) f) in
        rw (round-half 128_000 n q) (omega arith)

pub whole-within : (l : ℕ) (z : ℤ) → Within (l * 128_000) z → Within l (half_to_even 128_000 z)
whole-within l (pos n) w = within-sign false (round-limit l n w.below)
whole-within l (negsuc n) w = within-sign true (round-limit l (suc n) w.above)

-- a number so small fits an i32
mag-below : (z : ℤ) {n : ℕ} → Within n z → mag z ≤ n
mag-below (pos m) w = w.below
mag-below (negsuc m) w = omega (arith, w.above)

pub fits-i32 : {n : ℕ} {z : ℤ} → Within n z → n < 2 ^ 31 → SFits w32 z
fits-i32 {z = z} w h = sfits_of (omega (arith, mag-below z w))
