-- Laws of whole numbers by their two parts in ℕ, `up` and `dn`: what is linear over ℤ is then linear over ℕ, which `omega` proves.
use mathlib.Core.Path.{◌≡◌, refl, sym, ap, ◌∙◌, subst}
use mathlib.Core.Bool.{Bool, true, false, not, cond}
use Prim.Native.Nat.{ℕ, zero, suc, ◌+◌, ◌*◌, ◌-◌, ◌/◌, ◌%◌, ◌^◌, ◌≤◌, ◌<◌, min, zero-le}
use native.Mathlib.Nat.{zero-add, add-zero, zero-mul, mul-zero, mul-add, add-mul, mul_assoc, zero-div, zero-mod, mul-le-mul}
use native.Mathlib.Omega.{arith}
use lib.Dec.{T, ltb, leb→le, le→leb, ltb→lt, lt→ltb, nltb→le, nleb→lt}
use lib.IntN.{ℤ, pos, negsuc, neg_ℤ, sub_ℕ, nat_abs, ◌+ℤ◌, ◌*ℤ◌}
use lib.Signed.{◌≤ℤ◌, ◌<ℤ◌, le_z, lt_z, mag, quot_z, rem_z, non_neg}
use mir.Syntax.{w64}
use mir.Val.{SFits, Fits, to_z, of_z}
use mir.Facts.{to_z-of_z, to_z_pos}
use Rattle.numbers.specs.Integers.{up, dn, Within, by_mag}
use Rattle.numbers.specs.Inner.{with_sign}

-- one of the two is 0
pub one_side : (z : ℤ) → min (up z) (dn z) ≡ 0
one_side (pos n) = omega arith
one_side (negsuc n) = omega arith

-- ---- the parts of each operation
pub up-sub : (a b : ℕ) → up (sub_ℕ a b) ≡ a - b
up-sub a b = go (ltb a b) (ltb→lt a b) (nltb→le a b)
  where
    go : (t : Bool) → (T t → a < b) → (T (not t) → b ≤ a) → up (cond t (negsuc (b - suc a)) (pos (a - b))) ≡ a - b
    go true f g = let h : a < b = f tt in omega arith
    go false f g = refl

pub dn-sub : (a b : ℕ) → dn (sub_ℕ a b) ≡ b - a
dn-sub a b = go (ltb a b) (ltb→lt a b) (nltb→le a b)
  where
    go : (t : Bool) → (T t → a < b) → (T (not t) → b ≤ a) → dn (cond t (negsuc (b - suc a)) (pos (a - b))) ≡ b - a
    go true f g = let h : a < b = f tt in omega arith
    go false f g = let h : b ≤ a = g tt in omega arith

pub up-add : (x y : ℤ) → up (x +ℤ y) ≡ (up x + up y) - (dn x + dn y)
up-add (pos a) (pos b) = omega arith
up-add (pos a) (negsuc b) = omega (arith, up-sub a (suc b))
up-add (negsuc a) (pos b) = omega (arith, up-sub b (suc a))
up-add (negsuc a) (negsuc b) = omega arith

pub dn-add : (x y : ℤ) → dn (x +ℤ y) ≡ (dn x + dn y) - (up x + up y)
dn-add (pos a) (pos b) = omega arith
dn-add (pos a) (negsuc b) = omega (arith, dn-sub a (suc b))
dn-add (negsuc a) (pos b) = omega (arith, dn-sub b (suc a))
dn-add (negsuc a) (negsuc b) = omega arith

pub up_neg : (x : ℤ) → up (neg_ℤ x) ≡ dn x
up_neg (pos zero) = refl
up_neg (pos (suc n)) = refl
up_neg (negsuc n) = refl

pub dn-neg : (x : ℤ) → dn (neg_ℤ x) ≡ up x
dn-neg (pos zero) = refl
dn-neg (pos (suc n)) = refl
dn-neg (negsuc n) = refl

pub up-mul : (x y : ℤ) → up (x *ℤ y) ≡ up x * up y + dn x * dn y
up-mul (pos a) (pos b) = simp (mul-zero, add-zero)
up-mul (pos a) (negsuc b) = simp (up_neg, mul-zero, zero-mul, zero-add)
up-mul (negsuc a) (pos b) = simp (up_neg, mul-zero, zero-mul, zero-add)
up-mul (negsuc a) (negsuc b) = simp (mul-zero, zero-add)

pub dn-mul : (x y : ℤ) → dn (x *ℤ y) ≡ up x * dn y + dn x * up y
dn-mul (pos a) (pos b) = simp (mul-zero, zero-mul, zero-add)
dn-mul (pos a) (negsuc b) = simp (dn-neg, mul-zero, zero-mul, add-zero)
dn-mul (negsuc a) (pos b) = simp (dn-neg, mul-zero, zero-mul, zero-add)
dn-mul (negsuc a) (negsuc b) = simp (mul-zero, zero-mul, zero-add)

-- division toward zero by a natural number goes part by part, and so does its remainder
pub up-quot : (x : ℤ) (k : ℕ) → up (quot_z x (pos k)) ≡ up x / k
up-quot (pos a) k = refl
up-quot (negsuc a) k = up_neg (pos (suc a / k)) ∙ sym (zero-div k)

pub dn-quot : (x : ℤ) (k : ℕ) → dn (quot_z x (pos k)) ≡ dn x / k
dn-quot (pos a) k = sym (zero-div k)
dn-quot (negsuc a) k = dn-neg (pos (suc a / k))

pub up-rem : (x : ℤ) (k : ℕ) → up (rem_z x (pos k)) ≡ up x % k
up-rem (pos a) k = refl
up-rem (negsuc a) k = up_neg (pos (suc a % k)) ∙ sym (zero-mod k)

pub dn-rem : (x : ℤ) (k : ℕ) → dn (rem_z x (pos k)) ≡ dn x % k
dn-rem (pos a) k = sym (zero-mod k)
dn-rem (negsuc a) k = dn-neg (pos (suc a % k))

-- ---- equality, order and range by the parts
pub ext : (x y : ℤ) → up x + dn y ≡ up y + dn x → x ≡ y
ext (pos a) (pos b) h = ap pos (omega arith)
ext (pos a) (negsuc b) h = absurd (omega arith)
ext (negsuc a) (pos b) h = absurd (omega arith)
ext (negsuc a) (negsuc b) h = ap negsuc (omega arith)

pub parts-le : {x y : ℤ} → x ≤ℤ y → (up x ≤ up y) × (dn y ≤ dn x)
parts-le {x = pos a} {y = pos b} h = let k : a ≤ b = leb→le a b h.le in omega arith
parts-le {x = pos a} {y = negsuc b} h = absurd h.le
parts-le {x = negsuc a} {y = pos b} h = omega arith
parts-le {x = negsuc a} {y = negsuc b} h = let k : b ≤ a = leb→le b a h.le in omega arith

le← : (x y : ℤ) → up x + dn y ≤ up y + dn x → T (le_z x y)
le← (pos a) (pos b) h = le→leb a b (omega arith)
le← (pos a) (negsuc b) h = absurd (omega arith)
le← (negsuc a) (pos b) h = tt
le← (negsuc a) (negsuc b) h = le→leb b a (omega arith)

pub ←le : {x y : ℤ} → up x + dn y ≤ up y + dn x → x ≤ℤ y
←le {x} {y} h = record { le = le← x y h }

pub lt→ : {x y : ℤ} → x <ℤ y → up x + dn y < up y + dn x
lt→ {x = pos a} {y = pos b} h = let k : a < b = ltb→lt a b h.lt in omega arith
lt→ {x = pos a} {y = negsuc b} h = absurd h.lt
lt→ {x = negsuc a} {y = pos b} h = omega arith
lt→ {x = negsuc a} {y = negsuc b} h = let k : b < a = ltb→lt b a h.lt in omega arith

lt← : (x y : ℤ) → up x + dn y < up y + dn x → T (lt_z x y)
lt← (pos a) (pos b) h = lt→ltb a b (omega arith)
lt← (pos a) (negsuc b) h = absurd (omega arith)
lt← (negsuc a) (pos b) h = tt
lt← (negsuc a) (negsuc b) h = lt→ltb b a (omega arith)

pub ←lt : {x y : ℤ} → up x + dn y < up y + dn x → x <ℤ y
←lt {x} {y} h = record { lt = lt← x y h }

mag← : (z : ℤ) {H : ℕ} → up z < H → dn z ≤ H → mag z < H
mag← (pos n) h k = h
mag← (negsuc n) h k = k

mag→ : (z : ℤ) {H : ℕ} → mag z < H → (up z < H) × (dn z ≤ H)
mag→ (pos n) h = omega arith
mag→ (negsuc n) h = omega arith

pub ←fits : {z : ℤ} → up z < 2 ^ 63 → dn z ≤ 2 ^ 63 → SFits w64 z
←fits {z} h k = record { sfits = mag← z h k }

pub fits→ : {z : ℤ} → SFits w64 z → (up z < 2 ^ 63) × (dn z ≤ 2 ^ 63)
fits→ {z} h = mag→ z h.sfits

-- a test of two numbers, taken or not
pub lt_z-true : (x y : ℤ) → lt_z x y ≡ true → up x + dn y < up y + dn x
lt_z-true x y e = lt→ {x = x} {y = y} (record { lt = subst T (sym e) tt })

pub lt_z-false : (x y : ℤ) → lt_z x y ≡ false → up y + dn x ≤ up x + dn y
lt_z-false (pos a) (pos b) e = let k : b ≤ a = nltb→le a b (subst (λ t. T (not t)) (sym e) tt) in omega arith
lt_z-false (pos a) (negsuc b) e = omega arith
lt_z-false (negsuc a) (pos b) e = absurd (subst T e tt)
lt_z-false (negsuc a) (negsuc b) e = let k : a ≤ b = nltb→le b a (subst (λ t. T (not t)) (sym e) tt) in omega arith

-- ---- the ring's laws
pub add_z : (x y : ℤ) → up (x +ℤ y) + (dn x + dn y) ≡ (up x + up y) + dn (x +ℤ y)
add_z x y = omega (arith, up-add x y, dn-add x y)

pub *ℤ-assoc : (x y z : ℤ) → (x *ℤ y) *ℤ z ≡ x *ℤ (y *ℤ z)
*ℤ-assoc x y z = ext _ _ (simp (up-mul, dn-mul, mul-add, add-mul, mul_assoc) (omega arith))

pub *ℤ-+ℤ : (x y z : ℤ) → x *ℤ (y +ℤ z) ≡ x *ℤ y +ℤ x *ℤ z
*ℤ-+ℤ x y z =
    ext _ _
    (omega (arith, up-mul x (y +ℤ z), dn-mul x (y +ℤ z), add_z (x *ℤ y) (x *ℤ z), up-mul x y, dn-mul x y, up-mul x z, dn-mul x z, simp mul-add at (ap (λ (n : ℕ). up x * n) (add_z y z)), simp mul-add at (ap (λ (n : ℕ). dn x * n) (add_z y z))))

pub one-*ℤ : (x : ℤ) → pos 1 *ℤ x ≡ x
one-*ℤ x = ext _ _ (omega (arith, up-mul (pos 1) x, dn-mul (pos 1) x))

pub neg-*ℤ : (x y : ℤ) → neg_ℤ x *ℤ y ≡ neg_ℤ (x *ℤ y)
neg-*ℤ x y = ext _ _ (simp (up_neg, dn-neg, up-mul, dn-mul) (omega arith))

-- a bound on a product of two bounded numbers
pub mul-bound : (x y : ℤ) {a b : ℕ} → up x ≤ a → dn x ≤ a → up y ≤ b → dn y ≤ b → (up (x *ℤ y) ≤ a * b) × (dn (x *ℤ y) ≤ a * b)
mul-bound (pos m) (pos n) h h' k k' = (mul-le-mul h k, zero-le)
mul-bound (pos m) (negsuc n) h h' k k' = simp (up_neg, dn-neg) (zero-le, mul-le-mul h k')
mul-bound (negsuc m) (pos n) h h' k k' = simp (up_neg, dn-neg) (zero-le, mul-le-mul h' k)
mul-bound (negsuc m) (negsuc n) h h' k k' = (mul-le-mul h' k', zero-le)

-- ---- what `omega` reads and proves: `omega int`. A fact of ℤ is read as one of the parts, and a goal is proved as one
pub le→ : {x y : ℤ} → x ≤ℤ y → up x + dn y ≤ up y + dn x
le→ h = omega (arith, parts-le h)

pub le_z-true : (x y : ℤ) → le_z x y ≡ true → up x + dn y ≤ up y + dn x
le_z-true x y e = let h : x ≤ℤ y = record { le = subst T (sym e) tt } in omega (arith, parts-le h)

pub le_z-false : (x y : ℤ) → le_z x y ≡ false → up y + dn x < up x + dn y
le_z-false (pos a) (pos b) e = let h : b < a = nleb→lt a b (subst (λ t. T (not t)) (sym e) tt) in omega arith
le_z-false (pos a) (negsuc b) e = omega arith
le_z-false (negsuc a) (pos b) e = absurd (subst T e tt)
le_z-false (negsuc a) (negsuc b) e = let h : a < b = nleb→lt b a (subst (λ t. T (not t)) (sym e) tt) in omega arith

-- a number that fits is read back from its bits
pub back : {z : ℤ} → SFits w64 z → to_z w64 (of_z w64 z) ≡ z
back h = to_z-of_z h

pub within-fits : {n : ℕ} {z : ℤ} → Within n z → n < 2 ^ 63 → SFits w64 z
within-fits w h = ←fits (omega arith) (omega arith)

pub ruleset int = (arith, le→, lt→, lt_z-true, lt_z-false, le_z-true, le_z-false, ←le, ←lt)

pub not-zero : (z : ℤ) → (of_z w64 z ≡ 0 → ⊥) → 0 < up z + dn z
not-zero (pos zero) h = absurd (h refl)
not-zero (pos (suc n)) h = omega arith
not-zero (negsuc n) h = omega arith

pub abs-parts : (z : ℤ) → nat_abs z ≡ up z + dn z
abs-parts (pos n) = omega arith
abs-parts (negsuc n) = omega arith

-- an unsigned number, cast to a signed one
pub back-pos : {n : ℕ} → n < 2 ^ 63 → to_z w64 n ≡ pos n
back-pos h = to_z_pos w64 h

pub pos-fits : {n : ℕ} → n < 2 ^ 63 → SFits w64 (pos n)
pos-fits h = record { sfits = h }

-- what a cast to an unsigned type asks
pub abs-up : (z : ℤ) → dn z ≡ 0 → nat_abs z ≡ up z
abs-up (pos n) h = refl
abs-up (negsuc n) h = absurd (omega arith)

pub to-unsigned : (z : ℤ) → SFits w64 z → dn z ≡ 0 → T (non_neg z) × Fits w64 (nat_abs z)
to-unsigned (pos n) f h = (tt, omega (arith, fits→ f))
to-unsigned (negsuc n) f h = absurd (omega arith)

pub ruleset parts = (up_neg, dn-neg, up-mul, dn-mul, up-quot, dn-quot, up-rem, dn-rem)

-- ---- a number by its sign and its magnitude
pub by_sign : (f : ℕ → ℕ) (z : ℤ) → with_sign (lt_z z (pos 0)) (f (nat_abs z)) ≡ by_mag f z
by_sign f (pos n) = go (lt_z (pos n) (pos 0)) refl
  where
    go : (b : Bool) → lt_z (pos n) (pos 0) ≡ b → with_sign b (f n) ≡ pos (f n)
    go true e = absurd (let k = lt_z-true (pos n) (pos 0) e in omega arith)
    go false e = refl
by_sign f (negsuc n) = refl

pub up-sign : (b : Bool) (m : ℕ) → up (with_sign b m) ≤ m
up-sign true m = omega (arith, up_neg (pos m))
up-sign false m = omega arith

pub dn-sign : (b : Bool) (m : ℕ) → dn (with_sign b m) ≤ m
dn-sign true m = omega (arith, dn-neg (pos m))
dn-sign false m = omega arith

pub within-sign : (b : Bool) {m n : ℕ} → m ≤ n → Within n (with_sign b m)
within-sign b {m} h = omega (arith, up-sign b m, dn-sign b m)

pub within-abs : {n : ℕ} {z : ℤ} → Within n z → nat_abs z ≤ n
within-abs {z = z} w = omega (arith, abs-parts z, one_side z)

pub within-mul : {a b : ℕ} {x y : ℤ} → Within a x → Within b y → Within (a * b) (x *ℤ y)
within-mul {x = x} {y = y} h k = let m = mul-bound x y h.below h.above k.below k.above in record { above = m.1; below = m.0 }
