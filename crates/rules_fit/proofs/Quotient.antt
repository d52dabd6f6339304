-- The quotient of two whole numbers that the format counts without a gap is the rounded fraction. Assumes nothing.
use mathlib.Core.Path.{◌≡◌, refl, sym, ap, ◌∙◌, subst}
use mathlib.Core.Bool.{Bool, true, false, not}
use Prim.Native.Nat.{ℕ, suc, ◌*◌, ◌^◌, ◌<◌}
use native.Mathlib.Nat.{mul-one, mul_comm, mul_assoc, mul_right_comm, mul-pos, lt_irrefl, zero-mul, le_of_lt}
use native.Mathlib.Omega.{arith}
use lib.Dec.{T, le→leb, lt→ltb, ltb→lt}
use lib.IntN.{ℤ, pos, negsuc, nat_abs}
use lib.Signed.{non_neg, ◌<ℤ◌}
use lib.Ieee.{Float, nan, inf, fin, Format, binary64, up, down, unlike, round, div, of_int, in_float, fits}
use lib.Ieee.Exact.{HasValue}
use lib.Ieee.Back.{round_whole, whole_unique}
use lib.Ieee.Fits.{up_pos, down_pos, round-fits}
use lib.Ieee.Scale.{round_same}
use lib.Ieee.Positive.{first_pos}
use borrow.Author.Tests.{ne_eqb}
use Rattle.rules_fit.specs.Nearest.{Nearest, nearest_float}
use Rattle.rules_fit.proofs.Closest.{round-best}

-- unlike s false is s
unlike-false : (s : Bool) → unlike s false ≡ s
unlike-false true = refl
unlike-false false = refl

-- (m * U) / V = a and (n * Y) / Z = c, so the quotient is a / c
cross : (m u v a n y z c : ℕ) → m * u ≡ a * v → n * y ≡ c * z → m * u * z * c ≡ a * (n * y * v)
cross m u v a n y z c p q =
    ap (λ (x : ℕ). x * z * c) p ∙ ap (λ (x : ℕ). x * c) (mul_assoc a v z) ∙ mul_assoc a (v * z) c
    ∙ ap (λ (x : ℕ). a * x) (mul_right_comm v z c ∙ ap (λ (x : ℕ). x * z) (mul_comm v c) ∙ mul_right_comm c v z ∙ ap (λ (x : ℕ). x * v) (sym q))

at_one : (x : ℕ) {y : ℕ} → x * 1 ≡ y → x ≡ y
at_one x e = sym (mul-one x) ∙ e

not-zero : (n y c z : ℕ) → n * y ≡ c * z → 0 < c → 0 < z → 0 < n
not-zero n y c z e C Z = first_pos n y (subst (λ (k : ℕ). 0 < k) (sym e) (mul-pos C Z))

div-values : (f : Format) (x y : Float) (s : Bool) (a c : ℕ) → 0 < c → HasValue x s a 1 → HasValue y false c 1 → div f x y ≡ round f s a c
unfolding div
div-values f nan y s a c C h k = absurd h
div-values f (inf t) y s a c C h k = absurd h
div-values f (fin t m e) nan s a c C h k = absurd k
div-values f (fin t m e) (inf u) s a c C h k = absurd k
div-values f (fin t m e) (fin u n d) s a c C h k =
    let p : m * up e ≡ a * down e = at_one (m * up e) h.1 in
    let q : n * up d ≡ c * down d = at_one (n * up d) k.1 in
    let N : 0 < n = not-zero n (up d) c (down d) q C (down_pos d) in
    rw (ne_eqb n 0 (λ (z : n ≡ 0). lt_irrefl 0 (subst (λ (x : ℕ). 0 < x) z N)))
    (rw (h.0, k.0, unlike-false s) (round_same f s (m * up e * down d) (n * up d * down e) a c (mul-pos (mul-pos N (up_pos d)) (down_pos e)) C (cross m (up e) (down e) a n (up d) (down d) c p q)))

pub below : (b : ℤ) → nat_abs b < 2 ^ 53 → T (in_float binary64 b)
unfolding in_float
below (pos n) h = le→leb n (2 ^ 53) (le_of_lt h)
below (negsuc n) h = lt→ltb n (2 ^ 53) (omega (arith, h))

whole-value : (b : ℤ) → nat_abs b < 2 ^ 53 → HasValue (of_int binary64 b) (not (non_neg b)) (nat_abs b) 1
unfolding of_int
whole-value (pos n) h = round_whole binary64 false n (le_of_lt h)
whole-value (negsuc n) h = round_whole binary64 true (suc n) (le_of_lt h)

above : (d : ℤ) → pos 0 <ℤ d → (non_neg d ≡ true) × (0 < nat_abs d)
above (pos n) h = (refl, ltb→lt 0 n h.lt)
above (negsuc n) h = absurd h.lt

-- one division of two whole numbers below 2 ^ 53 is the fraction rounded once
pub quotient : (b d : ℤ) → nat_abs b < 2 ^ 53 → nat_abs d < 2 ^ 53 → pos 0 <ℤ d → div binary64 (of_int binary64 b) (of_int binary64 d) ≡ nearest_float b d
unfolding nearest_float
quotient b d h k p =
    div-values binary64 (of_int binary64 b) (of_int binary64 d) (not (non_neg b)) (nat_abs b) (nat_abs d) (above d p).1 (whole-value b h)
    (subst (λ (s : Bool). HasValue (of_int binary64 d) (not s) (nat_abs d) 1) (above d p).0 (whole-value d k))

-- zero is +0
zero_is : (f : Format) (c : ℕ) → 0 < c → round f false 0 c ≡ fin false 0 (pos 0)
unfolding fits
zero_is f c C =
    round_same f false 0 c 0 1 C (omega arith) (zero-mul 1 ∙ sym (zero-mul c))
    ∙ whole_unique f (round f false 0 1) (fin false 0 (pos 0)) false 0 (round-fits f false 0 1) tt (round_whole f false 0 (omega arith)) (refl, refl)

-- and no f64 is nearer
pub rounded-nearest : (b d : ℤ) → nat_abs b < 2 ^ 53 → pos 0 <ℤ d → Nearest b d (nearest_float b d)
unfolding nearest_float
rounded-nearest b d h p =
    record {
      best = round-best binary64 (not (non_neg b)) (nat_abs b) (nat_abs d) (above d p).1 h;
      zero = λ z. ap (λ (x : ℤ). round binary64 (not (non_neg x)) (nat_abs x) (nat_abs d)) z ∙ zero_is binary64 (nat_abs d) (above d p).1;
    }
