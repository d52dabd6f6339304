-- `round` gives a value that no finite value of its format is nearer than. Assumes nothing.
use mathlib.Core.Path.{◌≡◌, refl, sym, ap, ◌∙◌, subst}
use mathlib.Core.Logic.{◌⊎◌, inl, inr}
use mathlib.Core.Bool.{Bool, true, false, cond, not, ◌&&◌, beq}
use Prim.Native.Nat.{ℕ, zero, suc, ◌+◌, ◌-◌, ◌*◌, ◌/◌, ◌%◌, ◌^◌, ◌≤◌, ◌<◌, compare, Ordering}
use native.Mathlib.Nat.{le_trans, le_of_eq, le_of_lt, lt_of_not-le, mul-one, one-mul, zero-mul, mul_comm, mul_assoc, mul_right_comm, add-mul, mul-sub, suc-mul, mul-pos, mul-le-mul_right, le_of_mul-le-mul_right, le-mul_of_pos_right, two-pow-succ, div-add-mod', mod-lt, le-div_iff_mul-le, not-le_of_lt}
use native.Mathlib.Decide.{dec_le}
use native.Mathlib.Omega.{arith}
use lib.Dec.{T, is_le, compare_is_eq, eqb, leb, ltb, leb→le, nleb→lt, eqb→eq, eqb_refl, ltb→lt, lit≤}
use lib.Arith.{lt_of_le-ne}
use lib.Pow.{pow-add, pow_pos, pow_mono, pow-lt, shl_lt}
use lib.IntN.{ℤ, pos, negsuc}
use lib.Ieee.{Float, nan, inf, fin, Format, binary32, binary64, prec, emax, low, up, down, nearest, round, fits}
use lib.Ieee.Digits.{size_reaches, back}
use lib.Ieee.Exact.{HasValue, units_val}
use lib.Ieee.Fits.{and_l, and_r, round_is}
use lib.Ieee.Nearest.{closest}
use lib.Ieee.Order.{drop, kept}
use lib.Ieee.Scale.{grid, overflow}
use Rattle.numbers.specs.Integers.{distance_of}
use Rattle.rules_fit.specs.Nearest.{signed_distance, Best}

-- ---- the nearest whole number
abbrev Cmp : Ordering → ℕ → ℕ → Type 0
Cmp Ordering.lt a b = a < b
Cmp Ordering.eq a b = a ≡ b
Cmp Ordering.gt a b = b < a

cmp : (a b : ℕ) → Cmp (compare a b) a b
cmp a b = go (compare a b) (leb→le a b) (nleb→lt a b) (eqb→eq a b) (λ (e : a ≡ b). subst (λ (x : ℕ). T (eqb a x)) e (eqb_refl a))
  where
    go : (o : Ordering) → (T (is_le o) → a ≤ b) → (T (not (is_le o)) → b < a) → (T (compare_is_eq o) → a ≡ b) → (a ≡ b → T (compare_is_eq o)) → Cmp o a b
    go Ordering.lt h k e n = lt_of_le-ne (h tt) n
    go Ordering.eq h k e n = e tt
    go Ordering.gt h k e n = k tt

-- z is q or less, or more than q
sides : (q z b : ℕ) → (z * b ≤ q * b) ⊎ (q * b + b ≤ z * b)
sides q z b = go (dec_le z q)
  where
    go : Dec (z ≤ q) → (z * b ≤ q * b) ⊎ (q * b + b ≤ z * b)
    go (yes h) = inl (mul-le-mul_right b h)
    go (no h) = inr (le_trans (le_of_eq (sym (suc-mul q b))) (mul-le-mul_right b (lt_of_not-le h)))

even : (q : ℕ) → (q + q % 2 ≡ q) ⊎ (q + q % 2 ≡ suc q)
even q = go (dec_le (q % 2) 0)
  where
    go : Dec (q % 2 ≤ 0) → (q + q % 2 ≡ q) ⊎ (q + q % 2 ≡ suc q)
    go (yes h) = inl (omega arith)
    go (no h) = inr (omega arith)

-- with Q = q * b, Z = z * b
down-best : (Q r b a Z : ℕ) → Q + r ≡ a → r < b → r * 2 ≤ b → (Z ≤ Q) ⊎ (Q + b ≤ Z) → distance_of Q a ≤ distance_of Z a
down-best Q r b a Z e h k (inl x) = omega arith
down-best Q r b a Z e h k (inr x) = omega arith

up-best : (Q r b a Z : ℕ) → Q + r ≡ a → r < b → b ≤ r * 2 → (Z ≤ Q) ⊎ (Q + b ≤ Z) → distance_of (Q + b) a ≤ distance_of Z a
up-best Q r b a Z e h k (inl x) = omega arith
up-best Q r b a Z e h k (inr x) = omega arith

module _ (a b z : ℕ) (B : 0 < b) where
  Down : b ≡ b → a % b * 2 ≤ b → distance_of (a / b * b) a ≤ distance_of (z * b) a
  Down _ h = down-best (a / b * b) (a % b) b a (z * b) (div-add-mod' a b) (mod-lt a B) h (sides (a / b) z b)

  Up : b ≡ b → b ≤ a % b * 2 → distance_of (suc (a / b) * b) a ≤ distance_of (z * b) a
  Up _ h = rw suc-mul (up-best (a / b * b) (a % b) b a (z * b) (div-add-mod' a b) (mod-lt a B) h (sides (a / b) z b))

  tie : a % b * 2 ≡ b → (a / b + a / b % 2 ≡ a / b) ⊎ (a / b + a / b % 2 ≡ suc (a / b)) → distance_of ((a / b + a / b % 2) * b) a ≤ distance_of (z * b) a
  tie h (inl e) = rw e (Down refl (le_of_eq h))
  tie h (inr e) = rw e (Up refl (le_of_eq (sym h)))

  pub closest-best : distance_of (closest a b * b) a ≤ distance_of (z * b) a
  closest-best = go (compare (a % b * 2) b) (cmp (a % b * 2) b)
    where
      go : (o : Ordering) → Cmp o (a % b * 2) b → distance_of (nearest (a / b) o * b) a ≤ distance_of (z * b) a
      go Ordering.lt h = Down refl (le_of_lt h)
      go Ordering.eq h = tie h (even (a / b))
      go Ordering.gt h = Up refl (le_of_lt h)

-- ---- the nearest of a format's values, in units of its smallest: they are the q * 2 ^ j with q < 2 ^ prec
module _ (p n d : ℕ) (D : 0 < d) (P : 0 < p) where
  abbrev k : ℕ
  k = drop p n d

  regroup : (c : ℕ) → c * (d * 2 ^ k) ≡ c * 2 ^ k * d
  regroup c = ap (λ (x : ℕ). c * x) (mul_comm d (2 ^ k)) ∙ sym (mul_assoc c (2 ^ k) d)

  against : (z : ℕ) → distance_of (kept p n d * 2 ^ k * d) n ≤ distance_of (z * 2 ^ k * d) n
  against z = rw (← regroup (kept p n d), ← regroup z) (closest-best n (d * 2 ^ k) z (mul-pos D (pow_pos k)))

  coarse : (q j : ℕ) → k ≤ j → distance_of (kept p n d * 2 ^ k * d) n ≤ distance_of (q * 2 ^ j * d) n
  coarse q j h =
      let e : q * 2 ^ (j - k) * 2 ^ k ≡ q * 2 ^ j = mul_assoc q (2 ^ (j - k)) (2 ^ k) ∙ ap (λ (x : ℕ). q * x) (sym (pow-add 2 (j - k) k) ∙ ap (λ (x : ℕ). 2 ^ x) (back j k h)) in
      rw (← e) (against (q * 2 ^ (j - k)))

  -- where j is below k, the value lies below 2 ^ (p - 1 + k), which is on the coarse grid and not above the fraction
  fine : (q j : ℕ) → q < 2 ^ p → j < k → distance_of (kept p n d * 2 ^ k * d) n ≤ distance_of (q * 2 ^ j * d) n
  fine q j h l =
      let m : 2 ^ (p - 1) * 2 ^ k ≤ n / d = le_trans (le_of_eq (sym (pow-add 2 (p - 1) k))) (size_reaches (n / d) (p - 1 + k) (omega arith)) in
      let m' : 2 ^ (p - 1) * 2 ^ k * d ≤ n = (le-div_iff_mul-le D).0 m in
      let b : q * 2 ^ j * d ≤ 2 ^ (p - 1) * 2 ^ k * d = mul-le-mul_right d (le_trans (le_of_lt (shl_lt p j h)) (le_trans (pow_mono (omega arith)) (le_of_eq (pow-add 2 (p - 1) k)))) in
      let c : distance_of (kept p n d * 2 ^ k * d) n ≤ distance_of (2 ^ (p - 1) * 2 ^ k * d) n = against (2 ^ (p - 1)) in
      omega arith

  pub units-best : (q j : ℕ) → q < 2 ^ p → distance_of (kept p n d * 2 ^ k * d) n ≤ distance_of (q * 2 ^ j * d) n
  units-best q j h = go (dec_le k j)
    where
      go : Dec (k ≤ j) → distance_of (kept p n d * 2 ^ k * d) n ≤ distance_of (q * 2 ^ j * d) n
      go (yes l) = coarse q j l
      go (no l) = fine q j h (lt_of_not-le l)

-- ---- distances scale
dist-mul : (a b c : ℕ) → distance_of (a * c) (b * c) ≡ distance_of a b * c
dist-mul a b c = sym (add-mul (a - b) (b - a) c ∙ ap (λ (x : ℕ). x + (b - a) * c) (sub-mul a b c) ∙ ap (λ (x : ℕ). a * c - b * c + x) (sub-mul b a c))
  where
    sub-mul : (x y z : ℕ) → (x - y) * z ≡ x * z - y * z
    sub-mul x y z = mul_comm (x - y) z ∙ mul-sub z x y ∙ ap (λ (w : ℕ). w - z * y) (mul_comm z x) ∙ ap (λ (w : ℕ). x * z - w) (mul_comm z y)

apart-mul : (s : Bool) (a : ℕ) (t : Bool) (b c : ℕ) → signed_distance s (a * c) t (b * c) ≡ signed_distance s a t b * c
apart-mul s a t b c = go (beq s t)
  where
    go : (e : Bool) → cond e (distance_of (a * c) (b * c)) (a * c + b * c) ≡ cond e (distance_of a b) (a + b) * c
    go true = dist-mul a b c
    go false = sym (add-mul a b c)

-- a float of the value x / l, with l = 2 ^ low: its distance from n / d, in the float's terms and in units
module _ (s σ : Bool) (mu de x l n d : ℕ) (v : mu * l ≡ x * de) where
  in-units : signed_distance s (mu * d) σ (n * de) * l ≡ signed_distance s (x * d) σ (n * l) * de
  in-units =
      sym (apart-mul s (mu * d) σ (n * de) l)
      ∙ ap (λ (y : ℕ). signed_distance s y σ (n * de * l)) (mul_right_comm mu d l ∙ ap (λ (y : ℕ). y * d) v ∙ mul_right_comm x de d)
      ∙ ap (λ (y : ℕ). signed_distance s (x * d * de) σ y) (mul_right_comm n de l)
      ∙ apart-mul s (x * d) σ (n * l) de

same_sign : (s : Bool) (a b : ℕ) → signed_distance s a s b ≡ distance_of a b
same_sign true a b = refl
same_sign false a b = refl

-- a value of the format, in units
reach-exp : (t L : ℕ) → 2 ^ t ≤ 2 ^ L → t ≤ L
reach-exp t L h = go (dec_le t L)
  where
    go : Dec (t ≤ L) → t ≤ L
    go (yes k) = k
    go (no k) = absurd (not-le_of_lt (pow-lt (lt_of_not-le k)) h)

unit-exp : (L : ℕ) (e : ℤ) → down e ≤ 2 ^ L → (j : ℕ) × (up e * 2 ^ L ≡ 2 ^ j * down e)
unit-exp L (pos t) h = (t + L, sym (pow-add 2 t L) ∙ sym (mul-one (2 ^ (t + L))))
unit-exp L (negsuc t) h = (L - suc t, one-mul (2 ^ L) ∙ ap (λ (x : ℕ). 2 ^ x) (sym (back L (suc t) (reach-exp (suc t) L h))) ∙ pow-add 2 (L - suc t) (suc t))

fits-units : (f : Format) (t : Bool) (m : ℕ) (e : ℤ) → T (fits f (fin t m e)) → (m < 2 ^ prec f) × ((j : ℕ) × (m * up e * 2 ^ low f ≡ m * 2 ^ j * down e))
unfolding fits
fits-units f t zero e h = (pow_pos (prec f), (0, rw (zero-mul, zero-mul, zero-mul)))
fits-units f t (suc m) e h =
    let a : T (eqb (suc m % 2) 1 && ltb (suc m) (2 ^ prec f) && leb (down e) (2 ^ low f)) = and_l (eqb (suc m % 2) 1 && ltb (suc m) (2 ^ prec f) && leb (down e) (2 ^ low f)) (ltb (suc m * up e) (2 ^ suc (emax f) * down e)) h in
    let b : T (eqb (suc m % 2) 1 && ltb (suc m) (2 ^ prec f)) = and_l (eqb (suc m % 2) 1 && ltb (suc m) (2 ^ prec f)) (leb (down e) (2 ^ low f)) a in
    let j = unit-exp (low f) e (leb→le (down e) (2 ^ low f) (and_r (eqb (suc m % 2) 1 && ltb (suc m) (2 ^ prec f)) (leb (down e) (2 ^ low f)) a)) in
    (ltb→lt (suc m) (2 ^ prec f) (and_r (eqb (suc m % 2) 1) (ltb (suc m) (2 ^ prec f)) b), (j.0, mul_assoc (suc m) (up e) (2 ^ low f) ∙ ap (λ (x : ℕ). suc m * x) j.1 ∙ sym (mul_assoc (suc m) (2 ^ j.0) (down e))))

prec-pos : (f : Format) → 0 < prec f
prec-pos binary32 = lit≤ tt
prec-pos binary64 = lit≤ tt

room : (f : Format) → suc (prec f + low f) ≤ low f + suc (emax f)
room binary32 = lit≤ tt
room binary64 = lit≤ tt

small : (x xd N z B C O : ℕ) → distance_of xd N ≤ distance_of z N → z ≡ 0 → x ≤ xd → N < B → C ≡ B + B → C ≤ O → x < O
small x xd N z B C O h w a b c e = omega arith

module _ (f : Format) (σ : Bool) (n d : ℕ) (D : 0 < d) where
  -- in units
  best-units : (t : Bool) (q j : ℕ) → q < 2 ^ prec f → distance_of (grid f n d * d) (n * 2 ^ low f) ≤ signed_distance t (q * 2 ^ j * d) σ (n * 2 ^ low f)
  best-units t q j h = go (beq t σ)
    where
      go : (e : Bool) → distance_of (grid f n d * d) (n * 2 ^ low f) ≤ cond e (distance_of (q * 2 ^ j * d) (n * 2 ^ low f)) (q * 2 ^ j * d + n * 2 ^ low f)
      go true = units-best (prec f) (n * 2 ^ low f) d D (prec-pos f) q j h
      go false =
          let z : distance_of (grid f n d * d) (n * 2 ^ low f) ≤ distance_of (0 * 2 ^ 0 * d) (n * 2 ^ low f) = units-best (prec f) (n * 2 ^ low f) d D (prec-pos f) 0 0 (pow_pos (prec f)) in
          let w : 0 * 2 ^ 0 * d ≡ 0 = zero-mul d in
          omega arith

  under : n < 2 ^ prec f → grid f n d < overflow f
  under h =
      let z : distance_of (grid f n d * d) (n * 2 ^ low f) ≤ distance_of (0 * 2 ^ 0 * d) (n * 2 ^ low f) = units-best (prec f) (n * 2 ^ low f) d D (prec-pos f) 0 0 (pow_pos (prec f)) in
      let w : 0 * 2 ^ 0 * d ≡ 0 = zero-mul d in
      let a : grid f n d ≤ grid f n d * d = le-mul_of_pos_right (grid f n d) D in
      let b : n * 2 ^ low f < 2 ^ (prec f + low f) = shl_lt (prec f) (low f) h in
      let c : 2 ^ suc (prec f + low f) ≡ 2 ^ (prec f + low f) + 2 ^ (prec f + low f) = two-pow-succ (prec f + low f) in
      let e : 2 ^ suc (prec f + low f) ≤ overflow f = pow_mono (room f) in
      small (grid f n d) (grid f n d * d) (n * 2 ^ low f) (0 * 2 ^ 0 * d) (2 ^ (prec f + low f)) (2 ^ suc (prec f + low f)) (overflow f) z w a b c e

  best_of : (x : Float) → HasValue x σ (grid f n d) (2 ^ low f) → Best f x σ n d
  best_of nan v = v
  best_of (inf s) v = v
  best_of (fin s m e) v = λ t q g h.
      let y = fits-units f t q g h in
      let L = 2 ^ low f in
      let Y = q * 2 ^ y.1.0 in
      let b : distance_of (grid f n d * d) (n * L) ≤ signed_distance t (Y * d) σ (n * L) = best-units t q y.1.0 y.0 in
      let x1 : signed_distance s (m * up e * d) σ (n * down e) * L ≡ distance_of (grid f n d * d) (n * L) * down e
      = in-units s σ (m * up e) (down e) (grid f n d) L n d v.1 ∙ ap (λ (r : Bool). signed_distance r (grid f n d * d) σ (n * L) * down e) v.0 ∙ ap (λ (r : ℕ). r * down e) (same_sign σ (grid f n d * d) (n * L)) in
      let y1 : signed_distance t (q * up g * d) σ (n * down g) * L ≡ signed_distance t (Y * d) σ (n * L) * down g = in-units t σ (q * up g) (down g) Y L n d y.1.1 in
      le_of_mul-le-mul_right {k = L}
      (le_trans (le_of_eq (mul_right_comm (signed_distance s (m * up e * d) σ (n * down e)) (down g) L ∙ ap (λ (r : ℕ). r * down g) x1 ∙ mul_right_comm (distance_of (grid f n d * d) (n * L)) (down e) (down g)))
      (le_trans (mul-le-mul_right (down e) (mul-le-mul_right (down g) b))
      (le_of_eq (ap (λ (r : ℕ). r * down e) (sym y1) ∙ mul_right_comm (signed_distance t (q * up g * d) σ (n * down g)) L (down e)))))
      (pow_pos (low f))

  pub round-best : n < 2 ^ prec f → Best f (round f σ n d) σ n d
  round-best h = best_of (round f σ n d) (subst (λ (z : Float). HasValue z σ (grid f n d) (2 ^ low f)) (sym (round_is f σ n d)) (units_val f σ (kept (prec f) (n * 2 ^ low f) d) (drop (prec f) (n * 2 ^ low f) d) (under h)))
