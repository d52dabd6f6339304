-- The line of level `level / over` and slope `slope / over` has the least sum of squares, and no other line has it.
use mathlib.Core.Path.{◌≡◌, refl, sym, ap, ap₂, ◌∙◌, subst}
use mathlib.Core.Logic.{◌≢◌}
use mathlib.Core.List.Memᴰ
use mathlib.Core.List.{List, [], ◌∷◌, Memᴰ}
use Prim.Native.Nat.{ℕ, zero, suc, ◌+◌, ◌*◌, ◌≤◌, ◌<◌}
use native.Mathlib.Nat.{mul-zero, mul-pos, lt_irrefl, lt_of_not-le, zero-lt-suc, eq_of_mul-eq-mul_left}
use native.Mathlib.Decide.{dec_le}
use native.Mathlib.Omega.{arith}
use lib.ListN.{length}
use lib.Signed.{◌<ℤ◌}
use lib.Dec.{lt→ltb}
use lib.IntN.{ℤ, pos, negsuc, neg_ℤ, nat_abs, ◌+ℤ◌, ◌-ℤ◌, ◌*ℤ◌, +ℤ_idl, +ℤ_idr, *ℤ-zero, zero-*ℤ, -ℤ-+ℤ_cancel, pos-ne-negsuc}
use Rattle.numbers.proofs.Ring.{v, k, ◌⊕◌, ◌⊗◌, ◌⊖◌, neg, ring}
use Rattle.rules_fit.specs.Points.{Point, total, count, sum_x, sum_xx, sum_y, sum_xy, over, level, slope, sq, cost}

-- ---- the differences d · y - a - b · x, their sum, and the sum of x times them
abbrev diff : ℤ → ℤ → ℤ → Point → ℤ
diff d a b s = d *ℤ s.y -ℤ a -ℤ b *ℤ s.x

sum-diff : (d a b : ℤ) (l : List Point) → total (diff d a b) l ≡ d *ℤ sum_y l -ℤ a *ℤ count l -ℤ b *ℤ sum_x l
unfolding total
sum-diff d a b [] = simp (*ℤ-zero, +ℤ_idl)
sum-diff d a b (s ∷ l) =
    rw (sum-diff d a b l)
    (ring (v 0 ⊗ v 4 ⊖ v 1 ⊖ v 2 ⊗ v 3 ⊕ (v 0 ⊗ v 5 ⊖ v 1 ⊗ v 6 ⊖ v 2 ⊗ v 7)) (v 0 ⊗ (v 4 ⊕ v 5) ⊖ v 1 ⊗ (k (pos 1) ⊕ v 6) ⊖ v 2 ⊗ (v 3 ⊕ v 7))
    (d ∷ a ∷ b ∷ s.x ∷ s.y ∷ sum_y l ∷ count l ∷ sum_x l ∷ []) tt)

sum-x-diff : (d a b : ℤ) (l : List Point) → total (λ s. s.x *ℤ diff d a b s) l ≡ d *ℤ sum_xy l -ℤ a *ℤ sum_x l -ℤ b *ℤ sum_xx l
unfolding total
sum-x-diff d a b [] = simp (*ℤ-zero, +ℤ_idl)
sum-x-diff d a b (s ∷ l) =
    rw (sum-x-diff d a b l)
    (ring (v 3 ⊗ (v 0 ⊗ v 4 ⊖ v 1 ⊖ v 2 ⊗ v 3) ⊕ (v 0 ⊗ v 5 ⊖ v 1 ⊗ v 6 ⊖ v 2 ⊗ v 7)) (v 0 ⊗ (v 3 ⊗ v 4 ⊕ v 5) ⊖ v 1 ⊗ (v 3 ⊕ v 6) ⊖ v 2 ⊗ (v 3 ⊗ v 3 ⊕ v 7))
    (d ∷ a ∷ b ∷ s.x ∷ s.y ∷ sum_xy l ∷ sum_x l ∷ sum_xx l ∷ []) tt)

-- those of the fitted line are orthogonal to 1 and to x
orth-1 : (l : List Point) → total (diff (over l) (level l) (slope l)) l ≡ pos 0
unfolding over level slope
orth-1 l =
    sum-diff (over l) (level l) (slope l) l
    ∙ ring ((v 0 ⊗ v 3 ⊖ v 1 ⊗ v 1) ⊗ v 2 ⊖ (v 3 ⊗ v 2 ⊖ v 1 ⊗ v 4) ⊗ v 0 ⊖ (v 0 ⊗ v 4 ⊖ v 1 ⊗ v 2) ⊗ v 1) (k (pos 0)) (count l ∷ sum_x l ∷ sum_y l ∷ sum_xx l ∷ sum_xy l ∷ []) tt

orth-x : (l : List Point) → total (λ s. s.x *ℤ diff (over l) (level l) (slope l) s) l ≡ pos 0
unfolding over level slope
orth-x l =
    sum-x-diff (over l) (level l) (slope l) l
    ∙ ring ((v 0 ⊗ v 3 ⊖ v 1 ⊗ v 1) ⊗ v 4 ⊖ (v 3 ⊗ v 2 ⊖ v 1 ⊗ v 4) ⊗ v 1 ⊖ (v 0 ⊗ v 4 ⊖ v 1 ⊗ v 2) ⊗ v 3) (k (pos 0)) (count l ∷ sum_x l ∷ sum_y l ∷ sum_xx l ∷ sum_xy l ∷ []) tt

-- ---- Pythagoras
-- the sum of the squares of u + w · x
spread : ℤ → ℤ → List Point → ℕ
spread u w [] = 0
spread u w (s ∷ l) = sq (u +ℤ w *ℤ s.x) + spread u w l

sq-is : (z : ℤ) → z *ℤ z ≡ pos (sq z)
sq-is (pos n) = refl
sq-is (negsuc n) = refl

squared : (z : ℤ) (n : ℕ) → pos (sq z + n) ≡ z *ℤ z +ℤ pos n
squared z n = ap (λ (m : ℤ). m +ℤ pos n) (sym (sq-is z))

-- what is left of a sum with cross terms twice
abbrev crossed : ℤ → ℤ → ℤ → ℤ → ℤ → ℤ → ℤ → ℤ
crossed q u w C E X W = q *ℤ q *ℤ C +ℤ (q *ℤ u *ℤ E +ℤ q *ℤ u *ℤ E) +ℤ (q *ℤ w *ℤ X +ℤ q *ℤ w *ℤ X) +ℤ W

step : (d g q e u w x C C' E X W : ℤ) → d *ℤ g ≡ q *ℤ e +ℤ (u +ℤ w *ℤ x) → C *ℤ (d *ℤ d) ≡ crossed q u w C' E X W
    → (g *ℤ g +ℤ C) *ℤ (d *ℤ d) ≡ crossed q u w (e *ℤ e +ℤ C') (e +ℤ E) (x *ℤ e +ℤ X) ((u +ℤ w *ℤ x) *ℤ (u +ℤ w *ℤ x) +ℤ W)
step d g q e u w x C C' E X W h i =
    ring ((v 1 ⊗ v 1 ⊕ v 2) ⊗ (v 0 ⊗ v 0)) (v 0 ⊗ v 1 ⊗ (v 0 ⊗ v 1) ⊕ v 2 ⊗ (v 0 ⊗ v 0)) (d ∷ g ∷ C ∷ []) tt
    ∙ ap₂ (λ (a b : ℤ). a *ℤ a +ℤ b) h i
    ∙ ring ((v 0 ⊗ v 1 ⊕ (v 2 ⊕ v 3 ⊗ v 4)) ⊗ (v 0 ⊗ v 1 ⊕ (v 2 ⊕ v 3 ⊗ v 4)) ⊕ (v 0 ⊗ v 0 ⊗ v 5 ⊕ (v 0 ⊗ v 2 ⊗ v 6 ⊕ v 0 ⊗ v 2 ⊗ v 6) ⊕ (v 0 ⊗ v 3 ⊗ v 7 ⊕ v 0 ⊗ v 3 ⊗ v 7) ⊕ v 8))
    (v 0 ⊗ v 0 ⊗ (v 1 ⊗ v 1 ⊕ v 5) ⊕ (v 0 ⊗ v 2 ⊗ (v 1 ⊕ v 6) ⊕ v 0 ⊗ v 2 ⊗ (v 1 ⊕ v 6)) ⊕ (v 0 ⊗ v 3 ⊗ (v 4 ⊗ v 1 ⊕ v 7) ⊕ v 0 ⊗ v 3 ⊗ (v 4 ⊗ v 1 ⊕ v 7)) ⊕ ((v 2 ⊕ v 3 ⊗ v 4) ⊗ (v 2 ⊕ v 3 ⊗ v 4) ⊕ v 8))
    (q ∷ e ∷ u ∷ w ∷ x ∷ C' ∷ E ∷ X ∷ W ∷ []) tt

module _ (d a b q p r : ℤ) where
  abbrev u : ℤ
  u = q *ℤ a -ℤ d *ℤ p

  abbrev w : ℤ
  w = q *ℤ b -ℤ d *ℤ r

  other : (s : Point) → d *ℤ diff q p r s ≡ q *ℤ diff d a b s +ℤ (u +ℤ w *ℤ s.x)
  other s =
      ring (v 0 ⊗ (v 3 ⊗ v 7 ⊖ v 4 ⊖ v 5 ⊗ v 6)) (v 3 ⊗ (v 0 ⊗ v 7 ⊖ v 1 ⊖ v 2 ⊗ v 6) ⊕ ((v 3 ⊗ v 1 ⊖ v 0 ⊗ v 4) ⊕ (v 3 ⊗ v 2 ⊖ v 0 ⊗ v 5) ⊗ v 6))
      (d ∷ a ∷ b ∷ q ∷ p ∷ r ∷ s.x ∷ s.y ∷ []) tt

  pythagoras : (l : List Point) → pos (cost q p r l) *ℤ (d *ℤ d) ≡ crossed q u w (pos (cost d a b l)) (total (diff d a b) l) (total (λ s. s.x *ℤ diff d a b s) l) (pos (spread u w l))
  unfolding cost total spread
  pythagoras [] = simp (*ℤ-zero, +ℤ_idl, zero-*ℤ)
  pythagoras (s ∷ l) =
      let E = total (diff d a b) l in
      let X = total (λ s. s.x *ℤ diff d a b s) l in
      let e = diff d a b s in
      ap (λ (m : ℤ). m *ℤ (d *ℤ d)) (squared (diff q p r s) (cost q p r l))
      ∙ step d (diff q p r s) q e u w s.x (pos (cost q p r l)) (pos (cost d a b l)) E X (pos (spread u w l)) (other s) (pythagoras l)
      ∙ sym (ap₂ (λ (m n : ℤ). crossed q u w m (e +ℤ E) (s.x *ℤ e +ℤ X) n) (squared e (cost d a b l)) (squared (u +ℤ w *ℤ s.x) (spread u w l)))

-- in ℕ, for the fitted line
module _ (l : List Point) (q p r : ℤ) where
  abbrev du : ℤ
  du = q *ℤ level l -ℤ over l *ℤ p

  abbrev dw : ℤ
  dw = q *ℤ slope l -ℤ over l *ℤ r

  exact : cost q p r l * sq (over l) ≡ sq q * cost (over l) (level l) (slope l) l + spread du dw l
  exact =
      let C = pos (cost (over l) (level l) (slope l) l) in
      let W = pos (spread du dw l) in
      ap nat_abs
      (ap (λ (m : ℤ). pos (cost q p r l) *ℤ m) (sym (sq-is (over l)))
      ∙ pythagoras (over l) (level l) (slope l) q p r l
      ∙ ap₂ (λ (m n : ℤ). crossed q du dw C m n W) (orth-1 l) (orth-x l)
      ∙ drop-zero (q *ℤ q *ℤ C) (q *ℤ du) (q *ℤ dw) W
      ∙ ap (λ (m : ℤ). m *ℤ C +ℤ W) (sq-is q))
    where
      drop-zero : (a m n w : ℤ) → a +ℤ (m *ℤ pos 0 +ℤ m *ℤ pos 0) +ℤ (n *ℤ pos 0 +ℤ n *ℤ pos 0) +ℤ w ≡ a +ℤ w
      drop-zero a m n w = simp (*ℤ-zero, +ℤ_idr)

-- ---- a sum of squares that is 0
abs-zero : (z : ℤ) → nat_abs z ≡ 0 → z ≡ pos 0
abs-zero (pos n) h = ap pos h
abs-zero (negsuc n) h = absurd (omega arith)

sq-zero : (z : ℤ) → sq z ≡ 0 → z ≡ pos 0
sq-zero z h = abs-zero z (go (nat_abs z) h)
  where
    go : (n : ℕ) → n * n ≡ 0 → n ≡ 0
    go zero e = refl
    go (suc n) e = absurd (lt_irrefl 0 (subst (λ (m : ℕ). 0 < m) e (mul-pos (zero-lt-suc n) (zero-lt-suc n))))

neg-abs : (n : ℕ) → nat_abs (neg_ℤ (pos n)) ≡ n
neg-abs zero = refl
neg-abs (suc n) = refl

abs-mul : (a b : ℤ) → nat_abs (a *ℤ b) ≡ nat_abs a * nat_abs b
abs-mul (pos a) (pos b) = refl
abs-mul (pos a) (negsuc b) = neg-abs (a * suc b)
abs-mul (negsuc a) (pos b) = neg-abs (suc a * b)
abs-mul (negsuc a) (negsuc b) = refl

nonzero : (a : ℤ) → a ≢ pos 0 → 0 < nat_abs a
nonzero a h = lt_of_not-le (λ (m : nat_abs a ≤ 0). h (abs-zero a (omega arith)))

-- no divisors of zero
domain : (a b : ℤ) → a ≢ pos 0 → a *ℤ b ≡ pos 0 → b ≡ pos 0
domain a b h e = abs-zero b (eq_of_mul-eq-mul_left (nat_abs a) (nonzero a h) (nat_abs b) 0 (sym (abs-mul a b) ∙ ap nat_abs e ∙ sym (mul-zero (nat_abs a))))

spread-zero : (u w : ℤ) (l : List Point) (s : Point) → Memᴰ s l → spread u w l ≡ 0 → u +ℤ w *ℤ s.x ≡ pos 0
unfolding spread
spread-zero u w [] s m h = absurd (Memᴰ.not-nil m)
spread-zero u w (t ∷ l) s (Memᴰ.head e) h = rw e (sq-zero (u +ℤ w *ℤ t.x) (omega arith))
spread-zero u w (t ∷ l) s (Memᴰ.tail m) h = spread-zero u w l s m (omega arith)

-- two points at different places
pub record Two (l : List Point) : Type 0 where
  pub one : Point
  pub two : Point
  pub in_one : Memᴰ one l
  pub in_two : Memᴰ two l
  pub differ : one.x -ℤ two.x ≢ pos 0

flat : (u w : ℤ) (l : List Point) → Two l → spread u w l ≡ 0 → (u ≡ pos 0) × (w ≡ pos 0)
flat u w l t h =
    let x = t.one.x in
    let z = t.two.x in
    let a : u +ℤ w *ℤ x ≡ pos 0 = spread-zero u w l t.one t.in_one h in
    let b : u +ℤ w *ℤ z ≡ pos 0 = spread-zero u w l t.two t.in_two h in
    let c : (x -ℤ z) *ℤ w ≡ pos 0 = ring ((v 2 ⊖ v 3) ⊗ v 1) (v 0 ⊕ v 1 ⊗ v 2 ⊖ (v 0 ⊕ v 1 ⊗ v 3)) (u ∷ w ∷ x ∷ z ∷ []) tt ∙ ap₂ (λ (m n : ℤ). m -ℤ n) a b in
    let e : w ≡ pos 0 = domain (x -ℤ z) w t.differ c in
    (sym (+ℤ_idr u) ∙ ap (λ (m : ℤ). u +ℤ m) (sym (zero-*ℤ x) ∙ ap (λ (m : ℤ). m *ℤ x) (sym e)) ∙ a, e)

-- ---- the theorem
pub same : (a b : ℤ) → a -ℤ b ≡ pos 0 → b ≡ a
same a b h = sym (+ℤ_idl b) ∙ ap (λ (m : ℤ). m +ℤ b) (sym h) ∙ -ℤ-+ℤ_cancel a b

-- any other line, of level p / q and slope r / q, has a larger sum of squares
pub least : (l : List Point) → Two l → (q p r : ℤ) → ¬ ((over l *ℤ p ≡ q *ℤ level l) × (over l *ℤ r ≡ q *ℤ slope l))
    → sq q * cost (over l) (level l) (slope l) l < cost q p r l * sq (over l)
least l t q p r no_same = go (dec_le (spread (du l q p r) (dw l q p r) l) 0)
  where
    go : Dec (spread (du l q p r) (dw l q p r) l ≤ 0) → sq q * cost (over l) (level l) (slope l) l < cost q p r l * sq (over l)
    go (yes h) =
        let f : (du l q p r ≡ pos 0) × (dw l q p r ≡ pos 0) = flat (du l q p r) (dw l q p r) l t (omega arith) in
        absurd (no_same (same (q *ℤ level l) (over l *ℤ p) f.0, same (q *ℤ slope l) (over l *ℤ r) f.1))
    go (no h) = omega (arith, exact l q p r)

-- a common factor goes
shorter : (m a b : ℤ) → m ≢ pos 0 → m *ℤ a ≡ m *ℤ b → a ≡ b
shorter m a b h e =
    sym
    (same a b
    (domain m (a -ℤ b) h
    (ring (v 0 ⊗ (v 1 ⊖ v 2)) (v 0 ⊗ v 1 ⊖ v 0 ⊗ v 2) (m ∷ a ∷ b ∷ []) tt
    ∙ ap (λ (z : ℤ). z -ℤ m *ℤ b) e
    ∙ ring (v 0 ⊗ v 1 ⊖ v 0 ⊗ v 1) (k (pos 0)) (m ∷ b ∷ []) tt)))

-- the same where level p / d and slope r / e are fractions of their own
pub least-apart : (l : List Point) → Two l → (d p e r : ℤ) → d ≢ pos 0 → e ≢ pos 0 → ¬ ((over l *ℤ p ≡ d *ℤ level l) × (over l *ℤ r ≡ e *ℤ slope l))
    → sq (d *ℤ e) * cost (over l) (level l) (slope l) l < cost (d *ℤ e) (p *ℤ e) (r *ℤ d) l * sq (over l)
least-apart l t d p e r hd he no_same =
    least l t (d *ℤ e) (p *ℤ e) (r *ℤ d)
    (λ (f : (over l *ℤ (p *ℤ e) ≡ d *ℤ e *ℤ level l) × (over l *ℤ (r *ℤ d) ≡ d *ℤ e *ℤ slope l)).
    no_same (
      shorter e (over l *ℤ p) (d *ℤ level l) he
          (ring (v 0 ⊗ (v 1 ⊗ v 2)) (v 1 ⊗ (v 2 ⊗ v 0)) (e ∷ over l ∷ p ∷ []) tt ∙ f.0 ∙ ring (v 1 ⊗ v 0 ⊗ v 2) (v 0 ⊗ (v 1 ⊗ v 2)) (e ∷ d ∷ level l ∷ []) tt),
      shorter d (over l *ℤ r) (e *ℤ slope l) hd
          (ring (v 0 ⊗ (v 1 ⊗ v 2)) (v 1 ⊗ (v 2 ⊗ v 0)) (d ∷ over l ∷ r ∷ []) tt ∙ f.1 ∙ ring (v 0 ⊗ v 1 ⊗ v 2) (v 0 ⊗ (v 1 ⊗ v 2)) (d ∷ e ∷ slope l ∷ []) tt),
    ))

-- ---- the denominator is above 0
spread-is : (u w : ℤ) (l : List Point) → pos (spread u w l) ≡ u *ℤ u *ℤ count l +ℤ (u *ℤ w *ℤ sum_x l +ℤ u *ℤ w *ℤ sum_x l) +ℤ w *ℤ w *ℤ sum_xx l
unfolding spread total
spread-is u w [] = simp (*ℤ-zero, +ℤ_idl)
spread-is u w (s ∷ l) =
    squared (u +ℤ w *ℤ s.x) (spread u w l)
    ∙ ap (λ (m : ℤ). (u +ℤ w *ℤ s.x) *ℤ (u +ℤ w *ℤ s.x) +ℤ m) (spread-is u w l)
    ∙ ring ((v 0 ⊕ v 1 ⊗ v 2) ⊗ (v 0 ⊕ v 1 ⊗ v 2) ⊕ (v 0 ⊗ v 0 ⊗ v 3 ⊕ (v 0 ⊗ v 1 ⊗ v 4 ⊕ v 0 ⊗ v 1 ⊗ v 4) ⊕ v 1 ⊗ v 1 ⊗ v 5))
    (v 0 ⊗ v 0 ⊗ (k (pos 1) ⊕ v 3) ⊕ (v 0 ⊗ v 1 ⊗ (v 2 ⊕ v 4) ⊕ v 0 ⊗ v 1 ⊗ (v 2 ⊕ v 4)) ⊕ v 1 ⊗ v 1 ⊗ (v 2 ⊗ v 2 ⊕ v 5))
    (u ∷ w ∷ s.x ∷ count l ∷ sum_x l ∷ sum_xx l ∷ []) tt

n-over : (l : List Point) → pos (spread (neg_ℤ (sum_x l)) (count l) l) ≡ count l *ℤ over l
unfolding over
n-over l =
    spread-is (neg_ℤ (sum_x l)) (count l) l
    ∙ ring (neg (v 1) ⊗ neg (v 1) ⊗ v 0 ⊕ (neg (v 1) ⊗ v 0 ⊗ v 1 ⊕ neg (v 1) ⊗ v 0 ⊗ v 1) ⊕ v 0 ⊗ v 0 ⊗ v 2) (v 0 ⊗ (v 0 ⊗ v 2 ⊖ v 1 ⊗ v 1)) (count l ∷ sum_x l ∷ sum_xx l ∷ []) tt

pub count-is : (l : List Point) → count l ≡ pos (length l)
unfolding total
count-is [] = refl
count-is (s ∷ l) = ap (λ (m : ℤ). pos 1 +ℤ m) (count-is l) ∙ ap pos (omega arith)

occupied : (l : List Point) (s : Point) → Memᴰ s l → 0 < length l
occupied (t ∷ l) s m = zero-lt-suc (length l)
occupied [] s m = absurd (Memᴰ.not-nil m)

positive : (w n : ℕ) (z : ℤ) → 0 < w → pos w ≡ pos n *ℤ z → pos 0 <ℤ z
positive w n (pos zero) h e = absurd (lt_irrefl 0 (subst (λ (m : ℕ). 0 < m) (ap nat_abs e ∙ mul-zero n) h))
positive w n (pos (suc m)) h e = record { lt = lt→ltb 0 (suc m) (zero-lt-suc m) }
positive w n (negsuc m) h e = absurd (go (n * suc m) e)
  where
    go : (j : ℕ) → pos w ≡ neg_ℤ (pos j) → ⊥
    go zero f = lt_irrefl 0 (subst (λ (j : ℕ). 0 < j) (ap nat_abs f) h)
    go (suc j) f = pos-ne-negsuc w j f

pub over-above : (l : List Point) → Two l → pos 0 <ℤ over l
over-above l t = positive (spread (neg_ℤ (sum_x l)) (count l) l) (length l) (over l) (go (dec_le (spread (neg_ℤ (sum_x l)) (count l) l) 0)) (n-over l ∙ ap (λ (m : ℤ). m *ℤ over l) (count-is l))
  where
    go : Dec (spread (neg_ℤ (sum_x l)) (count l) l ≤ 0) → 0 < spread (neg_ℤ (sum_x l)) (count l) l
    go (yes h) =
        let f : (neg_ℤ (sum_x l) ≡ pos 0) × (count l ≡ pos 0) = flat (neg_ℤ (sum_x l)) (count l) l t (omega arith) in
        absurd (lt_irrefl 0 (subst (λ (m : ℕ). 0 < m) (ap nat_abs (sym (count-is l) ∙ f.1)) (occupied l t.one t.in_one)))
    go (no h) = lt_of_not-le h
