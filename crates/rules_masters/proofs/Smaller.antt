-- `smaller`, number by number, and that it is a strict order on lists of one length.
use mathlib.Core.Path.{◌≡◌, refl, sym, ◌∙◌}
use mathlib.Core.Bool.{Bool, true, false, cond, false≢true}
use mathlib.Core.Logic.{◌⊎◌, inl, inr}
use mathlib.Core.List.{List, [], ◌∷◌}
use Prim.Native.Nat.{ℕ, ◌<◌, ◌≤◌}
use native.Mathlib.Omega.{arith}
use lib.Dec.{ltb, eqb}
use lib.ListN.{length}
use borrow.Author.Tests.{eq-eqb, ne_eqb, eqb-true, eqb-false, lt-ltb, ltb-true, ltb-false}
use Rattle.rules_masters.specs.Comparison.{smaller}

-- equal numbers leave the answer to the rest
pub skip : (x y : ℕ) (xs ys : List ℕ) (r : Bool) → x ≡ y → r ≡ smaller xs ys → r ≡ smaller (x ∷ xs) (y ∷ ys)
unfolding smaller
skip x y xs ys r e h = rw (eq-eqb x y e) h

-- different ones decide
pub differ : (x y : ℕ) (xs ys : List ℕ) → (x ≡ y → ⊥) → ltb x y ≡ smaller (x ∷ xs) (y ∷ ys)
unfolding smaller
differ x y xs ys n = rw (ne_eqb x y n)

-- `smaller` is a strict order on lists of one length

pub smaller-irreflexive : (xs : List ℕ) → smaller xs xs ≡ false
unfolding smaller
smaller-irreflexive [] = refl
smaller-irreflexive (x ∷ xs) = rw (eq-eqb x x refl) (smaller-irreflexive xs)

-- one list is smaller: by the first number, or by the rest
by-test : (t : Bool) (x y : ℕ) (r : Bool) → eqb x y ≡ t → cond t r (ltb x y) ≡ true → (x < y) ⊎ ((x ≡ y) × (r ≡ true))
by-test true x y r e h = inr (eqb-true x y e, h)
by-test false x y r e h = inl (ltb-true x y h)

parts : (x y : ℕ) (xs ys : List ℕ) → smaller (x ∷ xs) (y ∷ ys) ≡ true → (x < y) ⊎ ((x ≡ y) × (smaller xs ys ≡ true))
unfolding smaller
parts x y xs ys h = by-test (eqb x y) x y (smaller xs ys) refl h

less : (x y : ℕ) (xs ys : List ℕ) → x < y → smaller (x ∷ xs) (y ∷ ys) ≡ true
less x y xs ys h = sym (differ x y xs ys (λ e. omega arith)) ∙ lt-ltb x y h

pub smaller-transitive : (xs ys zs : List ℕ) → smaller xs ys ≡ true → smaller ys zs ≡ true → smaller xs zs ≡ true
unfolding smaller
smaller-transitive [] ys zs h k = h
smaller-transitive (x ∷ xs) [] zs h k = absurd (false≢true h)
smaller-transitive (x ∷ xs) (y ∷ ys) [] h k = absurd (false≢true k)
smaller-transitive (x ∷ xs) (y ∷ ys) (z ∷ zs) h k = join (smaller-transitive xs ys zs) (parts x y xs ys h) (parts y z ys zs k)
  where
    join : (smaller xs ys ≡ true → smaller ys zs ≡ true → smaller xs zs ≡ true)
        → (x < y) ⊎ ((x ≡ y) × (smaller xs ys ≡ true)) → (y < z) ⊎ ((y ≡ z) × (smaller ys zs ≡ true)) → smaller (x ∷ xs) (z ∷ zs) ≡ true
    join rest (inl p) (inl q) = less x z xs zs (omega arith)
    join rest (inl p) (inr q) = less x z xs zs (omega (arith, q.0))
    join rest (inr p) (inl q) = less x z xs zs (omega (arith, p.0))
    join rest (inr p) (inr q) = sym (skip x z xs zs true (p.0 ∙ q.0) (sym (rest p.1 q.1)))

eqb-by : (t : Bool) (x y : ℕ) → eqb x y ≡ t → eqb y x ≡ t
eqb-by true x y e = eq-eqb y x (sym (eqb-true x y e))
eqb-by false x y e = ne_eqb y x (λ p. eqb-false x y e (sym p))

eqb_swap : (x y : ℕ) → eqb y x ≡ eqb x y
eqb_swap x y = eqb-by (eqb x y) x y refl

-- neither is smaller: they are equal
neither : (t : Bool) (x y : ℕ) (r s : Bool) → eqb x y ≡ t → cond t r (ltb x y) ≡ false → cond t s (ltb y x) ≡ false → (x ≡ y) × (r ≡ false) × (s ≡ false)
neither true x y r s e h k = (eqb-true x y e, h, k)
neither false x y r s e h k =
    let a : y ≤ x = ltb-false x y h in
    let b : x ≤ y = ltb-false y x k in
    absurd (eqb-false x y e (omega arith))

pub smaller-total : (xs ys : List ℕ) → length xs ≡ length ys → smaller xs ys ≡ false → smaller ys xs ≡ false → xs ≡ ys
unfolding smaller
smaller-total [] [] l h k = refl
smaller-total [] (y ∷ ys) l h k = absurd (omega arith)
smaller-total (x ∷ xs) [] l h k = absurd (omega arith)
smaller-total (x ∷ xs) (y ∷ ys) l h k =
    let n = neither (eqb x y) x y (smaller xs ys) (smaller ys xs) refl h (rw (eqb_swap x y) at k) in
    λ i. n.0 i ∷ smaller-total xs ys (omega arith) n.1 n.2 i
