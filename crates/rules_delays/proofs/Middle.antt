-- The lower middle is there in every list that is not empty, there is only one, and it is the one in the middle of the list in order.
use mathlib.Core.Path.{◌≡◌, refl, sym, ap, ◌∙◌}
use mathlib.Core.Bool.{Bool, true, false, cond}
use mathlib.Core.List.{List, [], ◌∷◌}
use Prim.Native.Nat.{ℕ, zero, suc, ◌<◌, ◌≤◌}
use native.Mathlib.Omega.{arith}
use borrow.Author.Tests.{lt-ltb, le-ltb, le-leb, ltb-true, ltb-false, leb-true}
use lib.Dec.{ltb, leb}
use lib.ListN.{length, get_or}
use Rattle.rules_delays.proofs.Tests.{never}
use Rattle.rules_delays.specs.Median.{count_below, middle, middling, first_middling, lower_middle}

-- at most so many are smaller, and more are smaller or equal
pub record LowerMiddle (l : List ℕ) (x : ℕ) : Type 0 where
  pub smaller : count_below x l ≤ middle (length l)
  pub equal : middle (length l) < count_below (suc x) l

lower← : (l : List ℕ) (x : ℕ) → LowerMiddle l x → middling l x ≡ true
unfolding middling
lower← l x h = rw (le-leb _ _ h.smaller, lt-ltb _ _ h.equal)

lower→ : (l : List ℕ) (x : ℕ) → middling l x ≡ true → LowerMiddle l x
unfolding middling
lower→ l x h = go (leb (count_below x l) (middle (length l))) refl
  where
    go : (b : Bool) → leb (count_below x l) (middle (length l)) ≡ b → LowerMiddle l x
    go true e = record { smaller = leb-true _ _ e; equal = ltb-true _ _ (rw e at h) }
    go false e = absurd (never (rw e at h))

-- ---- only one
below-cons : (x a : ℕ) (l : List ℕ) → a < x → count_below x (a ∷ l) ≡ suc (count_below x l)
unfolding count_below
below-cons x a l h = rw (lt-ltb a x h)

below-pass : (x a : ℕ) (l : List ℕ) → x ≤ a → count_below x (a ∷ l) ≡ count_below x l
unfolding count_below
below-pass x a l h = rw (le-ltb a x h)

below_more : (x y : ℕ) (l : List ℕ) → x ≤ y → count_below x l ≤ count_below y l
unfolding count_below
below_more x y [] h = omega arith
below_more x y (a ∷ l) h = go (below_more x y l h) (ltb a x) refl (ltb a y) refl
  where
    go : count_below x l ≤ count_below y l → (s : Bool) → ltb a x ≡ s → (t : Bool) → ltb a y ≡ t → cond s (suc (count_below x l)) (count_below x l) ≤ cond t (suc (count_below y l)) (count_below y l)
    go ih true e true f = omega arith
    go ih true e false f = absurd (omega (arith, ltb-true a x e, ltb-false a y f))
    go ih false e true f = omega arith
    go ih false e false f = ih

pub only : (l : List ℕ) (x y : ℕ) → LowerMiddle l x → LowerMiddle l y → x ≡ y
only l x y h k = go (ltb x y) refl (ltb y x) refl
  where
    go : (s : Bool) → ltb x y ≡ s → (t : Bool) → ltb y x ≡ t → x ≡ y
    go true e t f = let o = ltb-true x y e in absurd (omega (arith, h.equal, k.smaller, below_more (suc x) y l (omega arith)))
    go false e true f = let o = ltb-true y x f in absurd (omega (arith, k.equal, h.smaller, below_more (suc y) x l (omega arith)))
    go false e false f = omega (arith, ltb-false x y e, ltb-false y x f)

-- ---- the list in order
abbrev pub insert : ℕ → List ℕ → List ℕ
insert x [] = x ∷ []
insert x (a ∷ l) = cond (ltb a x) (a ∷ insert x l) (x ∷ a ∷ l)

abbrev pub sorted : List ℕ → List ℕ
sorted [] = []
sorted (a ∷ l) = insert a (sorted l)

insert-length : (x : ℕ) (l : List ℕ) → length (insert x l) ≡ suc (length l)
insert-length x [] = refl
insert-length x (a ∷ l) = go (insert-length x l) (ltb a x)
  where
    go : length (insert x l) ≡ suc (length l) → (b : Bool) → length (cond b (a ∷ insert x l) (x ∷ a ∷ l)) ≡ suc (suc (length l))
    go ih true = ap suc ih
    go ih false = refl

sorted-length : (l : List ℕ) → length (sorted l) ≡ length l
sorted-length [] = refl
sorted-length (a ∷ l) = insert-length a (sorted l) ∙ ap suc (sorted-length l)

insert-below : (y x : ℕ) (l : List ℕ) → count_below y (insert x l) ≡ count_below y (x ∷ l)
unfolding count_below
insert-below y x [] = refl
insert-below y x (a ∷ l) = go (insert-below y x l) (ltb a x)
  where
    swap : (s t : Bool) (m n : ℕ) → m ≡ cond t (suc n) n → cond s (suc m) m ≡ cond t (suc (cond s (suc n) n)) (cond s (suc n) n)
    swap true true m n e = ap suc e
    swap true false m n e = ap suc e
    swap false true m n e = e
    swap false false m n e = e

    go : count_below y (insert x l) ≡ count_below y (x ∷ l) → (b : Bool) → count_below y (cond b (a ∷ insert x l) (x ∷ a ∷ l)) ≡ count_below y (x ∷ a ∷ l)
    go ih true = swap (ltb a y) (ltb x y) (count_below y (insert x l)) (count_below y l) ih
    go ih false = refl

cond-count : (b : Bool) (m n : ℕ) → m ≡ n → cond b (suc m) m ≡ cond b (suc n) n
cond-count b m n e = rw e

sorted-below : (y : ℕ) (l : List ℕ) → count_below y (sorted l) ≡ count_below y l
unfolding count_below
sorted-below y [] = refl
sorted-below y (a ∷ l) = insert-below y a (sorted l) ∙ cond-count (ltb a y) (count_below y (sorted l)) (count_below y l) (sorted-below y l)

-- each is at most those behind it
abbrev Above : ℕ → List ℕ → Type 0
Above a l = (j : ℕ) → j < length l → a ≤ get_or l j 0

data Ordered : List ℕ → Type 0 where
  none : Ordered []
  more : {a : ℕ} {l : List ℕ} → Above a l → Ordered l → Ordered (a ∷ l)

insert-above : (a x : ℕ) (l : List ℕ) → a ≤ x → Above a l → Above a (insert x l)
insert-above a x [] h k zero o = h
insert-above a x [] h k (suc j) o = absurd (omega arith)
insert-above a x (b ∷ l) h k j o = go (insert-above a x l h (λ i p. k (suc i) (omega arith))) (ltb b x) j o
  where
    go : Above a (insert x l) → (t : Bool) → Above a (cond t (b ∷ insert x l) (x ∷ b ∷ l))
    go ih true zero p = k 0 (omega arith)
    go ih true (suc j) p = ih j (omega arith)
    go ih false zero p = h
    go ih false (suc j) p = k j (omega arith)

insert-ordered : (x : ℕ) (l : List ℕ) → Ordered l → Ordered (insert x l)
insert-ordered x [] none = more nothing none
  where
    nothing : Above x []
    nothing j p = absurd (omega arith)
insert-ordered x (a ∷ l) (more h o) = go (insert-ordered x l o) (ltb a x) refl
  where
    first : x ≤ a → Above x (a ∷ l)
    first e zero p = e
    first e (suc j) p = omega (arith, h j (omega arith))

    go : Ordered (insert x l) → (t : Bool) → ltb a x ≡ t → Ordered (cond t (a ∷ insert x l) (x ∷ a ∷ l))
    go ih true e = more (insert-above a x l (omega (arith, ltb-true a x e)) h) ih
    go ih false e = more (first (ltb-false a x e)) (more h o)

sorted-ordered : (l : List ℕ) → Ordered (sorted l)
sorted-ordered [] = none
sorted-ordered (a ∷ l) = insert-ordered a (sorted l) (sorted-ordered l)

-- at place k of a list in order: at most k are smaller, and more than k are smaller or equal
none_below : (a : ℕ) (l : List ℕ) → Above a l → count_below a l ≡ 0
unfolding count_below
none_below a [] h = refl
none_below a (b ∷ l) h = below-pass a b l (h 0 (omega arith)) ∙ none_below a l (λ j p. h (suc j) (omega arith))

at_place : (l : List ℕ) (k : ℕ) → Ordered l → k < length l → (count_below (get_or l k 0) l ≤ k) × (k < count_below (suc (get_or l k 0)) l)
at_place [] k o h = absurd (omega arith)
at_place (a ∷ l) zero (more u o) h = (omega (arith, below-pass a a l (omega arith), none_below a l u), omega (arith, below-cons (suc a) a l (omega arith)))
at_place (a ∷ l) (suc k) (more u o) h =
    let x = get_or l k 0 in
    let ih = at_place l k o (omega arith) in
    let le = u k (omega arith) in
    (one (ltb a x) refl ih, omega (arith, ih, below-cons (suc x) a l (omega arith)))
  where
    one : (t : Bool) → ltb a (get_or l k 0) ≡ t → (count_below (get_or l k 0) l ≤ k) × (k < count_below (suc (get_or l k 0)) l) → count_below (get_or l k 0) (a ∷ l) ≤ suc k
    one true e ih = omega (arith, ih, below-cons (get_or l k 0) a l (ltb-true a (get_or l k 0) e))
    one false e ih = omega (arith, ih, below-pass (get_or l k 0) a l (ltb-false a (get_or l k 0) e))

-- ---- the search finds it
module _ (l : List ℕ) (x : ℕ) (m : middling l x ≡ true) where
  finds : (r : List ℕ) → count_below x r < count_below (suc x) r → middling l (first_middling l r) ≡ true
  unfolding first_middling count_below
  finds [] h = absurd (omega arith)
  finds (a ∷ r) h = go (finds r) (middling l a) refl (ltb a x) refl (ltb a (suc x)) refl
    where
      go : (count_below x r < count_below (suc x) r → middling l (first_middling l r) ≡ true) → (s : Bool) → middling l a ≡ s → (t : Bool) → ltb a x ≡ t → (u : Bool) → ltb a (suc x) ≡ u → middling l (cond s a (first_middling l r)) ≡ true
      go ih true e t f u g = e
      go ih false e true f true g = ih (omega (arith, below-cons x a r (ltb-true a x f), below-cons (suc x) a r (ltb-true a (suc x) g)))
      go ih false e true f false g = absurd (omega (arith, ltb-true a x f, ltb-false a (suc x) g))
      go ih false e false f true g =
          let same : x ≡ a = omega (arith, ltb-false a x f, ltb-true a (suc x) g) in
          absurd (never (sym e ∙ rw same at m))
      go ih false e false f false g = ih (omega (arith, below-pass x a r (ltb-false a x f), below-pass (suc x) a r (ltb-false a (suc x) g)))

module _ (l : List ℕ) (some : 0 < length l) where
  in_order : LowerMiddle l (get_or (sorted l) (middle (length l)) 0)
  in_order =
      let x = get_or (sorted l) (middle (length l)) 0 in
      let p = at_place (sorted l) (middle (length l)) (sorted-ordered l) (omega (arith, sorted-length l)) in
      record { smaller = omega (arith, p, sorted-below x l); equal = omega (arith, p, sorted-below (suc x) l) }

  -- the median is in the lower middle
  pub lower-middle : LowerMiddle l (lower_middle l)
  lower-middle =
      let x = get_or (sorted l) (middle (length l)) 0 in
      lower→ l (lower_middle l) (finds l x (lower← l x in_order) l (omega (arith, in_order.smaller, in_order.equal)))

  -- and is at the middle place of the list in order
  pub middle-place : lower_middle l ≡ get_or (sorted l) (middle (length l)) 0
  middle-place = only l _ _ lower-middle in_order
