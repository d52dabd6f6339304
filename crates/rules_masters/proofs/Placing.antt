-- Places: at the first place of which p holds it does, and at none before it; and a table has room exactly where not all are live.
use Rattle.std.specs.Prelude.{Option, Some, None}
use Rattle.std.specs.List.{position_or_len}
use Rattle.std.proofs.lemmas.List.Recursion.{is_position_or_len}
use mathlib.Core.Path.{◌≡◌, refl, sym, subst, ◌∙◌}
use mathlib.Core.Bool.{Bool, true, false, cond, not}
use mathlib.Core.List.{List, [], ◌∷◌}
use Prim.Native.Nat.{ℕ, zero, suc, ◌+◌, ◌≤◌, ◌<◌}
use native.Mathlib.Omega.{arith}
use lib.Dec.{ltb}
use lib.ListN.{length, get_or}
use borrow.Author.Tests.{ltb-true, ltb-false}
use Rattle.rules_masters.specs.declared.record.Record.{Record}
use Rattle.rules_masters.specs.Records.{live_of}
use Rattle.rules_masters.specs.Places.{place_of, count_of}

module _ {A : Type 0} (p : A → Bool) where
  pub place-holds : (l : List A) (d : A) → place_of p l < length l → p (get_or l (place_of p l) d) ≡ true
  unfolding place_of
  place-holds [] d h = absurd (omega arith)
  place-holds (x ∷ l) d h = by (p x) refl (place-holds l d) h
    where
      by : (t : Bool) → p x ≡ t → (place_of p l < length l → p (get_or l (place_of p l) d) ≡ true)
          → cond t 0 (suc (place_of p l)) < suc (length l) → p (get_or (x ∷ l) (cond t 0 (suc (place_of p l))) d) ≡ true
      by true e f k = e
      by false e f k = f (omega arith)

  pub place-there : (l : List A) (at : ℕ) (d : A) → at < length l → p (get_or l at d) ≡ true → place_of p l ≤ at
  unfolding place_of
  place-there [] at d h e = absurd (omega arith)
  place-there (x ∷ l) zero d h e = rw e (omega arith)
  place-there (x ∷ l) (suc at) d h e = by (p x) (place-there l at d (omega arith) e)
    where
      by : (t : Bool) → place_of p l ≤ at → cond t 0 (suc (place_of p l)) ≤ suc at
      by true k = omega arith
      by false k = omega arith

  count_most : (l : List A) → count_of p l ≤ length l
  unfolding count_of
  count_most [] = omega arith
  count_most (x ∷ l) = most-by (p x) l (count_most l)
    where
      most-by : (t : Bool) (l : List A) → count_of p l ≤ length l → cond t (suc (count_of p l)) (count_of p l) ≤ suc (length l)
      most-by true l h = omega arith
      most-by false l h = omega arith

-- what std's search for a place finds
module _ {A : Type 0} (p : A → Bool) where
  place-is : (l : List A) → place_of p l ≡ position_or_len p l
  unfolding place_of
  place-is l = is_position_or_len (λ k. place_of p k) p refl (λ x k. by (p x) k) l
    where
      by : (b : Bool) (k : List A) → cond b 0 (suc (place_of p k)) ≡ cond b 0 (1 + place_of p k)
      by true k = refl
      by false k = omega arith

  module _ (l : List A) (r : Option ℕ) (e : r ≡ cond (ltb (position_or_len p l) (length l)) (Some (position_or_len p l)) None) where
    pub place-found : (at : ℕ) → r ≡ Some at → (place_of p l ≡ at) × (at < length l)
    place-found at h = rw (place-is l) (by (ltb (position_or_len p l) (length l)) refl (sym e ∙ h))
      where
        by : (b : Bool) → ltb (position_or_len p l) (length l) ≡ b → cond b (Some (position_or_len p l)) None ≡ Some at
            → (position_or_len p l ≡ at) × (at < length l)
        by true f g =
            let q : position_or_len p l ≡ at = cc in
            (q, subst (λ i. i < length l) q (ltb-true _ _ f))
        by false f g = cc

    pub place-missed : r ≡ None → ltb (place_of p l) (length l) ≡ false
    place-missed h = rw (place-is l) (by (ltb (position_or_len p l) (length l)) refl (sym e ∙ h))
      where
        by : (b : Bool) → ltb (position_or_len p l) (length l) ≡ b → cond b (Some (position_or_len p l)) None ≡ None
            → ltb (position_or_len p l) (length l) ≡ false
        by true f g = cc
        by false f g = f

-- q holds where p does not: q has a place exactly where p does not hold throughout
module _ {A : Type 0} (p q : A → Bool) (opposite : (x : A) → q x ≡ not (p x)) where
  pub room : (l : List A) → place_of q l < length l → count_of p l < length l
  unfolding place_of count_of
  room [] h = omega arith
  room (x ∷ l) h = room_by (p x) (q x) (opposite x) (room l) h
    where
      room_by : (t u : Bool) → u ≡ not t → (place_of q l < length l → count_of p l < length l)
          → cond u 0 (suc (place_of q l)) < suc (length l) → cond t (suc (count_of p l)) (count_of p l) < suc (length l)
      room_by true u e f k =
          let g : suc (place_of q l) < suc (length l) = rw e at k in
          let j = f (omega arith) in
          omega arith
      room_by false u e f k = omega (arith, count_most p l)

  pub no_room : (l : List A) → length l ≤ place_of q l → length l ≤ count_of p l
  unfolding place_of count_of
  no_room [] h = omega arith
  no_room (x ∷ l) h = no-room-by (p x) (q x) (opposite x) (no_room l) h
    where
      no-room-by : (t u : Bool) → u ≡ not t → (length l ≤ place_of q l → length l ≤ count_of p l)
          → suc (length l) ≤ cond u 0 (suc (place_of q l)) → suc (length l) ≤ cond t (suc (count_of p l)) (count_of p l)
      no-room-by true u e f k =
          let g : suc (length l) ≤ suc (place_of q l) = rw e at k in
          let j = f (omega arith) in
          omega arith
      no-room-by false u e f k =
          let g : suc (length l) ≤ 0 = rw e at k in
          omega arith

  pub has_room : (l : List A) → count_of p l < length l → place_of q l < length l
  has_room l h = by (ltb (place_of q l) (length l)) refl
    where
      by : (t : Bool) → ltb (place_of q l) (length l) ≡ t → place_of q l < length l
      by true e = ltb-true _ _ e
      by false e = absurd (let k = no_room l (ltb-false _ _ e) in omega arith)

-- a record that is not live is as good as none
unfoldable pub absent : ℕ → ℕ → Record → Bool
absent now interval r = not (live_of now interval r)

pub opposite : (now interval : ℕ) (r : Record) → absent now interval r ≡ not (live_of now interval r)
unfolding absent
opposite now interval r = refl
