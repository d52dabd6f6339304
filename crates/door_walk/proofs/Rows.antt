-- A lent slice: an element is taken out for one statement, and it or another is put back; the slice is lent on to a call, and comes back; what the test of its length says. Laws of any type of plain data (`Plain.antt`); they say nothing of the door.
-- Assumes `Logic`.
use mathlib.Core.Path.{◌≡◌, refl, sym, ap, subst, ◌∙◌}
use Prim.Native.Nat.{ℕ, ◌<◌}
use mathlib.Core.List.{List, [], ◌∷◌}
use mathlib.Core.Bool.{Bool, true, false, not}
use lib.Dec.{T as Holds, eqb, eqb→eq}
use lib.ListN.{length, get_or, set, length-set}
use seplogic.Ra.Ura.{Ura}
use base.Fraction.{full_share}
use mir.Syntax.{Ty, named}
use base.Fml.{GName, Fml, fsep, fat, feq, flft, fobs, fauth, fobor}
use types.Logic.{Logic}
use types.Kit.{Goal, Soaks, Item, ‵, some, later, ◌⊛◌, Seq, Step, step, ◌$◌, move, drop, use1, use2, use3, split, pick, rewrite, fsplit, fsplit3, fjoin, feq_l, await}
use types.Tokens.{lft_new, lft_end}
use denote.RattleType.{RattleType}
use denote.Shadow.{pure_l, pure_i}
use denote.Laws.{Is, shows}
use denote.Memory.{mem, cell_at, shares}
use denote.Ref.{MutBor}
use denote.Slice.{slice_val, MutSlice, Room, heres, coded_holeys, mut_slice_at, finally}
use denote.Lend.{Held}
use denote.Index.{others, place, elem_out, elem_back, elem_put, opens_slice, closes_slice}
use denote.Steps.{owned}
use Rattle.door_walk.proofs.Again.{LentAgain, lends_again, comes_back}
use Rattle.door_walk.proofs.Plain.{Plain, Fits}
use Rattle.door_walk.proofs.Walk.{Spot, for-call}

abbrev pub list_at : {X : Type 0} → Spot → List X → MutBor (List X)
list_at a l = record { ref_ptr = (a.block, a.offset); ghost_name = a.name; now = l }

-- what its type owns, at the length n, with the lifetime's token
unfoldable pub slice : {R : RattleType} {τ : Ty} → Plain R τ → Spot → ℕ → List R.Denot → Fml
slice {R} p a n l = fsep ((MutSlice (named 0) a.lft R).own_val (list_at a l) (slice_val (a.block, a.offset) n ∷ [])) (flft a.lft a.share)

-- .. and while element i is out
unfoldable pub around : {R : RattleType} {τ : Ty} → Plain R τ → Spot → ℕ → List R.Denot → ℕ → Fml
around {R} p a n l i =
    fsep (others (shares R) full_share l i a.block a.offset) (fsep (fobor a.lft a.share (Held R (length l) a.block a.offset a.name))
    (fsep (fobs a.name ((coded_holeys R).code (heres R l))) (fsep (fauth a.name ((coded_holeys R).code (heres R l))) (mut_slice_at R (list_at a l) (slice_val (a.block, a.offset) n ∷ [])))))

module _ {M : Type 1} {𝓤 : Ura M} {𝓛 : Logic 𝓤} {K : Type 0} {Γ : List (Item 𝓤)} {G : Goal 𝓤 𝓛.H} {R : RattleType} {τ : Ty} where
  -- as the contract has it, and back
  pub takes : K → (p : Plain R τ) (a : Spot) (n : ℕ) (l : List R.Denot)
      → Step K 𝓛 (‵ (slice p a n l) ∷ Γ) G (‵ ((MutSlice (named 0) a.lft R).own_val (list_at a l) (slice_val (a.block, a.offset) n ∷ [])) ∷ ‵ (flft a.lft a.share) ∷ Γ) G
  unfolding slice
  takes t p a n l = fjoin t

  pub hands : K → (p : Plain R τ) (a : Spot) (n : ℕ) (l : List R.Denot)
      → Step K 𝓛 (‵ ((MutSlice (named 0) a.lft R).own_val (list_at a l) (slice_val (a.block, a.offset) n ∷ [])) ∷ ‵ (flft a.lft a.share) ∷ Γ) G (‵ (slice p a n l) ∷ Γ) G
  unfolding slice
  hands t p a n l = fsplit t

  -- an element
  pub opens_row : K → Soaks G → (p : Plain R τ) (a : Spot) (n : ℕ) (l : List R.Denot) (i : ℕ) (d : R.Denot) → i < length l
      → (Fits p (get_or l i d) → Seq K 𝓛 (‵ (fat full_share τ a.block (place (mem R).size a.offset i) (p.val (get_or l i d))) ∷ ‵ (around p a n l i) ∷ Γ) G) → Seq K 𝓛 (‵ (slice p a n l) ∷ Γ) G
  unfolding slice around
  opens_row t z p a n l i d lt k =
      fsplit t $ fsplit t $ move t (1 ∷ []) $ fsplit t $ move t (0 ∷ 1 ∷ 3 ∷ []) $ opens_slice t z R l a.block a.offset $
      elem_out t R (Is R) (shows 𝓛 R) (λ x. p.val x ∷ []) p.tells full_share l i d a.block a.offset lt (λ g. move t (1 ∷ []) $ drop t $
      rewrite t 0 (λ (τs : List Ty). ‵ (cell_at full_share τs (p.val (get_or l i d) ∷ []) a.block (place (mem R).size a.offset i))) p.lies refl $
      use1 𝓛 (‵ (fat full_share τ a.block (place (mem R).size a.offset i) (p.val (get_or l i d)))) (𝓛.laws.raw_at full_share τ a.block (place (mem R).size a.offset i) (p.val (get_or l i d))) $
      move t (4 ∷ 5 ∷ []) $ fjoin t $ move t (4 ∷ 0 ∷ []) $ fjoin t $ move t (3 ∷ 0 ∷ []) $ fjoin t $ move t (2 ∷ 0 ∷ []) $ fjoin t $ move t (1 ∷ []) $ k (record { is = g }))

  -- it was only read
  pub shuts-row : K → Soaks G → {p : Plain R τ} (a : Spot) (n : ℕ) (l : List R.Denot) (i : ℕ) (d : R.Denot) → i < length l → Fits p (get_or l i d)
      → Step K 𝓛 (‵ (slice p a n l) ∷ Γ) G (‵ (fat full_share τ a.block (place (mem R).size a.offset i) (p.val (get_or l i d))) ∷ ‵ (around p a n l i) ∷ Γ) G
  unfolding slice around
  shuts-row t z {p} a n l i d lt g = step (λ s.
      use1 𝓛 (‵ (cell_at full_share (τ ∷ []) (p.val (get_or l i d) ∷ []) a.block (place (mem R).size a.offset i))) (𝓛.laws.at_raw full_share τ a.block (place (mem R).size a.offset i) (p.val (get_or l i d))) $
      rewrite t 0 (λ (τs : List Ty). ‵ (cell_at full_share τs (p.val (get_or l i d) ∷ []) a.block (place (mem R).size a.offset i))) (sym p.lies) refl $
      owned t R (Is R) (p.makes 𝓛) (get_or l i d) (p.val (get_or l i d) ∷ []) g.is $ move t (2 ∷ []) $ fsplit t $ move t (3 ∷ 2 ∷ 0 ∷ 1 ∷ []) $
      elem_back t R full_share l i d (p.val (get_or l i d) ∷ []) a.block a.offset lt $ move t (1 ∷ []) $ fsplit3 t $ move t (2 ∷ []) $ fsplit t $ move t (4 ∷ 2 ∷ 3 ∷ 0 ∷ []) $
      closes_slice t z R l l refl a.block a.offset $ fjoin t $ move t (2 ∷ 0 ∷ []) $ fjoin t $ fjoin t $ s)

  -- another is put in its place
  pub puts-row : K → Soaks G → {p : Plain R τ} (a : Spot) (n : ℕ) (l : List R.Denot) (i : ℕ) {y : R.Denot} → i < length l → Fits p y
      → Step K 𝓛 (‵ (slice p a n (set l i y)) ∷ Γ) G (‵ (fat full_share τ a.block (place (mem R).size a.offset i) (p.val y)) ∷ ‵ (around p a n l i) ∷ Γ) G
  unfolding slice around
  puts-row t z {p} a n l i {y} lt g = step (λ s.
      use1 𝓛 (‵ (cell_at full_share (τ ∷ []) (p.val y ∷ []) a.block (place (mem R).size a.offset i))) (𝓛.laws.at_raw full_share τ a.block (place (mem R).size a.offset i) (p.val y)) $
      rewrite t 0 (λ (τs : List Ty). ‵ (cell_at full_share τs (p.val y ∷ []) a.block (place (mem R).size a.offset i))) (sym p.lies) refl $
      owned t R (Is R) (p.makes 𝓛) y (p.val y ∷ []) g.is $ move t (2 ∷ []) $ fsplit t $ move t (3 ∷ 2 ∷ 0 ∷ 1 ∷ []) $
      elem_put t R full_share l i y (p.val y ∷ []) a.block a.offset lt $ move t (1 ∷ []) $ fsplit3 t $ move t (2 ∷ []) $ fsplit t $ move t (4 ∷ 2 ∷ 3 ∷ 0 ∷ []) $
      closes_slice t z R l (set l i y) (length-set l i y) a.block a.offset $ fjoin t $ move t (2 ∷ []) $ pure_l t (mut_slice_at R (list_at a l) (slice_val (a.block, a.offset) n ∷ [])) (λ e.
      pure_i t (mut_slice_at R (list_at a (set l i y)) (slice_val (a.block, a.offset) n ∷ [])) (tt, (tt, tt)) (e.0 ∙ ap (λ (m : ℕ). slice_val (a.block, a.offset) m ∷ []) (sym (length-set l i y)), subst (Room R) (sym (length-set l i y)) e.1) $ fjoin t $ fjoin t $ s))

  -- all of it is lent on
  pub lends-all : K → Soaks G → (p : Plain R τ) (a : Spot) (l : List R.Denot)
      → ((ν : ℕ) (δ : GName) → Seq K 𝓛 (‵ (slice p (for-call ν δ a.block a.offset) (length l) l) ∷ ‵ (LentAgain R a.lft (ν ∷ []) a.share a.name a.block a.offset δ l) ∷ Γ) G) → Seq K 𝓛 (‵ (slice p a (length l) l) ∷ Γ) G
  unfolding slice
  lends-all t z p a l k =
      fsplit t $ lft_new t z (λ ν. move t (1 ∷ 2 ∷ []) $
      use2 𝓛 (later (some (λ (δ : GName). ‵ ((MutSlice (named 0) (ν ∷ []) R).own_val (list_at (for-call ν δ a.block a.offset) l) (slice_val (a.block, a.offset) (length l) ∷ [])) ⊛ ‵ (LentAgain R a.lft (ν ∷ []) a.share a.name a.block a.offset δ l))))
      (lends_again R a.lft (ν ∷ []) a.share a.name a.block a.offset 𝓛 (named 0) (named 0) l) $ await t z $ pick t (λ δ. split t $ move t (0 ∷ 2 ∷ []) $ fjoin t $ k ν δ))

  pub all_back : K → Soaks G → (p : Plain R τ) (a : Spot) (ν : ℕ) (δ : GName) (l ys : List R.Denot) → Room R (length l) → (length ys ≡ length l → Seq K 𝓛 (‵ (slice p a (length l) ys) ∷ Γ) G)
      → Seq K 𝓛 (‵ (flft (ν ∷ []) full_share) ∷ ‵ (LentAgain R a.lft (ν ∷ []) a.share a.name a.block a.offset δ l) ∷ ‵ (fsep (finally R δ ys) (feq ℕ (length ys) (length l))) ∷ Γ) G
  unfolding slice
  all_back t z p a ν δ l ys room k =
      move t (2 ∷ []) $ fsplit t $ move t (1 ∷ []) $ feq_l t (λ e. move t (1 ∷ []) $ lft_end t z $ move t (0 ∷ 2 ∷ 1 ∷ []) $
      use3 𝓛 (later (‵ ((MutSlice (named 0) a.lft R).own_val (list_at a ys) (slice_val (a.block, a.offset) (length l) ∷ [])) ⊛ ‵ (flft a.lft a.share)))
      (comes_back R a.lft (ν ∷ []) a.share a.name a.block a.offset 𝓛 (named 0) (named 0) l δ ys room e) $ await t z $ split t $ fjoin t $ k e)

-- ---- a length that is not another than n
twice-not : (t : Bool) → Holds (not (not t)) → Holds t
twice-not true z = tt
twice-not false z = absurd z

pub rows_are : (m n : ℕ) → Holds (not (not (eqb m n))) → m ≡ n
rows_are m n z = eqb→eq m n (twice-not (eqb m n) z)
