-- A field of a struct that lies in memory is lent for a lifetime of a call, and comes back: `Denote/Lend.antt`'s `lends_ref` and `ref_back`, from the cell. It says nothing of the door, and can be copied as it stands.
-- Assumes `Logic`.
use mathlib.Core.Path.{sym, refl}
use Prim.Native.Nat.{ℕ}
use mathlib.Core.List.{List, [], ◌∷◌}
use seplogic.Ra.Ura.{Ura}
use base.Fraction.{full_share}
use mir.Syntax.{Lifetime, Ty, named}
use mir.Val.{Val, Vals, vptr, vstruct}
use base.Logic.{SProp, ent, sep, ex, all, wand}
use base.Fml.{Lft, GName, fsep, fat, flft, fdead, fres, flent}
use prog.Model.{fields_at}
use prog.Wp.{Heap}
use types.Logic.{Logic, sem}
use types.Kit.{Goal, Soaks, Item, Seq, drop, rewrite, ‵, ◌⊛◌, some, later, ◌$◌, ◌∵◌, !, qed, move, use1, use3, split, pick, fpick, fpack, fsplit, fjoin, frame, await, updating, now as at_once, show, done}
use types.Tokens.{lft_new, lft_end}
use types.SemTy.{Body}
use denote.RattleType.{RattleType}
use denote.Laws.{Is, Makes, shows}
use denote.Steps.{owned, peeks}
use denote.Memory.{mem, cell_at, part_of}
use denote.Ref.{MutRef}
use denote.Lend.{lends_ref, ref_back}
use Rattle.door_walk.proofs.Plain.{Plain, Fits, fits, tys-of}
use Rattle.door_walk.proofs.Walk.{lent, for-call}

-- the way back, from the memory of a struct's fields to that of the struct
abbrev pub way : {M : Type 1} (𝓤 : Ura M) (H : Heap 𝓤) → Ty → ℕ → ℕ → SProp 𝓤
way 𝓤 H τ b o = all 𝓤 (λ (us : Vals). wand 𝓤 (fields_at 𝓤 H full_share (tys-of τ) 0 b o us) (H.at full_share τ b o (vstruct us)))

module _ {M : Type 1} {𝓤 : Ura M} (𝓛 : Logic 𝓤) (R : RattleType) where
  open 𝓛 use {H, A}

  pub lends_field : Makes 𝓛 R (Is R) → (ℓ : Lifetime) (κ : Lft) (h : R.Denot) (u : Val) (b o : ℕ) → Is R h (u ∷ [])
      → ent 𝓤 (sem 𝓛 (cell_at full_share R.mir (u ∷ []) b o)) (H.⇛ (ex 𝓤 (λ (γ : GName). sep 𝓤 (sem 𝓛 ((MutRef ℓ κ R).own_val (record { ref_ptr = (b, o); ghost_name = γ; now = h }) (vptr b o ∷ []))) (sem 𝓛 (flent κ (Body (mem R) b o γ))))))
  unfolding part_of
  lends_field makes ℓ κ h u b o g =
      qed 𝓛 (‵ (cell_at full_share R.mir (u ∷ []) b o) ∷ []) ∵ updating ! $ owned ! R (Is R) makes h (u ∷ []) g $ move ! (1 ∷ 0 ∷ []) $ fjoin ! $
      fpack ! (List Val) (λ us. fsep (cell_at full_share R.mir us b o) (R.own_val h us)) (u ∷ []) $
      use1 𝓛 (later (some (λ (γ : GName). ‵ ((MutRef ℓ κ R).own_val (record { ref_ptr = (b, o); ghost_name = γ; now = h }) (vptr b o ∷ [])) ⊛ ‵ (flent κ (Body (mem R) b o γ))))) (lends_ref 𝓛 R ℓ κ h b o) $ await ! tt $ pick ! (λ γ. split ! $
      at_once ! $ show ! (λ (δ : GName). sep 𝓤 (sem 𝓛 ((MutRef ℓ κ R).own_val (record { ref_ptr = (b, o); ghost_name = δ; now = h }) (vptr b o ∷ []))) (sem 𝓛 (flent κ (Body (mem R) b o δ)))) γ $ frame ! $ done !)

  pub field_back : (κ : Lft) (γ : GName) (z : R.Denot) (b o : ℕ)
      → ent 𝓤 (sep 𝓤 (A.dead κ) (sep 𝓤 (sem 𝓛 (flent κ (Body (mem R) b o γ))) (sem 𝓛 (fres γ (R.coded.code z))))) (H.⇛ (ex 𝓤 (λ (vs : List Val). sep 𝓤 (sem 𝓛 (cell_at full_share R.mir vs b o)) (sem 𝓛 (R.own_val z vs)))))
  unfolding part_of
  field_back κ γ z b o =
      qed 𝓛 (‵ (fdead κ) ∷ ‵ (flent κ (Body (mem R) b o γ)) ∷ ‵ (fres γ (R.coded.code z)) ∷ []) ∵ updating ! $
      use3 𝓛 (later (‵ ((mem R).own_at z b o))) (ref_back 𝓛 R κ γ z b o) $ await ! tt $ fpick ! (λ vs. fsplit ! $
      at_once ! $ show ! (λ (us : List Val). sep 𝓤 (sem 𝓛 (cell_at full_share R.mir us b o)) (sem 𝓛 (R.own_val z us))) vs $ frame ! $ done !)

module _ {M : Type 1} {𝓤 : Ura M} {𝓛 : Logic 𝓤} {K : Type 0} {Γ : List (Item 𝓤)} {G : Goal 𝓤 𝓛.H} {R : RattleType} {τ : Ty} where
  -- the same as steps of a walk, of a field that is one machine value
  pub lends : K → Soaks G → {p : Plain R τ} (b o : ℕ) {x : R.Denot} → Fits p x
      → ((ν : ℕ) (δ : GName) → Seq K 𝓛 (‵ (lent p (for-call ν δ b o) x) ∷ ‵ (flent (ν ∷ []) (Body (mem R) b o δ)) ∷ Γ) G) → Seq K 𝓛 (‵ (fat full_share τ b o (p.val x)) ∷ Γ) G
  unfolding lent
  lends t z {p} b o {x} g k =
      use1 𝓛 (‵ (cell_at full_share (τ ∷ []) (p.val x ∷ []) b o)) (𝓛.laws.at_raw full_share τ b o (p.val x)) $ rewrite t 0 (λ (τs : List Ty). ‵ (cell_at full_share τs (p.val x ∷ []) b o)) (sym p.lies) refl $
      lft_new t z (λ ν. move t (1 ∷ []) $
      use1 𝓛 (later (some (λ (δ : GName). ‵ ((MutRef (named 0) (ν ∷ []) R).own_val (record { ref_ptr = (b, o); ghost_name = δ; now = x }) (vptr b o ∷ [])) ⊛ ‵ (flent (ν ∷ []) (Body (mem R) b o δ))))) (lends_field 𝓛 R (p.makes 𝓛) (named 0) (ν ∷ []) x (p.val x) b o g.is) $
      await t z $ pick t (λ δ. split t $ move t (0 ∷ 2 ∷ []) $ fjoin t $ k ν δ))

  pub returned : K → Soaks G → (p : Plain R τ) (ν : ℕ) (δ : GName) (b o : ℕ) (y : R.Denot)
      → (Fits p y → Seq K 𝓛 (‵ (fat full_share τ b o (p.val y)) ∷ Γ) G) → Seq K 𝓛 (‵ (flft (ν ∷ []) full_share) ∷ ‵ (flent (ν ∷ []) (Body (mem R) b o δ)) ∷ ‵ (fres δ (R.coded.code y)) ∷ Γ) G
  returned t z p ν δ b o y k =
      lft_end t z $ use3 𝓛 (later (some (λ (vs : List Val). ‵ (cell_at full_share R.mir vs b o) ⊛ ‵ (R.own_val y vs)))) (field_back 𝓛 R (ν ∷ []) δ y b o) $ await t z $ pick t (λ vs. split t $ move t (1 ∷ []) $
      peeks t R (Is R) (shows 𝓛 R) y vs (λ g. drop t $ rewrite t 0 (λ (us : List Val). ‵ (cell_at full_share R.mir us b o)) (p.tells y vs g) refl $ rewrite t 0 (λ (τs : List Ty). ‵ (cell_at full_share τs (p.val y ∷ []) b o)) p.lies refl $
      use1 𝓛 (‵ (fat full_share τ b o (p.val y))) (𝓛.laws.raw_at full_share τ b o (p.val y)) $ k (fits p y vs g)))
