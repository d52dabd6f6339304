-- The steps of a walk: what a function is lent is opened for one statement and closed after it, a field is read and stored in memory as in a local, a callee is called by value. Laws of any type of plain data (`Plain.antt`); they say nothing of the door.
-- Assumes `Logic`.
use mathlib.Core.Path.{◌≡◌, refl, sym, subst}
use Prim.Native.Nat.{ℕ, ◌+◌}
use mathlib.Core.List.{List, [], ◌∷◌}
use seplogic.Ra.Ura.{Ura}
use base.Fraction.{full_share}
use mir.Syntax.{Ty, named}
use mir.Val.{Val, vptr, vstruct}
use mir.Fields.{get_v, set_v}
use base.Fml.{GName, Lft, Share, Fml, fsep, fat, flft, fobs, fauth, fobor}
use types.Logic.{Logic}
use types.Kit.{Goal, Soaks, Item, ‵, ◌⊛◌, nth, put, Seq, Step, step, ◌$◌, ◌∵◌, !, qed, move, drop, use1, split, join, rewrite, fsplit, fsplit3, fjoin, fjoin3, feq_i, frame, done}
use types.Run.{Reads, Writes}
use types.Part.{Part, whole, sub, look_in, store_in}
use types.SemTy.{Body}
use denote.RattleType.{RattleType}
use denote.Laws.{Is, shows, Copy}
use denote.Memory.{mem, cell_at, part_at, hidden_shr}
use denote.Opens.{Opens, Shut}
use denote.Ref.{MutRef, ShrRef}
use denote.Steps.{peeks, owned, nothing, heard}
use denote.Steps as Steps
use Rattle.door_walk.proofs.Plain.{Plain, Fits, fits, typed, Field, Put, words}

-- ---- what is lent
-- a parameter that is lent: its lifetime and the share of it, where it points, its ghost name
pub record Spot : Type 0 where
  pub lft : Lft
  pub share : Share
  pub block : ℕ
  pub offset : ℕ
  pub name : GName

-- by `&mut`: what its type owns, with the lifetime's token
unfoldable pub lent : {R : RattleType} {τ : Ty} → Plain R τ → Spot → R.Denot → Fml
lent {R} p a h = fsep ((MutRef (named 0) a.lft R).own_val (record { ref_ptr = (a.block, a.offset); ghost_name = a.name; now = h }) (vptr a.block a.offset ∷ [])) (flft a.lft a.share)

-- .. and while it is open, beside its memory
unfoldable pub opened : {R : RattleType} {τ : Ty} → Plain R τ → Spot → R.Denot → Fml
opened {R} p a h = fsep (fobor a.lft a.share (Body (mem R) a.block a.offset a.name)) (fsep (fobs a.name (R.coded.code h)) (fauth a.name (R.coded.code h)))

-- one that is lent for a call, for a lifetime of the call's own
abbrev pub for-call : ℕ → GName → ℕ → ℕ → Spot
for-call ν δ b o = record { lft = ν ∷ []; share = full_share; block = b; offset = o; name = δ }

module _ {M : Type 1} {𝓤 : Ura M} {𝓛 : Logic 𝓤} {K : Type 0} {Γ : List (Item 𝓤)} {G : Goal 𝓤 𝓛.H} where
  -- as the contract has it, and back
  pub holds : K → {R : RattleType} {τ : Ty} (p : Plain R τ) (a : Spot) (h : R.Denot)
      → Step K 𝓛 (‵ (lent p a h) ∷ Γ) G (‵ ((MutRef (named 0) a.lft R).own_val (record { ref_ptr = (a.block, a.offset); ghost_name = a.name; now = h }) (vptr a.block a.offset ∷ [])) ∷ ‵ (flft a.lft a.share) ∷ Γ) G
  unfolding lent
  holds t p a h = fjoin t

  pub gives : K → {R : RattleType} {τ : Ty} (p : Plain R τ) (a : Spot) (h : R.Denot)
      → Step K 𝓛 (‵ ((MutRef (named 0) a.lft R).own_val (record { ref_ptr = (a.block, a.offset); ghost_name = a.name; now = h }) (vptr a.block a.offset ∷ [])) ∷ ‵ (flft a.lft a.share) ∷ Γ) G (‵ (lent p a h) ∷ Γ) G
  unfolding lent
  gives t p a h = fsplit t

  -- its memory is at hand, as one cell of its type
  pub opens : K → Soaks G → {R : RattleType} {τ : Ty} (p : Plain R τ) (a : Spot) (h : R.Denot)
      → (Fits p h → Seq K 𝓛 (‵ (fat full_share τ a.block a.offset (p.val h)) ∷ ‵ (opened p a h) ∷ Γ) G) → Seq K 𝓛 (‵ (lent p a h) ∷ Γ) G
  unfolding lent opened
  opens t z {R} {τ} p a h k =
      fsplit t $ fsplit3 t $ drop t $ Steps.opens t z R a.block a.offset (λ vs. move t (1 ∷ []) $ peeks t R (Is R) (shows 𝓛 R) h vs (λ g. drop t $
      rewrite t 0 (λ (us : List Val). ‵ (cell_at full_share R.mir us a.block a.offset)) (p.tells h vs g) refl $
      rewrite t 0 (λ (τs : List Ty). ‵ (cell_at full_share τs (p.val h ∷ []) a.block a.offset)) p.lies refl $
      use1 𝓛 (‵ (fat full_share τ a.block a.offset (p.val h))) (𝓛.laws.raw_at full_share τ a.block a.offset (p.val h)) $
      move t (2 ∷ 3 ∷ []) $ fjoin t $ move t (2 ∷ 0 ∷ []) $ fjoin t $ move t (1 ∷ []) $ k (fits p h vs g)))

  pub closes : K → Soaks G → {R : RattleType} {τ : Ty} {p : Plain R τ} (a : Spot) (h : R.Denot) {y : R.Denot} → Fits p y
      → Step K 𝓛 (‵ (lent p a y) ∷ Γ) G (‵ (fat full_share τ a.block a.offset (p.val y)) ∷ ‵ (opened p a h) ∷ Γ) G
  unfolding lent opened
  closes t z {R} {τ} {p} a h {y} g = step (λ s.
      use1 𝓛 (‵ (cell_at full_share (τ ∷ []) (p.val y ∷ []) a.block a.offset)) (𝓛.laws.at_raw full_share τ a.block a.offset (p.val y)) $
      rewrite t 0 (λ (τs : List Ty). ‵ (cell_at full_share τs (p.val y ∷ []) a.block a.offset)) (sym p.lies) refl $
      move t (1 ∷ []) $ fsplit3 t $ owned t R (Is R) (p.makes 𝓛) y (p.val y ∷ []) g.is $ move t (4 ∷ []) $
      Steps.closes t z R y (p.val y ∷ []) a.block a.offset $ feq_i t (List Val) (vptr a.block a.offset ∷ []) (vptr a.block a.offset ∷ []) refl $ fjoin3 t $ fjoin t $ s)

-- by `&`: it is looked into at some share. A `&` has no ghost name, so the `name` of its Spot says nothing
unfoldable pub seen : {R : RattleType} {τ : Ty} → Plain R τ → Spot → R.Denot → Fml
seen {R} p a h = fsep ((ShrRef (named 0) a.lft R).own_val (record { ref_ptr = (a.block, a.offset); now = h }) (vptr a.block a.offset ∷ [])) (flft a.lft a.share)

-- .. and while it is, beside the share of its memory: the token's way back for that share, and what a `&` to the value holds
unfoldable pub looked : {M : Type 1} {𝓤 : Ura M} (𝓛 : Logic 𝓤) {R : RattleType} {τ : Ty} → Plain R τ → Spot → Share → R.Denot → Item 𝓤
looked 𝓛 {R} p a q h = Shut 𝓛 a.lft a.share (part_at R q h a.block a.offset) ⊛ ‵ (hidden_shr R a.lft h a.block a.offset)

-- what plain data owns can be had twice
pub copies : {R : RattleType} {τ : Ty} → Plain R τ → {M : Type 1} {𝓤 : Ura M} (𝓛 : Logic 𝓤) → Copy 𝓛 R
copies {R} p 𝓛 = record { twice = λ x vs. qed 𝓛 (‵ (R.own_val x vs) ∷ []) ∵ peeks ! R (Is R) (shows 𝓛 R) x vs (λ g. owned ! R (Is R) (p.makes 𝓛) x vs g $ frame ! $ done !) }

module _ {M : Type 1} {𝓤 : Ura M} {𝓛 : Logic 𝓤} {K : Type 0} {Γ : List (Item 𝓤)} {G : Goal 𝓤 𝓛.H} where
  pub sees : K → {R : RattleType} {τ : Ty} (p : Plain R τ) (a : Spot) (h : R.Denot)
      → Step K 𝓛 (‵ (seen p a h) ∷ Γ) G (‵ ((ShrRef (named 0) a.lft R).own_val (record { ref_ptr = (a.block, a.offset); now = h }) (vptr a.block a.offset ∷ [])) ∷ ‵ (flft a.lft a.share) ∷ Γ) G
  unfolding seen
  sees t p a h = fjoin t

  pub saw : K → {R : RattleType} {τ : Ty} (p : Plain R τ) (a : Spot) (h : R.Denot)
      → Step K 𝓛 (‵ ((ShrRef (named 0) a.lft R).own_val (record { ref_ptr = (a.block, a.offset); now = h }) (vptr a.block a.offset ∷ [])) ∷ ‵ (flft a.lft a.share) ∷ Γ) G (‵ (seen p a h) ∷ Γ) G
  unfolding seen
  saw t p a h = fsplit t

  -- what a `&` to a value holds is its type's to say, so that it can be looked into is asked here (`Denote/Copied.antt` has it of plain data)
  pub looks : K → Soaks G → {R : RattleType} {τ : Ty} (p : Plain R τ) → Opens 𝓛 R → (a : Spot) (h : R.Denot)
      → ((q : Share) → Fits p h → Seq K 𝓛 (‵ (fat q τ a.block a.offset (p.val h)) ∷ looked 𝓛 p a q h ∷ Γ) G) → Seq K 𝓛 (‵ (seen p a h) ∷ Γ) G
  unfolding seen looked
  looks t z {R} {τ} p op a h k =
      fsplit t $ fsplit t $ drop t $ Steps.looks t z R op h a.block a.offset (λ q vs.
      move t (1 ∷ []) $ peeks t R (Is R) (shows 𝓛 R) h vs (λ g. drop t $
      rewrite t 0 (λ (us : List Val). ‵ (cell_at q R.mir us a.block a.offset)) (p.tells h vs g) refl $
      rewrite t 0 (λ (τs : List Ty). ‵ (cell_at q τs (p.val h ∷ []) a.block a.offset)) p.lies refl $
      use1 𝓛 (‵ (fat q τ a.block a.offset (p.val h))) (𝓛.laws.raw_at q τ a.block a.offset (p.val h)) $
      move t (1 ∷ 2 ∷ []) $ join t $ move t (1 ∷ []) $ k q (fits p h vs g)))

  pub shuts : K → Soaks G → {R : RattleType} {τ : Ty} {p : Plain R τ} (a : Spot) (q : Share) {h : R.Denot} → Fits p h
      → Step K 𝓛 (‵ (seen p a h) ∷ Γ) G (‵ (fat q τ a.block a.offset (p.val h)) ∷ looked 𝓛 p a q h ∷ Γ) G
  unfolding seen looked
  shuts t z {R} {τ} {p} a q {h} g = step (λ s.
      use1 𝓛 (‵ (cell_at q (τ ∷ []) (p.val h ∷ []) a.block a.offset)) (𝓛.laws.at_raw q τ a.block a.offset (p.val h)) $
      rewrite t 0 (λ (τs : List Ty). ‵ (cell_at q τs (p.val h ∷ []) a.block a.offset)) (sym p.lies) refl $
      move t (1 ∷ []) $ split t $ owned t R (Is R) (p.makes 𝓛) h (p.val h ∷ []) g.is $ move t (3 ∷ 0 ∷ 1 ∷ []) $
      Steps.shuts t z R q h (p.val h ∷ []) a.block a.offset $ move t (1 ∷ []) $ feq_i t (List Val) (vptr a.block a.offset ∷ []) (vptr a.block a.offset ∷ []) refl $ fjoin t $ fjoin t $ s)

-- ---- a field, in memory or in a local
module _ {M : Type 1} {𝓤 : Ura M} {𝓛 : Logic 𝓤} {K : Type 0} {R F : RattleType} {τ σ : Ty} {p : Plain R τ} {f : Plain F σ} {n : ℕ} {get : R.Denot → F.Denot} where
  within : K → (P : Field p f n get) {q : Share} {b o : ℕ} (x : R.Denot)
      → Part K 𝓛 (‵ (fat q τ b o (p.val x))) q σ b (o + P.off) (f.val (get x)) (λ u. ‵ (fat q τ b o (vstruct (set_v (words (p.val x)) n u))))
  within t P {q} {b} {o} x =
      subst (λ (v : Val). Part K 𝓛 (‵ (fat q τ b o (p.val x))) q σ b (o + P.off) v (λ u. ‵ (fat q τ b o (vstruct (set_v (words (p.val x)) n u))))) (P.part-is x)
      (subst (λ (v : Val). Part K 𝓛 (‵ (fat q τ b o v)) q σ b (o + P.off) (get_v (words (p.val x)) n) (λ u. ‵ (fat q τ b o (vstruct (set_v (words (p.val x)) n u))))) (sym (P.val_is x))
      (subst (λ (t' : Ty). Part K 𝓛 (‵ (fat q t' b o (vstruct (words (p.val x))))) q σ b (o + P.off) (get_v (words (p.val x)) n) (λ u. ‵ (fat q t' b o (vstruct (set_v (words (p.val x)) n u))))) (sym P.ty-is)
      (sub t n P.at (whole t))))

  module _ {Γ : List (Item 𝓤)} where
    -- entry m of the context holds the struct
    pub look-field : K → (P : Field p f n get) (m : ℕ) {q : Share} {b o : ℕ} {x : R.Denot} → Fits p x → nth 𝓛 m Γ ≡ ‵ (fat q τ b o (p.val x)) → Reads K 𝓛 Γ σ b (o + P.off) (f.val (get x))
    look-field t P m {q} {b} {o} {x} g e = look_in t m (subst (λ (i : Item 𝓤). Part K 𝓛 i q σ b (o + P.off) (f.val (get x)) (λ u. ‵ (fat q τ b o (vstruct (set_v (words (p.val x)) n u))))) (sym e) (within t P x))

    pub store-field : K → {P : Field p f n get} {into : R.Denot → F.Denot → R.Denot} (U : Put p f n get P into) (m : ℕ) {b o : ℕ} {x : R.Denot} {y : F.Denot} → Fits p x → Fits f y → nth 𝓛 m Γ ≡ ‵ (fat full_share τ b o (p.val x))
        → Writes K 𝓛 Γ σ b (o + P.off) (f.val y) (put 𝓛 m (‵ (fat full_share τ b o (p.val (into x y)))) Γ)
    store-field t {P} {into} U m {b} {o} {x} {y} g h e =
        subst (λ (v : Val). Writes K 𝓛 Γ σ b (o + P.off) (f.val y) (put 𝓛 m (‵ (fat full_share τ b o v)) Γ)) (U.made-is x y)
        (store_in t m (subst (λ (i : Item 𝓤). Part K 𝓛 i full_share σ b (o + P.off) (f.val (get x)) (λ u. ‵ (fat full_share τ b o (vstruct (set_v (words (p.val x)) n u))))) (sym e) (within t P x)) (typed 𝓛 h))
