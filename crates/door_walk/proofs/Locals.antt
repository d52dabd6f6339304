-- The locals of a function: all are allocated at once, and freed at once. It says nothing of the door.
-- Assumes `Logic`.
use Prim.Native.Nat.{ℕ, zero}
use mathlib.Core.List.{List, [], ◌∷◌}
use seplogic.Ra.Ura.{Ura}
use mir.Syntax.{Ty, Local, local}
use base.Logic.{SProp, ent, sep, via, mono_l, mono_r, id⊢, comm∗, assoc∗, assoc'}
use base.Fml.{Fml, ftrue, fsep, froom, fdies}
use prog.Wp.{Env, release}
use types.Logic.{Logic}
use types.Kit.{Goal, Item, ‵, ⋆, allocs, frees, prop, Seq, ◌$◌, ◌∵◌, !, qed, by, move, drop, join, fsplit, fjoin, frame}
use types.Run.{alloc1, alloc0}
use denote.Steps.{nothing}

abbrev pub Blocks : List Local → Type 0
Blocks [] = Unit {0}
Blocks (local τ h ∷ ls) = ℕ × Blocks ls

abbrev pub env : (ls : List Local) → Blocks ls → List (Ty × ℕ)
env [] bs = []
env (local τ h ∷ ls) bs = (τ, bs.0) ∷ env ls bs.1

-- room for each, the last first, before Γ
abbrev pub rooms : {M : Type 1} {𝓤 : Ura M} (ls : List Local) → Blocks ls → List (Item 𝓤) → List (Item 𝓤)
rooms [] bs Γ = Γ
rooms (local τ h ∷ ls) bs Γ = rooms ls bs.1 (‵ (froom τ bs.0 zero) ∷ Γ)

-- the leave to free them, in one formula
abbrev pub leave : (ls : List Local) → Blocks ls → Fml → Fml
leave [] bs D = D
leave (local τ h ∷ ls) bs D = leave ls bs.1 (fsep (fdies τ bs.0) D)

module _ {M : Type 1} {𝓤 : Ura M} {𝓛 : Logic 𝓤} {K : Type 0} where
  open 𝓛 use {H}

  allocs-on : K → (ls : List Local) (D : Fml) {Γ : List (Item 𝓤)} (Kt : Env 𝓤 H → Goal 𝓤 H) → ((bs : Blocks ls) → Seq K 𝓛 (‵ (leave ls bs D) ∷ rooms ls bs Γ) (Kt (env ls bs))) → Seq K 𝓛 (‵ D ∷ Γ) (allocs ls Kt)
  allocs-on t [] D Kt k = alloc0 t $ k tt
  allocs-on t (local τ h ∷ ls) D Kt k = alloc1 t (λ b. move t (1 ∷ 2 ∷ []) $ fjoin t $ allocs-on t ls (fsep (fdies τ b) D) (λ E. Kt ((τ, b) ∷ E)) (λ bs. k (b, bs)))

  pub allocates : K → (ls : List Local) {Γ : List (Item 𝓤)} {Kt : Env 𝓤 H → Goal 𝓤 H} → ((bs : Blocks ls) → Seq K 𝓛 (‵ (leave ls bs ftrue) ∷ rooms ls bs Γ) (Kt (env ls bs))) → Seq K 𝓛 Γ (allocs ls Kt)
  allocates t ls {Kt = Kt} k = nothing t $ allocs-on t ls ftrue Kt k

module _ {M : Type 1} {𝓤 : Ura M} (𝓛 : Logic 𝓤) where
  -- what is freed last may be had first
  open 𝓛 use {H}

  late : (E : Env 𝓤 H) (X P : SProp 𝓤) → ent 𝓤 (release 𝓤 H E (sep 𝓤 X P)) (sep 𝓤 X (release 𝓤 H E P))
  late [] X P = id⊢ 𝓤 (sep 𝓤 X P)
  late ((τ, b) ∷ E) X P =
      via 𝓤 (sep 𝓤 Y (sep 𝓤 X (release 𝓤 H E P))) (mono_r 𝓤 Y (late E X P))
      (via 𝓤 (sep 𝓤 (sep 𝓤 Y X) (release 𝓤 H E P)) (assoc' 𝓤 Y X (release 𝓤 H E P))
      (via 𝓤 (sep 𝓤 (sep 𝓤 X Y) (release 𝓤 H E P)) (mono_l 𝓤 (release 𝓤 H E P) (comm∗ 𝓤 Y X)) (assoc∗ 𝓤 X Y (release 𝓤 H E P))))
    where
      Y : SProp 𝓤
      Y = sep 𝓤 (H.room τ b zero) (H.dies τ b)

  frees-on : (ls : List Local) (bs : Blocks ls) (D : Fml) (Γ : List (Item 𝓤)) (P : SProp 𝓤) → ent 𝓤 (⋆ 𝓛 (‵ D ∷ Γ)) P → ent 𝓤 (⋆ 𝓛 (‵ (leave ls bs D) ∷ rooms ls bs Γ)) (release 𝓤 H (env ls bs) P)
  frees-on [] bs D Γ P h = h
  frees-on (local τ h' ∷ ls) bs D Γ P h =
      via 𝓤 (release 𝓤 H (env ls bs.1) (sep 𝓤 (sep 𝓤 (H.room τ bs.0 zero) (H.dies τ bs.0)) P))
      (frees-on ls bs.1 (fsep (fdies τ bs.0) D) (‵ (froom τ bs.0 zero) ∷ Γ) (sep 𝓤 (sep 𝓤 (H.room τ bs.0 zero) (H.dies τ bs.0)) P)
      (qed 𝓛 (‵ (fsep (fdies τ bs.0) D) ∷ ‵ (froom τ bs.0 zero) ∷ Γ) ∵ fsplit ! $ move ! (2 ∷ 0 ∷ []) $ join ! $ frame ! $ move ! (0 ∷ []) $ by ! h))
      (late (env ls bs.1) (sep 𝓤 (H.room τ bs.0 zero) (H.dies τ bs.0)) P)

pub frees_all : {M : Type 1} {𝓤 : Ura M} {𝓛 : Logic 𝓤} {K : Type 0} → K → (ls : List Local) (bs : Blocks ls) {Γ : List (Item 𝓤)} {P : SProp 𝓤} → Seq K 𝓛 Γ (prop P) → Seq K 𝓛 (‵ (leave ls bs ftrue) ∷ rooms ls bs Γ) (frees (env ls bs) (prop P))
frees_all {𝓤 = 𝓤} {𝓛 = 𝓛} t ls bs {Γ} {P} s = record { prf = frees-on 𝓛 ls bs ftrue Γ P (drop t $ s).prf }
