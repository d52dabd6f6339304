-- A call, as one step of a walk. All that the walk knows of the callee is that it meets its contract. It says nothing of the door.
--     Called 𝓛 c y i p toks left Said      the contract c, at the ghost state y: i gives what it asks, and it leaves the tokens, a result r of the type of p and, for some z, what is left of the arguments, of which it says `Said r z`
--     calls, calls-value                   the call; the second of a callee that is lent nothing
-- Assumes `Logic`.
use mathlib.Core.List.{List, [], ◌∷◌}
use seplogic.Ra.Ura.{Ura}
use mir.Syntax.{Ty, Callee, Place, Opd as Operand, Body as Code, seq, call}
use mir.Val.{Val}
use base.Logic.{ent, sep, ex}
use base.Fml.{ftrue}
use prog.Wp.{Env, Calls, Loops}
use types.Logic.{Logic, sem}
use contract.Monad.{fact}
use sound.WpLaws.{FmC}
use types.Kit.{Item, ‵, raw, some, later, ◌⊛◌, mean, Post, runs, lands, aim, ⋆, Seq, ◌$◌, move, drop, use1, split, pick, await}
use types.Run.{Opds}
use denote.RattleType.{RattleType}
use denote.Laws.{Is, shows}
use denote.Steps.{only, peeks, nothing, heard}
use denote.Triple.Statement.{Contract, Triple}
use denote.Triple.Call.{calls_at}
use Rattle.door_walk.proofs.Plain.{Plain, Fits, fits}
use mathlib.Core.Path.{sym, ap, subst}

pub record Called {M : Type 1} {𝓤 : Ura M} (𝓛 : Logic 𝓤) (c : Contract 𝓤) (y : c.Ghost) (i : Item 𝓤) {R : RattleType} {τ : Ty} (p : Plain R τ) (toks : Item 𝓤) {Z : Type 0} (left : Z → Item 𝓤) (Said : R.Denot → Z → Type 0) : Type 2 where
  pub asks : ent 𝓤 (mean 𝓛 i) (c.pre y)
  pub says : (w : Val) → ent 𝓤 (c.post y w) (𝓛.H.⇛ (ex 𝓤 (λ (r : R.Denot). sep 𝓤 (sep 𝓤 (mean 𝓛 toks) (sem 𝓛 (R.own_val r (w ∷ [])))) (ex 𝓤 (λ (z : Z). sep 𝓤 (mean 𝓛 (left z)) (fact 𝓤 (Said r z)))))))

module _ {M : Type 1} {𝓤 : Ura M} {𝓛 : Logic 𝓤} {K : Type 0} {Γ : List (Item 𝓤)} {E : Env 𝓤 𝓛.H} {C : Calls 𝓤 𝓛.H} {f : Callee} {xs : List Operand} {Λ : Loops 𝓤 𝓛.H} {q : Post 𝓤 𝓛.H} {d : Place} {rest : Code} where
  open 𝓛 use {H}

  pub calls : K → FmC 𝓤 H 𝓛.laws C → {c : Contract 𝓤} → Triple 𝓤 (C f) c → {y : c.Ghost} {i : Item 𝓤} {R : RattleType} {τ : Ty} {p : Plain R τ} {toks : Item 𝓤} {Z : Type 0} {left : Z → Item 𝓤} {Said : R.Denot → Z → Type 0} → Called 𝓛 c y i p toks left Said
      → Opds K 𝓛 (raw (c.pre y) ∷ Γ) E xs (c.args y) → ((r : R.Denot) (z : Z) → Said r z → Fits p r → Seq K 𝓛 (toks ∷ left z ∷ Γ) (lands C Λ E d (p.val r) rest q))
      → Seq K 𝓛 (i ∷ Γ) (runs C Λ E (seq (call f xs d) rest) q)
  calls t fm {c} met {y} {i} {R} {τ} {p} {toks} {Z} {left} {Said} m os k =
      use1 𝓛 (raw (c.pre y)) m.asks $ calls_at t fm c met y os (λ w.
      use1 𝓛 (later (some (λ (r : R.Denot). (toks ⊛ ‵ (R.own_val r (w ∷ []))) ⊛ some (λ (z : Z). left z ⊛ raw (fact 𝓤 (Said r z)))))) (m.says w) $ await t tt $ pick t (λ r. split t $ split t $ move t (1 ∷ []) $
      peeks t R (Is R) (shows 𝓛 R) r (w ∷ []) (λ g. drop t $ move t (1 ∷ []) $ pick t (λ z. split t $ move t (1 ∷ []) $ heard t (Said r z) (λ e. move t (1 ∷ []) $
      record { prf = subst (λ (v : Val). ent 𝓤 (⋆ 𝓛 (toks ∷ left z ∷ Γ)) (aim 𝓤 H (lands C Λ E d v rest q))) (sym (ap only (p.tells r (w ∷ []) g))) (k r z e (fits p r (w ∷ []) g)).prf })))))

  pub calls-value : K → FmC 𝓤 H 𝓛.laws C → {c : Contract 𝓤} → Triple 𝓤 (C f) c → {y : c.Ghost} {R : RattleType} {τ : Ty} {p : Plain R τ} {Z : Type 0} {left : Z → Item 𝓤} {Said : R.Denot → Z → Type 0} → Called 𝓛 c y (‵ ftrue) p (‵ ftrue) left Said
      → Opds K 𝓛 (raw (c.pre y) ∷ Γ) E xs (c.args y) → ((r : R.Denot) (z : Z) → Said r z → Fits p r → Seq K 𝓛 Γ (lands C Λ E d (p.val r) rest q))
      → Seq K 𝓛 Γ (runs C Λ E (seq (call f xs d) rest) q)
  calls-value t fm met m os k = nothing t $ calls t fm met m os (λ r z e g. drop t $ drop t $ k r z e g)
