-- The two kinds that are not heard: Delay_Req and Announce, numbers 1 and 4 among the kinds as they are declared.
use Rattle.std.specs.Prelude.{Err}
use mathlib.Core.Path.{◌≡◌, refl}
use mathlib.Core.Logic.{inl, inr}
use mathlib.Core.List.{[], ◌∷◌}
use Prim.Native.Nat.{ℕ}
use native.Mathlib.Omega.{arith}
use types.Run.{OneOf}
use denote.Enum.Declared.{tag_of}
use Rattle.numbers.specs.declared.refusal.Refusal.TheVariants.{Kind}
use Rattle.numbers.specs.declared.stamp.Stamp.{Stamp}
use Rattle.wire_layout.specs.declared.message.Port.{Port}
use Rattle.wire_layout.specs.declared.message.Header.{Header}
use Rattle.wire_layout.specs.declared.message.Body.{Body}
use Rattle.wire_layout.specs.declared.message.Body.TheVariants.{Sync, DelayReq, FollowUp, DelayResp, Announce}
use Rattle.wire_layout.specs.contracts.message.Body.{the_type}
use Rattle.numbers.specs.Grounds.{first_of}
use Rattle.rules_exchange.specs.declared.Exchange.{Exchange}
use Rattle.rules_exchange.specs.Events.{Answered}
use Rattle.rules_settings.specs.declared.Settings.{Settings}
use Rattle.unit_core.specs.Effects.{Stays}
use Rattle.unit_measuring.specs.Inner.{message_grounds, handed}

-- what is left of the kinds beside an Announce does not have its number
pub not-announce : OneOf (0 ∷ 1 ∷ 2 ∷ 3 ∷ []) 4 → ⊥
not-announce o =
    elim o [ inl e ↦ omega (arith, e) | inr o ↦ elim o [ inl e ↦ omega (arith, e) | inr o ↦ elim o [ inl e ↦ omega (arith, e) | inr e ↦ omega (arith, e) ] ] ]

abbrev pub Unheard : Body → Type 0
Unheard b = OneOf (1 ∷ 4 ∷ []) (tag_of the_type b)

abbrev not-told : Exchange → Answered
not-told x = record { answer = Err Kind; exchange = x }

pub unheard-bars : (s : Settings) (k : Stays) (now : ℕ) (t2 : Stamp) (h : Header) (b : Body) → Unheard b → Err Kind ≡ first_of (message_grounds s k now t2 h b)
unfolding first_of
unheard-bars s k now t2 h (Sync t1) o = elim o [ inl e ↦ absurd (omega (arith, e)) | inr e ↦ absurd (omega (arith, e)) ]
unheard-bars s k now t2 h (DelayReq t) o = refl
unheard-bars s k now t2 h (FollowUp t1) o = elim o [ inl e ↦ absurd (omega (arith, e)) | inr e ↦ absurd (omega (arith, e)) ]
unheard-bars s k now t2 h (DelayResp t4 requester) o = elim o [ inl e ↦ absurd (omega (arith, e)) | inr e ↦ absurd (omega (arith, e)) ]
unheard-bars s k now t2 h (Announce t offer) o = refl

pub unheard-handed : (x : Exchange) (own : Port) (t2 : Stamp) (h : Header) (b : Body) → Unheard b → not-told x ≡ handed x own t2 h b
unheard-handed x own t2 h (Sync t1) o = elim o [ inl e ↦ absurd (omega (arith, e)) | inr e ↦ absurd (omega (arith, e)) ]
unheard-handed x own t2 h (DelayReq t) o = refl
unheard-handed x own t2 h (FollowUp t1) o = elim o [ inl e ↦ absurd (omega (arith, e)) | inr e ↦ absurd (omega (arith, e)) ]
unheard-handed x own t2 h (DelayResp t4 requester) o = elim o [ inl e ↦ absurd (omega (arith, e)) | inr e ↦ absurd (omega (arith, e)) ]
unheard-handed x own t2 h (Announce t offer) o = refl
