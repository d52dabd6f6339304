-- A message that was read has a sound stamp: FIELD is then due of a Sync's t2 alone, and of no other message.
use Rattle.std.specs.Prelude.{Ok, Err}
use mathlib.Core.Path.{◌≡◌, refl, sym, ap, ◌∙◌}
use mathlib.Core.Bool.{Bool, true, false, not}
use mathlib.Core.List.{List}
use Prim.Native.Nat.{ℕ}
use native.Mathlib.Omega.{arith}
use Rattle.numbers.specs.declared.stamp.Stamp.{Stamp}
use Rattle.numbers.specs.Grounds.{Ruling}
use Rattle.numbers.specs.Grounds.{first_of, answer_by}
use Rattle.numbers.specs.Stamps.{sound_of}
use Rattle.numbers.proofs.Grounds.{clear-cons}
use Rattle.wire_layout.specs.declared.message.Body.{Body}
use Rattle.wire_layout.specs.declared.message.Body.TheVariants.{Sync, DelayReq, FollowUp, DelayResp, Announce}
use Rattle.wire_layout.specs.declared.message.Message.{Message}
use Rattle.wire_layout.specs.declared.message.Part.{Part}
use Rattle.wire_layout.specs.Kinds.{stamp_in}
use Rattle.wire_layout.specs.Positions.{message_of}
use Rattle.wire_layout.specs.Reading.{suffix_at, reading_grounds, read_of, Read}
use Rattle.rules_exchange.specs.Events.{field_of}
use Rattle.unit_measuring.specs.Barring.{field_in}

no-not : (b : Bool) → not b ≡ false → b ≡ true
no-not true e = refl
no-not false e = sym e

module _ (s : List ℕ) (m : Message) (p : Part) where
  by-ruling : (v : Ruling) → first_of (reading_grounds s) ≡ v → answer_by {A = Read} Err (Ok (message_of s, suffix_at s)) v ≡ Ok (m, p) → sound_of (stamp_in m.body) ≡ true
  by-ruling (Ok _) q e =
      let both : ◌≡◌ {A = Message × Part} (message_of s, suffix_at s) (m, p) = cc in
      let same : message_of s ≡ m = ap (λ (x : Message × Part). x.0) both in
      let sized = (clear-cons _ _ (clear-cons _ _ (clear-cons _ _ (clear-cons _ _ (clear-cons _ _ q).1).1).1).1).1 in
      sym (ap (λ (x : Message). sound_of (stamp_in x.body)) same) ∙ no-not _ (clear-cons _ _ sized).0
  by-ruling (Err r) q e = let z : ◌≡◌ {A = ℕ} 0 1 = cc in absurd (omega arith)

  pub read-stamp-sound : read_of s ≡ Ok (m, p) → sound_of (stamp_in m.body) ≡ true
  unfolding read_of
  read-stamp-sound e = by-ruling (first_of (reading_grounds s)) refl e

-- FIELD of what comes with a message and is no part of it
abbrev pub field_beside : Stamp → Body → Bool
field_beside t2 (Sync t1) = field_of t2
field_beside t2 (DelayReq t) = false
field_beside t2 (FollowUp t1) = false
field_beside t2 (DelayResp t4 requester) = false
field_beside t2 (Announce t offer) = false

beside : (t2 : Stamp) (b : Body) → sound_of (stamp_in b) ≡ true → field_in t2 b ≡ field_beside t2 b
beside t2 (Sync t1) h = rw h
beside t2 (DelayReq t) h = refl
beside t2 (FollowUp t1) h = rw h
beside t2 (DelayResp t4 requester) h = rw h
beside t2 (Announce t offer) h = refl

-- whoever hands over octets is never refused for the stamp that they hold
pub read-field : (s : List ℕ) (m : Message) (p : Part) → read_of s ≡ Ok (m, p) → (t2 : Stamp) → field_in t2 m.body ≡ field_beside t2 m.body
read-field s m p e t2 = beside t2 m.body (read-stamp-sound s m p e)
