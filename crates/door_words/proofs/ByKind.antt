-- The words of a message by its kind: what a Delay_Resp has, what an Announce has, and what every other has.
use mathlib.Core.Path.{◌≡◌, refl}
use mathlib.Core.List.{List}
use Prim.Native.Nat.{ℕ}
use Rattle.wire_layout.specs.declared.message.Port.{Port}
use Rattle.wire_layout.specs.declared.message.Offer.{Offer}
use Rattle.wire_layout.specs.Kinds.{fixed_length_of}
use Rattle.wire_layout.specs.Positions.{length_in, port_at, header_of, stamp_at, offer_of, body_of}
use Rattle.wire_layout.proofs.Known.{Known, k-sync, k-delay-req, k-follow-up, k-delay-resp, k-announce}
use Rattle.rules_masters.specs.Records.{no_offer}
use Rattle.door_words.specs.declared.messages.MessageWords.{MessageWords}
use Rattle.door_words.specs.Messages.{no_port, got_words}

module _ (s : List ℕ) where
  -- the words of octets taken for a message of the kind k
  abbrev pub words_by : ℕ → MessageWords
  words_by k = got_words (record { header = header_of s; body = body_of k s }) (record { from = fixed_length_of k; to = length_in s })

  -- the same by what they are
  abbrev pub having : ℕ → Port → Offer → ℕ → MessageWords
  having k p o from =
      record { refused = 0; kind = k; header = header_of s; stamp = stamp_at 34 s; requester = p; offer = o; from = from; to = length_in s }

  pub of-delay-resp : {k : ℕ} → k ≡ 9 → words_by k ≡ having k (port_at 44 s) no_offer 54
  unfolding body_of fixed_length_of
  of-delay-resp e = rw e

  pub of-announce : {k : ℕ} → k ≡ 11 → words_by k ≡ having k no_port (offer_of s) 64
  unfolding body_of fixed_length_of
  of-announce e = rw e

  pub of_other : {k : ℕ} → Known k → (k ≡ 9 → ⊥) → (k ≡ 11 → ⊥) → words_by k ≡ having k no_port no_offer 44
  unfolding body_of fixed_length_of
  of_other k-sync a b = refl
  of_other k-delay-req a b = refl
  of_other k-follow-up a b = refl
  of_other k-delay-resp a b = absurd (a refl)
  of_other k-announce a b = absurd (b refl)
