-- A message as numbers, and the message that such numbers mean.
use Rattle.std.specs.Prelude.{cond, List, ℕ, eqb, length, Ok, Err, Result}
use Rattle.numbers.specs.declared.stamp.Stamp.{Stamp}
use Rattle.numbers.specs.Stamps.{no_stamp}
use Rattle.numbers.specs.declared.refusal.Refusal.TheVariants.{Kind}
use Rattle.numbers.specs.Orders.{number_of}
use Rattle.wire_layout.specs.declared.message.Port.{Port}
use Rattle.wire_layout.specs.declared.message.Header.{Header}
use Rattle.wire_layout.specs.declared.message.Offer.{Offer}
use Rattle.wire_layout.specs.declared.message.Part.{Part}
use Rattle.wire_layout.specs.declared.message.Body.{Body}
use Rattle.wire_layout.specs.declared.message.Body.TheVariants.{Sync, DelayReq, FollowUp, DelayResp, Announce}
use Rattle.wire_layout.specs.declared.message.Message.{Message}
use Rattle.wire_layout.specs.Reading.{Read}
use Rattle.wire_layout.specs.Writing.{Written}
use Rattle.wire_layout.specs.Kinds.{kind_of, stamp_in}
use Rattle.wire_layout.specs.Writing.{write_of, left_by}
use Rattle.rules_masters.specs.Records.{no_header, no_offer}
use Rattle.door_words.specs.declared.messages.MessageWords.{MessageWords}
use Rattle.door_words.specs.declared.messages.WrittenWords.{WrittenWords}
use Rattle.numbers.specs.declared.refusal.Refusal.{Refusal}

-- the message that words mean, or why they mean none
abbrev pub Handed : Type 0
Handed = Result Message Refusal

-- ---- to numbers
abbrev pub no_port : Port
no_port = record { clock = 0; number = 0 }

abbrev pub requester_in : Body → Port
requester_in (Sync t) = no_port
requester_in (DelayReq t) = no_port
requester_in (FollowUp t) = no_port
requester_in (DelayResp t p) = p
requester_in (Announce t o) = no_port

abbrev pub offer_in : Body → Offer
offer_in (Sync t) = no_offer
offer_in (DelayReq t) = no_offer
offer_in (FollowUp t) = no_offer
offer_in (DelayResp t p) = no_offer
offer_in (Announce t o) = o

abbrev pub refused_words : ℕ → MessageWords
refused_words n = record { refused = n; kind = 0; header = no_header; stamp = no_stamp; requester = no_port; offer = no_offer; from = 0; to = 0 }

abbrev pub got_words : Message → Part → MessageWords
got_words m p =
    record {
      refused = 0;
      kind = kind_of m.body;
      header = m.header;
      stamp = stamp_in m.body;
      requester = requester_in m.body;
      offer = offer_in m.body;
      from = p.from;
      to = p.to;
    }

abbrev pub read_words : Read → MessageWords
read_words (Ok (m, p)) = got_words m p
read_words (Err r) = refused_words (number_of r)

-- ---- and back
abbrev pub with : Header → Body → Handed
with h b = Ok (record { header = h; body = b })

-- the five kinds of rule 2.5; any other is KIND (rule 3.3)
unfoldable pub by_kind : ℕ → Header → Stamp → Port → Offer → Handed
by_kind k h t p o =
    cond (eqb k 0) (with h (Sync t))
    (cond (eqb k 1) (with h (DelayReq t))
    (cond (eqb k 8) (with h (FollowUp t))
    (cond (eqb k 9) (with h (DelayResp t p)) (cond (eqb k 11) (with h (Announce t o)) (Err Kind)))))

-- what was refused in reading is no message, whatever number is there
unfoldable pub message_by : MessageWords → Handed
message_by w = cond (eqb w.refused 0) (by_kind w.kind w.header w.stamp w.requester w.offer) (Err Kind)

-- ---- writing
abbrev pub written_words : Written → WrittenWords
written_words (Ok n) = record { refused = 0; length = n }
written_words (Err r) = record { refused = number_of r; length = 0 }

-- the writing, once the message is known
abbrev pub put_by : Handed → List ℕ → ℕ → Written
put_by (Ok m) suffix room = write_of m suffix room
put_by (Err r) suffix room = Err r

abbrev pub written_by : Handed → List ℕ → ℕ → WrittenWords
written_by h suffix room = written_words (put_by h suffix room)

-- rule 3.51: a refusal is its number, and all stays as it was
abbrev pub left_words : Handed → List ℕ → List ℕ → List ℕ
left_words (Ok m) suffix part = left_by (write_of m suffix (length part)) m suffix part
left_words (Err r) suffix part = part
