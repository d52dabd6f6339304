-- What writing answers and leaves: the first of its refusals that is due, in the order of `of_writing`, else the message's octets in front of what was there.
use Rattle.std.specs.Prelude.{Bool, false, not, cond, List, [], ◌∷◌, ◌++◌, ℕ, ◌+◌, ◌*◌, ltb, length, drop, Ok, Err, Result}
use Rattle.std.specs.Int.{w8, w16, w64}
use Rattle.std.proofs.Common.{of_z}
use Rattle.wire_octets.specs.Octets.{big_endian}
use Rattle.numbers.specs.Stamps.{sound_of}
use Rattle.numbers.specs.declared.stamp.Stamp.{Stamp}
use Rattle.numbers.specs.Grounds.{Ground, first_of, answer_by}
use Rattle.numbers.specs.Orders.{of_writing}
use Rattle.wire_layout.specs.declared.message.Port.{Port}
use Rattle.wire_layout.specs.declared.message.Header.{Header}
use Rattle.wire_layout.specs.declared.message.Offer.{Offer}
use Rattle.wire_layout.specs.declared.message.Body.{Body}
use Rattle.wire_layout.specs.declared.message.Body.TheVariants.{Sync, DelayReq, FollowUp, DelayResp, Announce}
use Rattle.wire_layout.specs.declared.message.Message.{Message}
use Rattle.wire_layout.specs.Kinds.{kind_of, body_size, stamp_in}
use Rattle.wire_layout.specs.Suffix.{whole_of}
use Rattle.numbers.specs.declared.refusal.Refusal.{Refusal}

-- what writing answers: the message's length, or the refusal
abbrev pub Written : Type 0
Written = Result ℕ Refusal

-- the octets of each part, in their order; the bits of a signed field are given
unfoldable pub port_octets : Port → List ℕ
port_octets p = big_endian 8 p.clock ++ big_endian 2 p.number

-- the header in front of the source's port identity, and behind it
unfoldable pub front_bits : Header → ℕ → ℕ → ℕ → List ℕ
front_bits h kind len correction =
    (h.sdo * 16 + kind) ∷ (h.minor * 16 + 2) ∷ big_endian 2 len ++ h.domain ∷ h.minorsdo ∷ big_endian 2 h.flags
    ++ big_endian 8 correction ++ big_endian 4 h.specific

unfoldable pub back_bits : Header → ℕ → List ℕ
back_bits h interval = big_endian 2 h.sequence ++ h.control ∷ interval ∷ []

abbrev pub front_octets : Header → ℕ → ℕ → List ℕ
front_octets h kind len = front_bits h kind len (of_z w64 h.correction)

abbrev pub back_octets : Header → List ℕ
back_octets h = back_bits h (of_z w8 h.interval)

abbrev pub header_octets : Header → ℕ → ℕ → List ℕ
header_octets h kind len = front_octets h kind len ++ port_octets h.source ++ back_octets h

unfoldable pub stamp_octets : Stamp → List ℕ
stamp_octets t = big_endian 6 t.seconds ++ big_endian 4 t.nanoseconds

unfoldable pub offer_bits : Offer → ℕ → List ℕ
offer_bits o utc =
    big_endian 2 utc ++ o.reserved ∷ o.priority1 ∷ o.class ∷ o.accuracy ∷ big_endian 2 o.variance ++ o.priority2 ∷ big_endian 8 o.grandmaster
    ++ big_endian 2 o.steps ++ o.time ∷ []

abbrev pub offer_octets : Offer → List ℕ
offer_octets o = offer_bits o (of_z w16 o.utc)

abbrev pub body_octets : Body → List ℕ
body_octets (Sync t) = stamp_octets t
body_octets (DelayReq t) = stamp_octets t
body_octets (FollowUp t) = stamp_octets t
body_octets (DelayResp t p) = stamp_octets t ++ port_octets p
body_octets (Announce t o) = stamp_octets t ++ offer_octets o

-- the fixed part of a message of n octets
abbrev pub octets_of : Message → ℕ → List ℕ
octets_of m n = header_octets m.header (kind_of m.body) n ++ body_octets m.body

-- no FIELD: four-bit fields up to 15, and a sound stamp
unfoldable pub fields_fit : Header → Stamp → Bool
fields_fit h t = cond (ltb h.sdo 16) (cond (ltb h.minor 16) (sound_of t) false) false

-- when each refusal of writing is due; room is the lent part's length
abbrev pub writing_grounds : Message → List ℕ → ℕ → List Ground
writing_grounds m t room =
    of_writing
    (not (fields_fit m.header (stamp_in m.body)))
    (not (whole_of t))
    (ltb 65_535 (body_size m.body + length t))
    (ltb room (body_size m.body + length t))

unfoldable pub write_of : Message → List ℕ → ℕ → Written
write_of m t room = answer_by Err (Ok (body_size m.body + length t)) (first_of (writing_grounds m t room))

-- what is left in the part that was lent: the message's octets and then what was there; all as it was after a refusal
abbrev pub left_by : Written → Message → List ℕ → List ℕ → List ℕ
left_by (Ok n) m t d = octets_of m n ++ t ++ drop n d
left_by (Err r) m t d = d
