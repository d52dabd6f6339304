-- What reading answers: the first of its refusals that is due, in the order of `of_reading`, else the message and where its suffix lies.
use Rattle.std.specs.Prelude.{not, List, ℕ, ◌-◌, ltb, eqb, length, take, drop, Ok, Err, Result}
use Rattle.numbers.specs.Grounds.{Ground, first_of, answer_by}
use Rattle.numbers.specs.Orders.{of_reading}
use Rattle.numbers.specs.Stamps.{sound_of}
use Rattle.wire_layout.specs.declared.message.Part.{Part}
use Rattle.wire_layout.specs.Kinds.{fixed_length_of, stamp_in}
use Rattle.wire_layout.specs.Positions.{kind_in, version_in, length_in, body_of, message_of}
use Rattle.wire_layout.specs.Suffix.{whole_of}
use Rattle.numbers.specs.declared.refusal.Refusal.{Refusal}
use Rattle.wire_layout.specs.declared.message.Message.{Message}

-- what reading answers: the message and where its suffix lies, or the refusal
abbrev pub Read : Type 0
Read = Result (Message × Part) Refusal

-- the suffix comes behind the fixed part and ends at messageLength
abbrev pub suffix_at : List ℕ → Part
suffix_at s = record { from = fixed_length_of (kind_in s); to = length_in s }

abbrev pub suffix_in : List ℕ → List ℕ
suffix_in s = take (length_in s - fixed_length_of (kind_in s)) (drop (fixed_length_of (kind_in s)) s)

-- when each refusal of reading is due; seconds of six octets are sound, so that FIELD is the nanoseconds'
abbrev pub reading_grounds : List ℕ → List Ground
reading_grounds s =
    of_reading
    (ltb (length s) 34)
    (not (eqb (version_in s) 2))
    (eqb (fixed_length_of (kind_in s)) 0)
    (ltb (length_in s) (fixed_length_of (kind_in s)))
    (ltb (length s) (length_in s))
    (not (sound_of (stamp_in (body_of (kind_in s) s))))
    (not (whole_of (suffix_in s)))

unfoldable pub read_of : List ℕ → Read
read_of s = answer_by Err (Ok (message_of s, suffix_at s)) (first_of (reading_grounds s))
