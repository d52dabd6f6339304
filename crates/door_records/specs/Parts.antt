-- Flags and stamps, the parts that all records of C share.
use Rattle.std.specs.Prelude.{ℕ, Bool, true, false, not, eqb}
use Rattle.numbers.specs.declared.stamp.Stamp.{Stamp}
use Rattle.door_records.specs.declared.stamp.StampWords.{StampWords}

-- yes is written as 1, no as 0
abbrev pub flag : Bool → ℕ
flag true = 1
flag false = 0

-- any number but 0 is yes
abbrev pub is_set : ℕ → Bool
is_set n = not (eqb n 0)

-- the spare is not looked at ..
abbrev pub stamp_in : StampWords → Stamp
stamp_in w = record { seconds = w.seconds; nanoseconds = w.nanoseconds }

-- .. and written as 0, here and in every record
abbrev pub stamp_words : Stamp → StampWords
stamp_words t = record { seconds = t.seconds; nanoseconds = t.nanoseconds; spare = 0 }
