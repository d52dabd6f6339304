-- What a request leaves in the lent frame.
use Rattle.std.specs.Prelude.{ℕ, ◌-◌, List, [], ◌++◌, length, take, drop, Ok, Err}
use Rattle.wire_layout.specs.declared.message.Message.{Message}
use Rattle.wire_layout.specs.Writing.{write_of, left_by}
use Rattle.wire_frames.specs.Frames.{request_of}
use Rattle.numbers.specs.Grounds.{Ruling}
use Rattle.numbers.specs.Grounds.{first_of}
use Rattle.unit_core.specs.declared.Core.{Core}
use Rattle.unit_core.specs.Effects.{stays_of}
use Rattle.unit_measuring.specs.Asking.{request_grounds}

-- the 14 octets of Ethernet header stay as they are; behind them stands the message, and what lies past it stays too
abbrev pub framed : Message → List ℕ → List ℕ
framed m f = take 14 f ++ left_by (write_of m [] (length f - 14)) m [] (drop 14 f)

-- a refusal leaves the frame as it was
abbrev pub frame_by : Ruling → Message → List ℕ → List ℕ
frame_by (Ok _) m f = framed m f
frame_by (Err r) m f = f

-- the unit's own Delay_Req, with the sequenceId of this request
abbrev pub frame_after : Core → ℕ → List ℕ → List ℕ
frame_after u now f =
    frame_by (first_of (request_grounds (stays_of u) now (length f))) (request_of u.settings.domain u.settings.own u.domain.sequence) f
