-- The unit's own Delay_Req, and what both round trips answer and leave.
use Rattle.std.specs.Prelude.{List, ◌++◌, ℕ, ltb, pos, take, drop, cond, Ok, Err}
use Rattle.numbers.specs.declared.refusal.Refusal.TheVariants.{Room}
use Rattle.numbers.specs.Stamps.{no_stamp}
use Rattle.wire_layout.specs.declared.message.Port.{Port}
use Rattle.wire_layout.specs.declared.message.Message.{Message}
use Rattle.wire_layout.specs.declared.message.Body.TheVariants.{DelayReq}
use Rattle.wire_layout.specs.Reading.{Read}
use Rattle.wire_layout.specs.Writing.{Written}
use Rattle.wire_layout.specs.Kinds.{body_size}
use Rattle.wire_layout.specs.Reading.{read_of}

-- what the unit itself asks (rule 2.13)
abbrev pub request_of : ℕ → Port → ℕ → Message
request_of domain own sequence =
    record {
      header = record {
        sdo = 0;
        minor = 0;
        domain = domain;
        minorsdo = 0;
        flags = 0;
        correction = pos 0;
        specific = 0;
        source = own;
        sequence = sequence;
        control = 1;
        interval = pos 127;
      };
      body = DelayReq no_stamp;
    }

-- rule 2.15: what was written is read: the same message, its suffix behind the fixed part
abbrev pub written_read : Message → Written → Read
written_read m (Ok n) = Ok (m, record { from = body_size m.body; to = n })
written_read m (Err r) = Err r

-- rule 2.16: what was read is written: as many octets as were read, where there is room for them
abbrev pub written_back : Read → ℕ → Written
written_back (Ok (m, p)) room = cond (ltb room p.to) (Err Room) (Ok p.to)
written_back (Err r) room = Err r

abbrev pub read_written : List ℕ → ℕ → Written
read_written s room = written_back (read_of s) room

-- what is left in the lent part: the octets that were read, up to messageLength, and then what was there
abbrev pub copied : Written → List ℕ → List ℕ → List ℕ
copied (Ok n) s d = take n s ++ drop n d
copied (Err r) s d = d
