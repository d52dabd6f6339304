-- A master's record: the interval, when it is live, when it is qualified, and what an arrival makes of it (rules 5.1 to 5.8).
use Rattle.std.specs.Prelude.{ℕ, ◌+◌, ◌*◌, ◌^◌, min, Bool, ◌&&◌, leb, eqb, pos}
use Rattle.wire_layout.specs.declared.message.Header.{Header}
use Rattle.wire_layout.specs.declared.message.Offer.{Offer}
use Rattle.wire_layout.specs.declared.message.Port.{Port}
use Rattle.rules_masters.specs.declared.record.Announce.{Announce}
use Rattle.rules_masters.specs.declared.record.Record.{Record}

-- in ms, for the announce exponent a; an exponent over 4 counts as 4
abbrev pub interval_of : ℕ → ℕ
interval_of a = 1000 * 2 ^ min a 4

-- one sender: clock identity and port number both
unfoldable pub same_key_of : Port → Port → Bool
same_key_of a b = eqb a.clock b.clock && eqb a.number b.number

-- never without an arrival, and still where the newer one lies above now
unfoldable pub live_of : ℕ → ℕ → Record → Bool
live_of now interval r = leb 1 r.held && leb now (r.newer + 4 * interval)

-- the sender's own record, and live
unfoldable pub known_of : Port → ℕ → ℕ → Record → Bool
known_of sender now interval r = live_of now interval r && same_key_of r.announce.header.source sender

-- two arrivals, neither of them too long ago
unfoldable pub qualified_of : ℕ → ℕ → Record → Bool
qualified_of now interval r = leb 2 r.held && leb now (r.older + 4 * interval) && leb now (r.newer + 3 * interval)

-- a place that no master has taken: no arrival, and zeros for the rest
abbrev pub no_header : Header
no_header =
    record {
      sdo = 0;
      minor = 0;
      domain = 0;
      minorsdo = 0;
      flags = 0;
      correction = pos 0;
      specific = 0;
      source = record { clock = 0; number = 0 };
      sequence = 0;
      control = 0;
      interval = pos 0;
    }

abbrev pub no_offer : Offer
no_offer =
    record {
      utc = pos 0;
      reserved = 0;
      priority1 = 0;
      class = 0;
      accuracy = 0;
      variance = 0;
      priority2 = 0;
      grandmaster = 0;
      steps = 0;
      time = 0;
    }

abbrev pub fresh_record : Record
fresh_record =
    record {
      announce = record { header = no_header; stamp = record { seconds = 0; nanoseconds = 0 }; offer = no_offer };
      held = 0;
      newer = 0;
      older = 0;
    }

-- after the first Announce of a new sender, ..
abbrev pub entered_of : Announce → ℕ → Record
entered_of m now = record { announce = m; held = 1; newer = now; older = 0 }

-- .. and after a further one of the same sender
abbrev pub renewed_of : Record → Announce → ℕ → Record
renewed_of r m now = record { announce = m; held = 2; newer = now; older = r.newer }
