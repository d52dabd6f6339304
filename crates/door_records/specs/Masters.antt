-- The master's record that a record of C's table tells, and back.
use Rattle.wire_layout.specs.declared.message.Header.{Header}
use Rattle.wire_layout.specs.declared.message.Offer.{Offer}
use Rattle.rules_masters.specs.declared.record.Record.{Record}
use Rattle.door_records.specs.declared.masters.HeaderWords.{HeaderWords}
use Rattle.door_records.specs.declared.masters.OfferWords.{OfferWords}
use Rattle.door_records.specs.declared.masters.MasterWords.{MasterWords}
use Rattle.door_records.specs.Parts.{stamp_in, stamp_words}

-- ---- the header: clock and number are those of the source
abbrev pub header_in : HeaderWords → Header
header_in w =
    record {
      sdo = w.sdo;
      minor = w.minor;
      domain = w.domain;
      minorsdo = w.minorsdo;
      flags = w.flags;
      correction = w.correction;
      specific = w.specific;
      source = record { clock = w.clock; number = w.number };
      sequence = w.sequence;
      control = w.control;
      interval = w.interval;
    }

abbrev pub header_words : Header → HeaderWords
header_words h =
    record {
      correction = h.correction;
      clock = h.source.clock;
      specific = h.specific;
      flags = h.flags;
      sequence = h.sequence;
      number = h.source.number;
      sdo = h.sdo;
      minor = h.minor;
      domain = h.domain;
      minorsdo = h.minorsdo;
      control = h.control;
      interval = h.interval;
    }

-- ---- the offer: each field under its own name
abbrev pub offer_in : OfferWords → Offer
offer_in w =
    record {
      utc = w.utc;
      reserved = w.reserved;
      priority1 = w.priority1;
      class = w.class;
      accuracy = w.accuracy;
      variance = w.variance;
      priority2 = w.priority2;
      grandmaster = w.grandmaster;
      steps = w.steps;
      time = w.time;
    }

abbrev pub offer_words : Offer → OfferWords
offer_words o =
    record {
      grandmaster = o.grandmaster;
      utc = o.utc;
      variance = o.variance;
      steps = o.steps;
      reserved = o.reserved;
      priority1 = o.priority1;
      class = o.class;
      accuracy = o.accuracy;
      priority2 = o.priority2;
      time = o.time;
      spare = 0;
    }

-- ---- the record: the Announce of header, stamp and offer, and the arrivals
abbrev pub record_in : MasterWords → Record
record_in w =
    record {
      announce = record { header = header_in w.header; stamp = stamp_in w.stamp; offer = offer_in w.offer };
      held = w.held;
      newer = w.newer;
      older = w.older;
    }

abbrev pub master_words : Record → MasterWords
master_words m =
    record {
      header = header_words m.announce.header;
      offer = offer_words m.announce.offer;
      stamp = stamp_words m.announce.stamp;
      newer = m.newer;
      older = m.older;
      held = m.held;
    }
