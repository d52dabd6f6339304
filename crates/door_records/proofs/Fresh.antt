-- Zeros tell what is fresh, and what is fresh is made as zeros: C may start from memory that is cleared.
use mathlib.Core.Path.{◌≡◌, refl}
use mathlib.Core.List.{[], ◌∷◌}
use lib.IntN.{pos}
use Rattle.rules_masters.specs.Records.{fresh_record}
use Rattle.rules_exchange.specs.Events.{fresh_exchange}
use Rattle.door_records.specs.declared.stamp.StampWords.{StampWords}
use Rattle.door_records.specs.declared.exchange.HalvesWords.{HalvesWords}
use Rattle.door_records.specs.declared.exchange.DelaysWords.{DelaysWords}
use Rattle.door_records.specs.declared.masters.MasterWords.{MasterWords}
use Rattle.door_records.specs.Unit.{exchange_in, halves_words, delays_words}
use Rattle.door_records.specs.Masters.{record_in, master_words}

-- all octets 0
abbrev pub zero_stamp : StampWords
zero_stamp = record { seconds = 0; nanoseconds = 0; spare = 0 }

abbrev pub zero_halves : HalvesWords
zero_halves =
    record {
      sync = record { t1 = zero_stamp; t2 = zero_stamp; correction = pos 0; follow = pos 0; sequence = 0; held = 0; known = 0; spare = 0 };
      request = record { t3 = zero_stamp; sequence = 0; pending = 0; given = 0; spare = 0 };
      last = record { seconds = 0; nanoseconds = 0; taken = 0 };
    }

abbrev pub zero_delays : DelaysWords
zero_delays = record { five = 0 ∷ 0 ∷ 0 ∷ 0 ∷ 0 ∷ []; used = 0; count = 0; huge = 0; path = 0; gap = 0; spare = 0 }

abbrev pub zero_master : MasterWords
zero_master =
    record {
      header =
          record {
            correction = pos 0;
            clock = 0;
            specific = 0;
            flags = 0;
            sequence = 0;
            number = 0;
            sdo = 0;
            minor = 0;
            domain = 0;
            minorsdo = 0;
            control = 0;
            interval = pos 0;
          };
      offer =
          record {
            grandmaster = 0;
            utc = pos 0;
            variance = 0;
            steps = 0;
            reserved = 0;
            priority1 = 0;
            class = 0;
            accuracy = 0;
            priority2 = 0;
            time = 0;
            spare = 0;
          };
      stamp = zero_stamp;
      newer = 0;
      older = 0;
      held = 0;
    }

-- ---- the exchange, ..
pub fresh-exchange : exchange_in zero_halves zero_delays ≡ fresh_exchange
fresh-exchange = refl

pub fresh-halves : halves_words fresh_exchange ≡ zero_halves
fresh-halves = refl

pub fresh-delays : delays_words fresh_exchange ≡ zero_delays
fresh-delays = refl

-- ---- .. and a record of the table
pub fresh-record : record_in zero_master ≡ fresh_record
fresh-record = refl

pub fresh-master : master_words fresh_record ≡ zero_master
fresh-master = refl
