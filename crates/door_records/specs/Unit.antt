-- The core that the unit's record tells, and the record that holds a core.
use Rattle.wire_layout.specs.declared.message.Port.{Port}
use Rattle.rules_masters.specs.declared.chosen.Chosen.{Chosen}
use Rattle.rules_watch.specs.declared.settings.WatchSettings.{WatchSettings}
use Rattle.rules_settings.specs.declared.Settings.{Settings}
use Rattle.rules_exchange.specs.declared.halves.Sync.{Sync}
use Rattle.rules_exchange.specs.declared.halves.Request.{Request}
use Rattle.rules_exchange.specs.declared.Last.{Last}
use Rattle.rules_exchange.specs.declared.Exchange.{Exchange}
use Rattle.unit_core.specs.declared.Core.{Core}
use Rattle.door_records.specs.declared.exchange.SyncWords.{SyncWords}
use Rattle.door_records.specs.declared.exchange.RequestWords.{RequestWords}
use Rattle.door_records.specs.declared.exchange.LastWords.{LastWords}
use Rattle.door_records.specs.declared.exchange.HalvesWords.{HalvesWords}
use Rattle.door_records.specs.declared.exchange.DelaysWords.{DelaysWords}
use Rattle.door_records.specs.declared.unit.ChosenWords.{ChosenWords}
use Rattle.door_records.specs.declared.unit.SettingsWords.{SettingsWords}
use Rattle.door_records.specs.declared.unit.StateWords.{StateWords}
use Rattle.door_records.specs.declared.unit.UnitWords.{UnitWords}
use Rattle.door_records.specs.Parts.{flag, is_set, stamp_in, stamp_words}

-- ---- the chosen master: the sender's clock and number, and whether there is one
abbrev pub chosen_in : ChosenWords → Chosen
chosen_in w = record { some = is_set w.some; sender = record { clock = w.clock; number = w.number } }

abbrev pub chosen_words : Chosen → ChosenWords
chosen_words c = record { clock = c.sender.clock; number = c.sender.number; some = flag c.some; spare = 0 }

-- ---- the settings: clock and number are those of the own port, ..
abbrev pub own_in : SettingsWords → Port
own_in w = record { clock = w.clock; number = w.number }

-- .. six are the watch's, ..
abbrev pub watch_in : SettingsWords → WatchSettings
watch_in w = record { window = w.window; minimum = w.minimum; holdoff = w.holdoff; tolerance = w.tolerance; spike = w.spike; jump = w.jump }

-- .. and each has its own name
abbrev pub settings_in : SettingsWords → Settings
settings_in w =
    record {
      domain = w.domain;
      own = own_in w;
      announce = w.announce;
      sync = w.sync;
      kp = w.kp;
      ki = w.ki;
      limit = w.limit;
      watch = watch_in w;
    }

abbrev pub settings_words : Settings → SettingsWords
settings_words s =
    record {
      clock = s.own.clock;
      limit = s.limit;
      tolerance = s.watch.tolerance;
      spike = s.watch.spike;
      jump = s.watch.jump;
      kp = s.kp;
      ki = s.ki;
      number = s.own.number;
      domain = s.domain;
      announce = s.announce;
      sync = s.sync;
      window = s.watch.window;
      minimum = s.watch.minimum;
      holdoff = s.watch.holdoff;
      spare = 0;
    }

-- ---- the Sync held, with two flags
abbrev pub sync_in : SyncWords → Sync
sync_in w =
    record {
      held = is_set w.held;
      known = is_set w.known;
      sequence = w.sequence;
      t1 = stamp_in w.t1;
      t2 = stamp_in w.t2;
      correction = w.correction;
      follow = w.follow;
    }

abbrev pub sync_words : Sync → SyncWords
sync_words s =
    record {
      t1 = stamp_words s.t1;
      t2 = stamp_words s.t2;
      correction = s.correction;
      follow = s.follow;
      sequence = s.sequence;
      held = flag s.held;
      known = flag s.known;
      spare = 0;
    }

-- ---- the request pending, with two flags
abbrev pub request_in : RequestWords → Request
request_in w = record { pending = is_set w.pending; given = is_set w.given; sequence = w.sequence; t3 = stamp_in w.t3 }

abbrev pub request_words : Request → RequestWords
request_words q = record { t3 = stamp_words q.t3; sequence = q.sequence; pending = flag q.pending; given = flag q.given; spare = 0 }

-- ---- the last local stamp, and whether one was taken
abbrev pub last_in : LastWords → Last
last_in w = record { taken = is_set w.taken; stamp = record { seconds = w.seconds; nanoseconds = w.nanoseconds } }

abbrev pub last_words : Last → LastWords
last_words l = record { seconds = l.stamp.seconds; nanoseconds = l.stamp.nanoseconds; taken = flag l.taken }

-- ---- the exchange, told by two records: the delays have the two rows too
abbrev pub exchange_in : HalvesWords → DelaysWords → Exchange
exchange_in h d =
    record {
      sync = sync_in h.sync;
      request = request_in h.request;
      last = last_in h.last;
      delays = record { five = d.five; count = d.count; used = d.used };
      huge = d.huge;
      path = d.path;
    }

abbrev pub halves_words : Exchange → HalvesWords
halves_words x = record { sync = sync_words x.sync; request = request_words x.request; last = last_words x.last }

abbrev pub delays_words : Exchange → DelaysWords
delays_words x =
    record { five = x.delays.five; used = x.delays.used; count = x.delays.count; huge = x.huge; path = x.path; gap = 0; spare = 0 }

-- ---- the core: all that is in no other record is the state's
abbrev pub core_of : SettingsWords → StateWords → HalvesWords → DelaysWords → Core
core_of g s h d =
    record {
      settings = settings_in g;
      now = s.now;
      domain =
          record {
            chosen = chosen_in s.chosen;
            run = record { exchange = exchange_in h d; measured = is_set s.measured; at = s.at };
            wipes = s.wipes;
            faulty = is_set s.faulty;
            sequence = s.sequence;
          };
    }

-- of a whole unit, its four parts
abbrev pub core_in : UnitWords → Core
core_in w = core_of w.settings w.state w.halves w.delays

abbrev pub state_words : Core → StateWords
state_words c =
    record {
      now = c.now;
      at = c.domain.run.at;
      chosen = chosen_words c.domain.chosen;
      wipes = c.domain.wipes;
      sequence = c.domain.sequence;
      measured = flag c.domain.run.measured;
      faulty = flag c.domain.faulty;
    }

abbrev pub unit_words : Core → UnitWords
unit_words c =
    record {
      settings = settings_words c.settings;
      state = state_words c;
      halves = halves_words c.domain.run.exchange;
      delays = delays_words c.domain.run.exchange;
    }
