-- What a wipe puts in place, and the fresh core.
use Rattle.std.specs.Prelude.{false, ℕ, ◌+◌, ◌%◌, ◌^◌}
use Rattle.rules_masters.specs.Holding.{fresh_chosen}
use Rattle.rules_exchange.specs.Events.{fresh_exchange}
use Rattle.rules_servo.specs.declared.Servo.{Servo}
use Rattle.rules_servo.specs.Steps.{fresh_servo}
use Rattle.rules_settings.specs.declared.Settings.{Settings}
use Rattle.unit_core.specs.declared.run.Run.{Run}
use Rattle.unit_core.specs.declared.run.Fresh.{Fresh}
use Rattle.unit_core.specs.declared.Domain.{Domain}
use Rattle.unit_core.specs.declared.Core.{Core}

-- rule 10.8: what a wipe puts in place. The run, ..
abbrev pub fresh_run : Run
fresh_run = record { exchange = fresh_exchange; measured = false; at = 0 }

-- .. and the servo; the window is the watch's
abbrev pub fresh_with : (kp ki : ℕ) → Fresh
fresh_with kp ki = record { run = fresh_run; servo = fresh_servo kp ki }

abbrev pub restored_servo : Settings → Servo
restored_servo s = fresh_servo s.kp s.ki

-- one wipe more (rules 10.11 and 9.16), in 32 bits
abbrev pub one_more : ℕ → ℕ
one_more count = (count + 1) % 2 ^ 32

-- rule 10.12: a fresh unit is like a wiped one, and all that it counts is 0
abbrev pub fresh_domain : Domain
fresh_domain = record { chosen = fresh_chosen; run = fresh_run; wipes = 0; faulty = false; sequence = 0 }

abbrev pub fresh_core : Settings → Core
fresh_core s = record { settings = s; now = 0; domain = fresh_domain }
