-- The making of a unit.
use Rattle.std.specs.Prelude.{ℕ, Ok, Err}
use Rattle.numbers.specs.Orders.{number_of}
use Rattle.rules_settings.specs.declared.Given.{Given}
use Rattle.rules_settings.specs.Ranges.{Set}
use Rattle.rules_settings.specs.declared.Settings.{Settings}
use Rattle.rules_settings.specs.Ranges.{settings_of, bare_settings}
use Rattle.unit_core.specs.Wipe.{fresh_core, restored_servo}
use Rattle.door_records.specs.Unit.{unit_words}
use Rattle.door_core.specs.declared.making.Made.{Made}

abbrev pub made_with : ℕ → Settings → Made
made_with n s = record { refused = n; unit = unit_words (fresh_core s); servo = restored_servo s }

-- settings that are refused make a unit of zeros
abbrev pub made_by : Set → Made
made_by (Ok s) = made_with 0 s
made_by (Err r) = made_with (number_of r) bare_settings

abbrev pub made_of : Given → Made
made_of g = made_by (settings_of g)
