-- What a wipe leaves in the records (rules 10.8 to 10.11).
use Rattle.rules_exchange.specs.Events.{fresh_exchange}
use Rattle.rules_servo.specs.Steps.{fresh_servo}
use Rattle.unit_core.specs.Wipe.{one_more}
use Rattle.door_records.specs.declared.unit.SettingsWords.{SettingsWords}
use Rattle.door_records.specs.declared.unit.StateWords.{StateWords}
use Rattle.door_records.specs.Unit.{halves_words, delays_words}
use Rattle.door_core.specs.declared.wiping.Emptied.{Emptied}

-- no measurement since, and one wipe more; now, master, sequenceId and FAULTY stay
abbrev pub wiped_state : StateWords → StateWords
wiped_state t = record { now = t.now; at = 0; chosen = t.chosen; wipes = one_more t.wipes; sequence = t.sequence; measured = 0; faulty = t.faulty }

-- the operator's reset ends FAULTY too
abbrev pub reset_state : StateWords → StateWords
reset_state t = record { now = t.now; at = 0; chosen = t.chosen; wipes = one_more t.wipes; sequence = t.sequence; measured = 0; faulty = 0 }

-- exchange and servo as fresh
abbrev pub emptied_of : SettingsWords → Emptied
emptied_of s = record { halves = halves_words fresh_exchange; delays = delays_words fresh_exchange; servo = fresh_servo s.kp s.ki }
