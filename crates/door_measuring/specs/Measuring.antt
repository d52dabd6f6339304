-- What a call of the exchange leaves in the records, and of the servo.
use Rattle.std.specs.Prelude.{ℕ, cond, Ok, Err, Result}
use Rattle.numbers.specs.declared.refusal.Refusal.{Refusal}
use Rattle.numbers.specs.declared.stamp.Stamp.{Stamp}
use Rattle.numbers.specs.Grounds.{answer_by, first_of}
use Rattle.rules_exchange.specs.Events.{Answer}
use Rattle.numbers.specs.Orders.{of_exchange}
use Rattle.wire_layout.specs.declared.message.Header.{Header}
use Rattle.wire_layout.specs.declared.message.Body.{Body}
use Rattle.wire_layout.specs.declared.message.Message.{Message}
use Rattle.rules_exchange.specs.declared.Exchange.{Exchange}
use Rattle.rules_exchange.specs.declared.said.Said.{Said}
use Rattle.rules_exchange.specs.Said.{wipes_of, faults_of, steers_of, found_in}
use Rattle.rules_exchange.specs.Events.{fresh_exchange, told, field_of}
use Rattle.rules_exchange.specs.Table.{sent}
use Rattle.rules_servo.specs.declared.Servo.{Servo}
use Rattle.rules_servo.specs.Steps.{fresh_servo, held_offset, limit_of, stepped_servo}
use Rattle.unit_core.specs.Effects.{stays_of}
use Rattle.unit_measuring.specs.Barring.{own_due}
use Rattle.unit_measuring.specs.Inner.{message_grounds, handed}
use Rattle.door_records.specs.declared.unit.SettingsWords.{SettingsWords}
use Rattle.door_records.specs.declared.unit.StateWords.{StateWords}
use Rattle.door_records.specs.declared.unit.UnitWords.{UnitWords}
use Rattle.door_records.specs.Unit.{settings_in, own_in, exchange_in, halves_words, delays_words, core_in}
use Rattle.door_measuring.specs.declared.measuring.Told.{Told}
use Rattle.door_core.specs.Wiping.{wiped_state}

-- the state with the call's now
abbrev pub state_at : ℕ → StateWords → StateWords
state_at now t = record { now = now; at = t.at; chosen = t.chosen; wipes = t.wipes; sequence = t.sequence; measured = t.measured; faulty = t.faulty }

-- by the class of the answer: it wipes, makes the unit faulty, is an accepted measurement, or none of these
abbrev pub state_after : StateWords → ℕ → Said → StateWords
state_after t now said =
    cond (wipes_of said) (wiped_state (state_at now t))
    (cond (faults_of said) (record { now = now; at = t.at; chosen = t.chosen; wipes = t.wipes; sequence = t.sequence; measured = t.measured; faulty = 1 })
    (cond (steers_of said) (record { now = now; at = now; chosen = t.chosen; wipes = t.wipes; sequence = t.sequence; measured = 1; faulty = t.faulty })
    (state_at now t)))

abbrev pub spoken_told : StateWords → ℕ → Exchange → Said → Told
spoken_told t now x said =
    record {
      state = state_after t now said;
      halves = halves_words (cond (wipes_of said) fresh_exchange x);
      delays = delays_words (cond (wipes_of said) fresh_exchange x);
      said = said;
    }

-- or why it is refused: then nothing is stored
abbrev pub Telling : Type 0
Telling = Result Told Refusal

abbrev pub told_by : StateWords → ℕ → Answer → Exchange → Telling
told_by t now (Err n) x = Err n
told_by t now (Ok said) x = Ok (spoken_told t now x said)

-- by the unit's refusals, or the exchange's answer
module _ (u : UnitWords) where
  abbrev pub handed_told : ℕ → Stamp → Header → Body → Telling
  handed_told now t2 header body =
      told_by u.state now (handed (exchange_in u.halves u.delays) (own_in u.settings) t2 header body).answer
      (handed (exchange_in u.halves u.delays) (own_in u.settings) t2 header body).exchange

  abbrev pub heard_told : Message → ℕ → Stamp → Telling
  heard_told m now t2 =
      answer_by Err (handed_told now t2 m.header m.body) (first_of (message_grounds (settings_in u.settings) (stays_of (core_in u)) now t2 m.header m.body))

  abbrev pub sent_told : ℕ → ℕ → Stamp → Telling
  sent_told now sequence t3 =
      answer_by Err
      (told_by u.state now (told (exchange_in u.halves u.delays) (sent sequence t3)).answer (told (exchange_in u.halves u.delays) (sent sequence t3)).exchange)
      (first_of (of_exchange (own_due (stays_of (core_in u)) now (field_of t3))))

-- the servo: a wipe restores it, an accepted offset steers, else it is as it was
abbrev pub servo_after : SettingsWords → Servo → Said → Servo
servo_after s v said =
    cond (wipes_of said) (fresh_servo s.kp s.ki)
    (cond (steers_of said) (stepped_servo v (held_offset (found_in said).offset.0) s.sync (limit_of s.limit.0)) v)
