-- What the exchange's answer makes of the unit.
use Rattle.std.specs.Prelude.{ℕ, true, cond, pos, Ok, Err}
use Rattle.numbers.specs.declared.units.Ppb.{Ppb}
use Rattle.rules_exchange.specs.declared.Exchange.{Exchange}
use Rattle.rules_exchange.specs.declared.Accepted.{Accepted}
use Rattle.rules_exchange.specs.declared.said.Said.{Said}
use Rattle.rules_exchange.specs.Said.{wipes_of, faults_of, steers_of, found_in}
use Rattle.rules_exchange.specs.Events.{Answer as Told, Answered}
use Rattle.rules_servo.specs.declared.Servo.{Servo}
use Rattle.rules_servo.specs.Steps.{held_offset, limit_of, stepped_servo}
use Rattle.rules_settings.specs.declared.Settings.{Settings}
use Rattle.unit_core.specs.declared.calls.Answer.TheVariants.{Refused, Exchange as Said-of}
use Rattle.unit_core.specs.Effects.{Stays, Progress, Effect, keeps, goes, wipes}

abbrev pub with_exchange : Progress → Exchange → Progress
with_exchange r x = record { exchange = x; servo = r.servo; measured = r.measured; at = r.at }

-- the third HUGE in a row makes the unit faulty
abbrev pub faulty_at : ℕ → Stays → Stays
faulty_at now k = record { now = now; chosen = k.chosen; faulty = true; sequence = k.sequence }

-- an accepted offset steers the clock
abbrev pub servo_after : Settings → Progress → Accepted → Servo
servo_after s r m = stepped_servo r.servo (held_offset m.offset.0) s.sync (limit_of s.limit.0)

abbrev pub output_after : Settings → Progress → Accepted → Ppb
output_after s r m = (servo_after s r m).output

abbrev pub progress_after : Settings → Progress → Exchange → Accepted → ℕ → Progress
progress_after s r x m now = record { exchange = x; servo = servo_after s r m; measured = true; at = now }

-- by the class of the answer (specs/Said of rules_exchange): it wipes, makes the unit faulty, steers the clock, or none of these.
-- The answer comes with the output that is set after it, which a wipe makes 0; k has the call's now already
unfoldable pub by_said : Settings → Stays → Progress → Exchange → Said → Effect
by_said s k r x said =
    cond (wipes_of said) (wipes (Said-of said (record { 0 = pos 0 })) k)
    (cond (faults_of said) (goes (Said-of said r.servo.output) (faulty_at k.now k) (with_exchange r x))
    (cond (steers_of said) (goes (Said-of said (output_after s r (found_in said))) k (progress_after s r x (found_in said) k.now))
    (goes (Said-of said r.servo.output) k (with_exchange r x))))

abbrev pub by_answer : Settings → Stays → Progress → Told → Exchange → Effect
by_answer s k r (Err n) x = keeps (Refused n)
by_answer s k r (Ok said) x = by_said s k r x said

abbrev pub exchanges : Settings → Stays → Progress → Answered → Effect
exchanges s k r a = by_answer s k r a.answer a.exchange
