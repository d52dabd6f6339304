-- What the past of the unit, told in records, says of the book.
use mathlib.Core.Bool.{cond}
use mathlib.Core.Path.{◌≡◌, refl}
use mathlib.Core.List.{[]}
use mathlib.Core.Option.{Option, none, some}
use Prim.Native.Nat.{ℕ}
use Rattle.rules_masters.specs.declared.table.Table.{Table}
use Rattle.rules_masters.specs.Records.{interval_of}
use Rattle.rules_servo.specs.Steps.{limit_of}
use Rattle.rules_settings.specs.declared.Settings.{Settings}
use Rattle.unit_core.specs.declared.calls.Call.{Call}
use Rattle.unit_core.specs.declared.calls.Answer.{Answer}
use Rattle.unit_core.specs.Effects.{Progress, fresh_progress, Effect}
use Rattle.unit.specs.Machine.{Past, fresh_past, past_by, effect_answer}
use Rattle.story_exchange.proofs.Tells.{Tells as ExchangeTells, fresh-tells}
use Rattle.story_servo.proofs.Refines.{machine as servo_machine, Tells as ServoTells, tells as servo-tells}
use Rattle.story_masters.specs.History.{log as seats_after, machine as seat_machine}
use Rattle.story_masters.proofs.Refines.{Tells as SeatTells, tells as seat-tells}
use Rattle.story_lists.specs.Reading.{all, since}
use Rattle.story.specs.Book.{Book, stays_in, seats, exchange_log, offsets, last_measured, samples, ahead_first, samples_of, wipe_count}
use Rattle.story.specs.Tale.{book_with}

-- what the unit holds of a now, as the book has it
abbrev pub measured_read : Progress → Option ℕ
measured_read r = cond r.measured (some r.at) none

pub record Tells (s : Settings) (b : Book) (p : Past) : Type 0 where
  pub stays : p.stays ≡ stays_in b
  pub seats : SeatTells (interval_of s.announce) (seats s b) (record { table = p.table; last = p.stays.now })
  pub exchange : ExchangeTells (exchange_log s b) p.progress.exchange
  pub servo : ServoTells s.kp s.ki s.sync (limit_of s.limit.0) (offsets b) p.progress.servo
  pub measured : measured_read p.progress ≡ last_measured b
  pub since : p.since ≡ samples s b
  pub count : p.count ≡ wipe_count b

pub fresh-servo : (s : Settings) → ServoTells s.kp s.ki s.sync (limit_of s.limit.0) [] (fresh_progress s).servo
unfolding servo_machine
fresh-servo s = servo-tells s.kp s.ki s.sync (limit_of s.limit.0) []

pub start-tells : (s : Settings) → Tells s [] (fresh_past s)
unfolding all since ahead_first samples_of seats_after seat_machine
start-tells s =
    record {
      stays = refl;
      seats = seat-tells s.domain s.own s.announce [];
      exchange = fresh-tells;
      servo = fresh-servo s;
      measured = refl;
      since = refl;
      count = refl;
    }

-- the machine says a, and its past tells the book with one line more
pub record Agrees (s : Settings) (b : Book) (p : Past) (call : Call) (t : Table) (a : Answer) (e : Effect) : Type 0 where
  pub says : effect_answer e ≡ a
  pub tells : Tells s (book_with call a b) (past_by s p t e)
