-- The main loop (rule 12.3): between the calls it holds the four parts, and lends each call those that it takes, as the call before left them.
use Rattle.std.specs.Prelude.{◌≡◌, true, List, [], ◌∷◌, map, ℕ, length}
use Rattle.numbers.specs.declared.stamp.Stamp.{Stamp}
use Rattle.rules_exchange.specs.Events.{fresh_exchange}
use Rattle.rules_servo.specs.declared.Servo.{Servo}
use Rattle.rules_watch.specs.declared.Watch.{Watch}
use Rattle.rules_watch.specs.Watch.{fresh_watch}
use Rattle.rules_settings.specs.declared.Settings.{Settings}
use Rattle.unit_core.specs.Wipe.{restored_servo, fresh_core}
use Rattle.unit_measuring.specs.Frame.{frame_after}
use Rattle.unit.specs.declared.Unit.{Unit}
use Rattle.unit_handing.specs.Handing.{Handed, receive, request, sent, time, reset, tick, line, show, is_stray, served_of, frame_left}
use Rattle.door_records.specs.declared.unit.UnitWords.{UnitWords}
use Rattle.door_records.specs.declared.masters.MasterWords.{MasterWords}
use Rattle.door_records.specs.Unit.{core_in, core_of, delays_words, unit_words}
use Rattle.door_records.specs.Masters.{record_in}
use Rattle.door_words.specs.declared.answers.AnswerWords.{AnswerWords}
use Rattle.door_words.specs.Answers.{answer_words}
use Rattle.door_core.specs.Showing.{shown_of}
use Rattle.door_core.specs.Ticking.{lined_of}
use Rattle.door_measuring.specs.Asking.{requested_of}
use Rattle.door_choosing.specs.Choosing.{fresh_master}
use Rattle.door_loop.specs.Lending.{Lent, receive_of, time_of, unit_asking, sent_of, reset_of, tick_of}

pub record Parts : Type 0 where
  pub unit : UnitWords
  pub servo : Servo
  pub table : List MasterWords
  pub watch : Watch

-- the unit that the parts tell
abbrev pub unit_in : Parts → Unit
unit_in p = record { core = core_in p.unit; servo = p.servo; table = record { records = map record_in p.table }; watch = p.watch }

-- the table that a call is lent: the loop's own or, by mistake, another one that is not of five
pub data Table : Type 0 where
  own : Table
  stray : (records : List MasterWords) → is_stray (length records) ≡ true → Table

abbrev pub length_of : Table → ℕ
length_of own = 5
length_of (stray records e) = length records

-- the same call as the unit is handed it: of the table it is told the length
abbrev pub counted_in : Handed Table → Handed ℕ
counted_in (receive t octets now arrival) = receive (length_of t) octets now arrival
counted_in (request frame now) = request frame now
counted_in (sent now sequence t3) = sent now sequence t3
counted_in (time t now) = time (length_of t) now
counted_in reset = reset
counted_in (tick reference clock) = tick reference clock
counted_in line = line
counted_in show = show

-- what is found after a call: the parts, the answer, the frame and the stray table that it was lent
pub record Found : Type 0 where
  pub parts : Parts
  pub answer : AnswerWords
  pub frame : List ℕ
  pub stray : List MasterWords

-- of a call that is lent the loop's own table, ..
abbrev pub from_lent : Lent → Found
from_lent l = record { parts = record { unit = l.unit; servo = l.servo; table = l.table; watch = l.watch }; answer = l.answer; frame = []; stray = [] }

-- .. and of one that is not
abbrev pub from_turned : Parts → Lent → Found
from_turned p l = record { parts = record { unit = l.unit; servo = l.servo; table = p.table; watch = l.watch }; answer = l.answer; frame = []; stray = l.table }

abbrev pub saying : Parts → AnswerWords → Found
saying p a = record { parts = p; answer = a; frame = []; stray = [] }

-- ---- a call, by the promise of the function that takes it
abbrev pub receives : Parts → Table → List ℕ → ℕ → Stamp → Found
receives p own octets now arrival = from_lent (receive_of p.unit p.servo p.table p.watch octets now arrival)
receives p (stray t e) octets now arrival = from_turned p (receive_of p.unit p.servo t p.watch octets now arrival)

abbrev pub passes : Parts → Table → ℕ → Found
passes p own now = from_lent (time_of p.unit p.servo p.table p.watch now)
passes p (stray t e) now = from_turned p (time_of p.unit p.servo t p.watch now)

unfoldable pub lends : Parts → Handed Table → Found
lends p (receive t octets now arrival) = receives p t octets now arrival
lends p (request frame now) =
    record {
      parts = record { unit = unit_asking p.unit now (length frame); servo = p.servo; table = p.table; watch = p.watch };
      answer = (requested_of p.unit.settings p.unit.state p.unit.halves now (length frame)).answer;
      frame = frame_after (core_of p.unit.settings p.unit.state p.unit.halves (delays_words fresh_exchange)) now frame;
      stray = [];
    }
lends p (sent now sequence t3) = from_turned p (sent_of p.unit p.servo p.watch now sequence t3)
lends p (time t now) = passes p t now
lends p reset = from_turned p (reset_of p.unit)
lends p (tick reference clock) = from_turned p (tick_of p.unit p.servo p.watch reference clock)
lends p line = saying p (lined_of p.unit.settings p.unit.state p.watch)
lends p show = saying p (shown_of p.unit p.servo)

-- a list of calls, the oldest first
unfoldable pub looped : Parts → List (Handed Table) → Parts
looped p [] = p
looped p (call ∷ l) = looped (lends p call).parts l

-- ---- the unit by itself, its answer as numbers
pub record Meant : Type 0 where
  pub unit : Unit
  pub answer : AnswerWords
  pub frame : List ℕ

unfoldable pub means : Unit → Handed Table → Meant
means c call = record { unit = (served_of c (counted_in call)).unit; answer = answer_words (served_of c (counted_in call)).answer; frame = frame_left c call }

-- the parts of a fresh unit: table and watch are zeros
abbrev pub fresh_parts : Settings → Parts
fresh_parts s =
    record {
      unit = unit_words (fresh_core s);
      servo = restored_servo s;
      table = fresh_master ∷ fresh_master ∷ fresh_master ∷ fresh_master ∷ fresh_master ∷ [];
      watch = fresh_watch;
    }
