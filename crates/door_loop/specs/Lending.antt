-- What a call leaves of the parts that it is lent, octet by octet: the unit, the servo record, the table, the watch; and its answer.
-- What is refused leaves the parts as they were.
use Rattle.std.specs.Prelude.{cond, List, [], ℕ, eqb, ℤ, length, set, Ok, Err, Result}
use Rattle.numbers.specs.declared.refusal.Refusal.{Refusal}
use Rattle.numbers.specs.Orders.{number_of}
use Rattle.numbers.specs.declared.stamp.Stamp.{Stamp}
use Rattle.wire_layout.specs.declared.message.Message.{Message}
use Rattle.wire_layout.specs.Reading.{read_of}
use Rattle.rules_masters.specs.declared.chosen.Chosen.{Chosen}
use Rattle.rules_masters.specs.declared.admission.Entry.{Entry}
use Rattle.rules_masters.specs.Admitting.{Answer as Admission}
use Rattle.rules_masters.specs.Inner.{place_in}
use Rattle.rules_exchange.specs.Said.{wipes_of}
use Rattle.rules_servo.specs.declared.Servo.{Servo}
use Rattle.rules_watch.specs.declared.Watch.{Watch}
use Rattle.rules_watch.specs.Rules.{Answer, wipes_of as pulse_wipes, code_of}
use Rattle.rules_watch.specs.Watch.{Taken, fresh_watch, taken_of}
use Rattle.door_records.specs.declared.unit.UnitWords.{UnitWords}
use Rattle.door_records.specs.declared.unit.StateWords.{StateWords}
use Rattle.door_records.specs.declared.exchange.HalvesWords.{HalvesWords}
use Rattle.door_records.specs.declared.exchange.DelaysWords.{DelaysWords}
use Rattle.door_records.specs.declared.masters.MasterWords.{MasterWords}
use Rattle.door_records.specs.Unit.{watch_in}
use Rattle.door_records.specs.Masters.{master_words}
use Rattle.door_words.specs.declared.answers.AnswerWords.{AnswerWords}
use Rattle.door_words.specs.Answers.{plain, refusing, exchanging}
use Rattle.door_core.specs.declared.receiving.Received.{Received}
use Rattle.door_core.specs.declared.receiving.Received.TheVariants.{Announce, Exchange}
use Rattle.door_core.specs.declared.wiping.Emptied.{Emptied}
use Rattle.door_core.specs.Wiping.{wiped_state, reset_state, emptied_of}
use Rattle.door_core.specs.Receiving.{Sorted, received_by}
use Rattle.door_choosing.specs.declared.Held.{Held}
use Rattle.door_choosing.specs.Choosing.{announce_in, seat_by, placed_of, best_in, held_of, timed_of, untabled_of}
use Rattle.door_measuring.specs.declared.measuring.Told.{Told}
use Rattle.door_measuring.specs.Measuring.{Telling, heard_told, sent_told, servo_after}
use Rattle.door_measuring.specs.Asking.{requested_of}

pub record Lent : Type 0 where
  pub unit : UnitWords
  pub servo : Servo
  pub table : List MasterWords
  pub watch : Watch
  pub answer : AnswerWords

-- nothing but the answer
abbrev pub says : UnitWords → Servo → List MasterWords → Watch → AnswerWords → Lent
says u v t w a = record { unit = u; servo = v; table = t; watch = w; answer = a }

-- the unit with another state, and with another exchange too
abbrev pub with_state : UnitWords → StateWords → UnitWords
with_state u s = record { settings = u.settings; state = s; halves = u.halves; delays = u.delays }

abbrev pub unit_with : UnitWords → StateWords → HalvesWords → DelaysWords → UnitWords
unit_with u s h d = record { settings = u.settings; state = s; halves = h; delays = d }

-- ---- a wipe: exchange, servo and watch are as fresh
abbrev pub wiped_in : UnitWords → StateWords → List MasterWords → AnswerWords → Emptied → Lent
wiped_in u s t a f = record { unit = unit_with u s f.halves f.delays; servo = f.servo; table = t; watch = fresh_watch; answer = a }

-- ---- the exchange
abbrev pub spoken_in : UnitWords → List MasterWords → Watch → Told → Servo → Lent
spoken_in u t w q n =
    record {
      unit = unit_with u q.state q.halves q.delays;
      servo = n;
      table = t;
      watch = cond (wipes_of q.said) fresh_watch w;
      answer = exchanging q.said n.output;
    }

abbrev pub told_in : UnitWords → Servo → List MasterWords → Watch → Telling → Lent
told_in u v t w (Err r) = says u v t w (refusing (number_of r))
told_in u v t w (Ok q) = spoken_in u t w q (servo_after u.settings v q.said)

abbrev pub heard_in : UnitWords → Servo → List MasterWords → Watch → Message → ℕ → Stamp → Lent
heard_in u v t w m now t2 = told_in u v t w (heard_told u m now t2)

-- ---- the choice
abbrev pub lent_by : UnitWords → Servo → List MasterWords → Watch → Held → Lent
lent_by u v t w q = cond q.wipes (wiped_in u q.state t q.answer (emptied_of u.settings)) (says (with_state u q.state) v t w q.answer)

-- the choice over a table
abbrev pub chosen_in : UnitWords → List MasterWords → ℕ → Chosen
chosen_in u t now = best_in u.settings t now

-- the Announce is refused, or one place of the table is stored and the choice is made over the five
abbrev pub placed_in : List MasterWords → Message → ℕ → Entry → List MasterWords
placed_in t m now p = set t (place_in p) (master_words (placed_of t (announce_in m) now p))

abbrev pub seated_in : UnitWords → Servo → List MasterWords → Watch → Message → ℕ → Admission → Lent
seated_in u v t w m now (Err n) = says u v t w (refusing (number_of n))
seated_in u v t w m now (Ok p) = lent_by u v (placed_in t m now p) w (held_of u.state now (chosen_in u (placed_in t m now p) now))

abbrev pub seat_in : UnitWords → List MasterWords → Message → ℕ → Admission
seat_in u t m now = seat_by u.settings u.state t (announce_in m) now

-- 8 of a table that is not of five comes first
abbrev pub announced_in : UnitWords → Servo → List MasterWords → Watch → Message → ℕ → Lent
announced_in u v t w m now = cond (eqb (length t) 5) (seated_in u v t w m now (seat_in u t m now)) (says u v t w untabled_of)

-- ---- a message: what is refused in reading and 3 of a Delay_Req come first, then 8 of a table that is not of five
abbrev pub open_in : UnitWords → Servo → List MasterWords → Watch → Received → ℕ → Stamp → Lent
open_in u v t w (Announce m) now t2 = seated_in u v t w m now (seat_in u t m now)
open_in u v t w (Exchange m) now t2 = heard_in u v t w m now t2

abbrev pub received_in : UnitWords → Servo → List MasterWords → Watch → Sorted → ℕ → Stamp → Lent
received_in u v t w (Err r) now t2 = says u v t w (refusing (number_of r))
received_in u v t w (Ok k) now t2 = cond (eqb (length t) 5) (open_in u v t w k now t2) (says u v t w untabled_of)

abbrev pub receive_of : UnitWords → Servo → List MasterWords → Watch → List ℕ → ℕ → Stamp → Lent
receive_of u v t w octets now t2 = received_in u v t w (received_by (read_of octets)) now t2

-- ---- the bare time call
abbrev pub passed_in : UnitWords → Servo → List MasterWords → Watch → Result Held Refusal → Lent
passed_in u v t w (Err n) = says u v t w (refusing (number_of n))
passed_in u v t w (Ok q) = lent_by u v t w q

abbrev pub time_of : UnitWords → Servo → List MasterWords → Watch → ℕ → Lent
time_of u v t w now = cond (eqb (length t) 5) (passed_in u v t w (timed_of u.settings u.state t now)) (says u v t w untabled_of)

-- ---- the calls without a table: none is lent
abbrev pub sent_of : UnitWords → Servo → Watch → ℕ → ℕ → Stamp → Lent
sent_of u v w now sequence t3 = told_in u v [] w (sent_told u now sequence t3)

abbrev pub reset_of : UnitWords → Lent
reset_of u = wiped_in u (reset_state u.state) [] (plain 16) (emptied_of u.settings)

-- a second pulse: its sample is in the window, or it wipes
abbrev pub pulsed_in : UnitWords → Servo → Watch → Answer → Lent
pulsed_in u v w (Err r) = says u v [] w (refusing (number_of r))
pulsed_in u v w (Ok p) = cond (pulse_wipes p) (wiped_in u (wiped_state u.state) [] (plain (code_of p)) (emptied_of u.settings)) (says u v [] w (plain (code_of p)))

abbrev pub ticked_in : UnitWords → Servo → Taken → Lent
ticked_in u v x = pulsed_in u v x.watch x.answer

abbrev pub tick_of : UnitWords → Servo → Watch → ℤ → ℤ → Lent
tick_of u v w reference clock = ticked_in u v (taken_of (watch_in u.settings) w reference clock)

-- the unit after a request
abbrev pub unit_asking : UnitWords → ℕ → ℕ → UnitWords
unit_asking u now room =
    unit_with u (requested_of u.settings u.state u.halves now room).state (requested_of u.settings u.state u.halves now room).halves u.delays
