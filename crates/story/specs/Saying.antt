-- The answer to a call, from the book alone.
use Rattle.std.specs.Prelude.{List, [], ◌∷◌, Bool, false, cond, ℕ, ◌+◌, ◌%◌, ◌^◌, ltb, ℤ, Ok, Err}
use Rattle.std.proofs.Math.Option.{Option, none, some}
use Rattle.numbers.specs.declared.refusal.Refusal.TheVariants.{Kind}
use Rattle.numbers.specs.Grounds.{Ruling}
use Rattle.rules_masters.specs.Admitting.{Answer as Admission}
use Rattle.rules_masters.specs.declared.admission.Entry.TheVariants as admission
use Rattle.rules_exchange.specs.Events.{Answer as Told}
use Rattle.numbers.specs.Grounds.{first_of}
use Rattle.numbers.specs.Orders.{Due, of_exchange, of_time}
use Rattle.numbers.specs.declared.stamp.Stamp.{Stamp}
use Rattle.numbers.specs.declared.units.Ppb.{Ppb}
use Rattle.wire_layout.specs.declared.message.Header.{Header}
use Rattle.wire_layout.specs.declared.message.Body.{Body}
use Rattle.wire_layout.specs.declared.message.Body.TheVariants as bodies
use Rattle.rules_masters.specs.declared.record.Announce.{Announce}
use Rattle.rules_masters.specs.Holding.{decision_of}
use Rattle.rules_exchange.specs.declared.said.Said.{Said}
use Rattle.rules_exchange.specs.Said.{wipes_of, verdict_of}
use Rattle.rules_exchange.specs.Table.{Event, sync, requested, sent, follow_up, delay_resp}
use Rattle.rules_exchange.specs.Events.{field_of}
use Rattle.rules_servo.specs.declared.shown.Shown.{Shown}
use Rattle.rules_servo.specs.declared.shown.Shown.TheVariants.{Holdover, Tracking, Adjusting}
use Rattle.rules_servo.specs.Shows.{is_tracking}
use Rattle.rules_servo.specs.Steps.{limit_of}
use Rattle.rules_watch.specs.declared.judging.Judged.TheVariants.{Wipe, Take}
use Rattle.rules_watch.specs.Rules.{Outcome, pulse_of, outcome, line_since}
use Rattle.rules_settings.specs.declared.Settings.{Settings}
use Rattle.unit_core.specs.declared.calls.Call.{Call}
use Rattle.unit_core.specs.declared.calls.Call.TheVariants as calls
use Rattle.unit_core.specs.declared.calls.Answer.{Answer}
use Rattle.unit_core.specs.declared.calls.Answer.TheVariants as answers
use Rattle.unit_choosing.specs.Choosing.{time_due}
use Rattle.unit_measuring.specs.Barring.{field_in, message_due, own_due}
use Rattle.unit_measuring.specs.Hearing.{two_step_in}
use Rattle.unit_measuring.specs.Asking.{request_due}
use Rattle.unit_core.specs.Showing.{port_of}
use Rattle.unit_ticking.specs.Ticking.{line_by}
use Rattle.story_exchange.specs.Rules.{answer as exchange_answer}
use Rattle.story_servo.specs.Offsets.{output, ten}
use Rattle.story_masters.specs.Announces.{came, Log as SeatLog}
use Rattle.story_masters.specs.Places.{answer as seat_answer, chosen_in}
use Rattle.story_lists.specs.Reading.{with_it}
use Rattle.story.specs.Book.{Book, wipe_count, last_now, chosen, faulty, sequence, stays_in, seats, exchange_log, offsets, offset_by, last_measured, samples, then, is_some}

-- ---- the output after these offsets
abbrev pub output_of : Settings → List ℤ → Ppb
output_of s l = record { 0 = output s.kp s.ki s.sync (limit_of s.limit.0) l }

-- ---- the exchange
abbrev pub unless_barred : Ruling → Answer → Answer
unless_barred (Ok _) a = a
unless_barred (Err n) a = answers.Refused n

module _ (s : Settings) (b : Book) where
  -- what the exchange said, with the output that is set after it: a measurement steers the clock, and a wipe sets 0
  abbrev pub output_after : Said → Ppb
  output_after said = cond (wipes_of said) (output_of s []) (output_of s (with_it (then (verdict_of said) offset_by) (offsets b)))

  abbrev pub unit_answer : Told → Answer
  unit_answer (Err n) = answers.Refused n
  unit_answer (Ok said) = answers.Exchange said (output_after said)

  abbrev pub event_answer : Event → Answer
  event_answer e = unit_answer (exchange_answer (exchange_log s b) e)

  -- a message of the master, or a call of the unit's own: what is asked of it before the exchange is, in the order of numbers/specs/Orders.antt
  abbrev pub calling : Due → Event → Answer
  calling due e = unless_barred (first_of (of_exchange due)) (event_answer e)

  abbrev pub from_master : ℕ → Header → (field : Bool) → Event → Answer
  from_master now h field e = calling (message_due s (stays_in b) now h field) e

  -- ---- the choice: a new or lost master wipes
  abbrev pub choice_answer : ℕ → SeatLog → Answer
  choice_answer now l = answers.Choice (decision_of (chosen b) (chosen_in s.announce l now))

  abbrev pub admission_answer : ℕ → Announce → Admission → Answer
  admission_answer now m (Err n) = answers.Refused n
  admission_answer now m (Ok (admission.Renewed p)) = choice_answer now (came p now m ∷ seats s b)
  admission_answer now m (Ok (admission.Entered p)) = choice_answer now (came p now m ∷ seats s b)

  -- ---- a message: a Delay_Req is KIND before all else
  abbrev pub message_answer : ℕ → Stamp → Header → Body → Answer
  message_answer now t2 h (bodies.Announce stamp offer) =
      admission_answer now (record { header = h; stamp = stamp; offer = offer })
      (seat_answer s.domain s.own s.announce (seats s b) (record { header = h; stamp = stamp; offer = offer }) now)
  message_answer now t2 h (bodies.DelayReq t) = answers.Refused Kind
  message_answer now t2 h (bodies.Sync t1) = from_master now h (field_in t2 (bodies.Sync t1)) (sync (two_step_in h) h.sequence h.correction t1 t2)
  message_answer now t2 h (bodies.FollowUp t1) = from_master now h (field_in t2 (bodies.FollowUp t1)) (follow_up h.sequence h.correction t1)
  message_answer now t2 h (bodies.DelayResp t4 p) = from_master now h (field_in t2 (bodies.DelayResp t4 p)) (delay_resp h.sequence h.correction t4 p s.own)

  -- ---- the watch
  abbrev pub pulse_answer : Outcome → Answer
  pulse_answer (Err n) = answers.Refused n
  pulse_answer (Ok (Wipe p)) = answers.Watch p
  pulse_answer (Ok (Take origin x)) = answers.Watch (pulse_of x.valid)

  -- ---- what is shown
  abbrev pub overdue : Option ℕ → ℕ → Bool
  overdue none now = false
  overdue (some last) now = ltb (last + 10_000) now

  abbrev pub shown : Shown
  shown = cond (overdue (last_measured b) (last_now b)) Holdover (cond (is_tracking (ten (offsets b))) Tracking Adjusting)

  unfoldable pub answer : Call → Answer
  answer (calls.Receive now arrival m) = message_answer now arrival m.header m.body
  answer (calls.Request now room) = calling (request_due (stays_in b) now room) (requested (sequence b))
  answer (calls.Sent now n t3) = calling (own_due (stays_in b) now (field_of t3)) (sent n t3)
  answer (calls.Time now) = unless_barred (first_of (of_time (time_due (last_now b) now))) (choice_answer now (seats s b))
  answer calls.Reset = answers.Wiped
  answer (calls.Tick r c) = pulse_answer (outcome s.watch (samples s b) r c)
  answer calls.Line = line_by (line_since s.watch (samples s b)) (wipe_count b % 2 ^ 32)
  answer calls.Show =
      answers.Shows
      (record {
        port = port_of (faulty b) (chosen b).some (is_some (last_measured b));
        servo = shown;
        output = output_of s (offsets b);
        now = last_now b;
        master = chosen b;
        wipes = wipe_count b % 2 ^ 32;
        sequence = sequence b;
      })
