-- Every output that the book gives lies within the set limit.
use Rattle.std.specs.Prelude.{Ok, Err}
use mathlib.Core.Path.{subst}
use mathlib.Core.List.{List, [], ◌∷◌}
use Prim.Native.Nat.{ℕ, ◌≤◌, ◌%◌, ◌^◌}
use native.Mathlib.Omega.{arith}
use lib.IntN.{ℤ, nat_abs}
use Rattle.numbers.specs.Integers.{up}
use Rattle.numbers.specs.declared.stamp.Stamp.{Stamp}
use Rattle.numbers.specs.declared.units.Ppb.{Ppb}
use Rattle.numbers.specs.Grounds.{Ruling}
use Rattle.rules_masters.specs.Admitting.{Answer as Admission}
use Rattle.rules_masters.specs.declared.admission.Entry.TheVariants as admission
use Rattle.rules_exchange.specs.Events.{Answer as Told}
use Rattle.rules_watch.specs.Rules.{Outcome, Drift}
use Rattle.unit_handing.specs.Handing.{Asked}
use Rattle.numbers.specs.Grounds.{first_of}
use Rattle.numbers.specs.Orders.{Due, of_exchange, of_time}
use Rattle.wire_layout.specs.declared.message.Header.{Header}
use Rattle.wire_layout.specs.declared.message.Body.{Body}
use Rattle.wire_layout.specs.declared.message.Body.TheVariants as bodies
use Rattle.rules_masters.specs.declared.record.Announce.{Announce}
use Rattle.rules_masters.specs.declared.chosen.Decision.TheVariants as decisions
use Rattle.rules_exchange.specs.Said.{wipes_of, verdict_of, steers_of}
use Rattle.rules_exchange.specs.Events.{field_of}
use Rattle.rules_exchange.specs.Table.{Event, sync, requested, sent, follow_up, delay_resp}
use Rattle.rules_servo.specs.Steps.{limit_of}
use Rattle.rules_servo.proofs.Theorems.{output-kept}
use Rattle.rules_watch.specs.declared.judging.Judged.TheVariants.{Wipe, Take}
use Rattle.rules_watch.specs.Rules.{outcome, line_since}
use Rattle.rules_settings.specs.declared.Settings.{Settings}
use Rattle.unit_core.specs.declared.calls.Call.{Call}
use Rattle.unit_core.specs.declared.calls.Call.TheVariants as calls
use Rattle.unit_core.specs.declared.calls.Answer.{Answer}
use Rattle.unit_core.specs.declared.calls.Answer.TheVariants as answers
use Rattle.unit_choosing.specs.Choosing.{time_due}
use Rattle.unit_measuring.specs.Barring.{field_in, message_due, own_due}
use Rattle.unit_measuring.specs.Hearing.{two_step_in}
use Rattle.unit_measuring.specs.Asking.{request_due}
use Rattle.unit_ticking.specs.Ticking.{line_by}
use Rattle.unit_ticking.proofs.Pulses.{by_test}
use Rattle.story_exchange.specs.Rules.{answer as exchange_answer}
use Rattle.story_servo.specs.Offsets.{output}
use Rattle.story_servo.proofs.Refines.{machine, tells as servo-tells}
use Rattle.story_masters.specs.Places.{answer as seat_answer}
use Rattle.story_lists.specs.Reading.{with_it}
use Rattle.story.specs.Book.{Book, wipe_count, last_now, sequence, stays_in, seats, exchange_log, offsets, offset_by, samples, then}
use Rattle.story.specs.Saying.{unless_barred, unit_answer, event_answer, calling, choice_answer, admission_answer, pulse_answer, message_answer, answer}
use Rattle.story.specs.Tale.{answer_to}
use Rattle.door_words.specs.Answers.{answer_words}
use Rattle.demands.specs.Words.{output_in}

module _ (s : Settings) where
  -- the output after any offsets
  limited-output : (l : List ℤ) → nat_abs (output s.kp s.ki s.sync (limit_of s.limit.0) l) ≤ up s.limit.0
  unfolding machine
  limited-output [] = omega arith
  limited-output (x ∷ l) =
      subst (λ (z : ℤ). nat_abs z ≤ up s.limit.0) (servo-tells s.kp s.ki s.sync (limit_of s.limit.0) (x ∷ l)).put
      (output-kept (machine s.kp s.ki s.sync (limit_of s.limit.0) l) x s.sync s.limit.0)

  abbrev Limited : Answer → Type 0
  Limited a = nat_abs (output_in a) ≤ up s.limit.0

  module _ (b : Book) where
    -- ---- the exchange
    limited-told : (a : Told) → Limited (unit_answer s b a)
    limited-told (Err n) = omega arith
    limited-told (Ok said) = by_test (λ (x : Ppb). nat_abs x.0 ≤ up s.limit.0) (wipes_of said) (limited-output []) (limited-output (with_it (then (verdict_of said) offset_by) (offsets b)))

    limited-unless : (v : Ruling) (a : Answer) → Limited a → Limited (unless_barred v a)
    limited-unless (Ok _) a h = h
    limited-unless (Err n) a h = omega arith

    limited-calling : (due : Due) (e : Event) → Limited (calling s b due e)
    limited-calling due e = limited-unless (first_of (of_exchange due)) (event_answer s b e) (limited-told (exchange_answer (exchange_log s b) e))

    -- ---- the choice
    limited-admission : (now : ℕ) (m : Announce) (a : Admission) → Limited (admission_answer s b now m a)
    limited-admission now m (Err n) = omega arith
    limited-admission now m (Ok (admission.Renewed p)) = omega arith
    limited-admission now m (Ok (admission.Entered p)) = omega arith

    limited-message : (now : ℕ) (t2 : Stamp) (h : Header) (m : Body) → Limited (message_answer s b now t2 h m)
    limited-message now t2 h (bodies.Announce stamp offer) = limited-admission now (record { header = h; stamp = stamp; offer = offer }) (seat_answer s.domain s.own s.announce (seats s b) (record { header = h; stamp = stamp; offer = offer }) now)
    limited-message now t2 h (bodies.DelayReq t) = omega arith
    limited-message now t2 h (bodies.Sync t1) = limited-calling (message_due s (stays_in b) now h (field_in t2 (bodies.Sync t1))) (sync (two_step_in h) h.sequence h.correction t1 t2)
    limited-message now t2 h (bodies.FollowUp t1) = limited-calling (message_due s (stays_in b) now h (field_in t2 (bodies.FollowUp t1))) (follow_up h.sequence h.correction t1)
    limited-message now t2 h (bodies.DelayResp t4 p) = limited-calling (message_due s (stays_in b) now h (field_in t2 (bodies.DelayResp t4 p))) (delay_resp h.sequence h.correction t4 p s.own)

    -- ---- the watch
    limited-pulse : (o : Outcome) → Limited (pulse_answer s b o)
    limited-pulse (Err n) = omega arith
    limited-pulse (Ok (Wipe p)) = omega arith
    limited-pulse (Ok (Take origin x)) = omega arith

    limited-line : (d : Drift) (n : ℕ) → Limited (line_by d n)
    limited-line (Err r) n = omega arith
    limited-line (Ok q) n = omega arith

    -- ---- every call
    limited-answer : (call : Call) → Limited (answer s b call)
    unfolding answer
    limited-answer (calls.Receive now t2 m) = limited-message now t2 m.header m.body
    limited-answer (calls.Request now room) = limited-calling (request_due (stays_in b) now room) (requested (sequence b))
    limited-answer (calls.Sent now n t3) = limited-calling (own_due (stays_in b) now (field_of t3)) (sent n t3)
    limited-answer (calls.Time now) = limited-unless (first_of (of_time (time_due (last_now b) now))) (choice_answer s b now (seats s b)) (omega arith)
    limited-answer calls.Reset = omega arith
    limited-answer (calls.Tick r c) = limited-pulse (outcome s.watch (samples s b) r c)
    limited-answer calls.Line = limited-line (line_since s.watch (samples s b)) (wipe_count b % 2 ^ 32)
    limited-answer calls.Show = limited-output (offsets b)

    pub limited : (a : Asked) → Limited (answer_to s b a)
    limited (Err r) = omega arith
    limited (Ok call) = limited-answer call

-- the output that an answer has as numbers is the one that it tells, or 0
pub words-output : (a : Answer) → nat_abs (answer_words a).output.0 ≤ nat_abs (output_in a)
words-output (answers.Refused r) = omega arith
words-output (answers.Choice (decisions.Same m)) = omega arith
words-output (answers.Choice (decisions.Changed m)) = omega arith
words-output (answers.Exchange said output) = by_test (λ (x : Ppb). nat_abs x.0 ≤ nat_abs output.0) (steers_of said) (omega arith) (omega arith)
words-output (answers.Watch p) = omega arith
words-output answers.Wiped = omega arith
words-output (answers.Line l n) = omega arith
words-output (answers.Shows x) = omega arith
