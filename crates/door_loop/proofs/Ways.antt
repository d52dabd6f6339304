-- The ways through the door's calls: where a test came out so, what was stored and said is what the promise says. door_leaving's proof of an Announce cites
-- them; those of a wipe and of a pulse stand for whoever proves such a step.
use Rattle.std.specs.Prelude.{Ok, Err, Result}
use mathlib.Core.Path.{◌≡◌, refl, ap, ◌∙◌}
use mathlib.Core.Bool.{Bool, true, false, not, cond}
use mathlib.Core.List.{List, []}
use Prim.Native.Nat.{ℕ}
use lib.Dec.{T as Holds, eqb}
use lib.IntN.{ℤ}
use lib.ListN.{length, set}
use Rattle.numbers.specs.declared.stamp.Stamp.{Stamp}
use Rattle.numbers.specs.declared.refusal.Refusal.{Refusal}
use Rattle.numbers.specs.declared.refusal.Refusal.TheVariants.{Settings as Outside}
use Rattle.numbers.specs.Orders.{number_of}
use Rattle.rules_exchange.specs.Said.{wipes_of as said_wipes}
use Rattle.rules_watch.specs.Rules.{Answer, wipes_of as pulse_wipes, code_of}
use Rattle.rules_watch.specs.declared.Pulse.{Pulse}
use Rattle.wire_layout.specs.declared.message.Message.{Message}
use Rattle.wire_layout.specs.Reading.{read_of}
use Rattle.rules_masters.specs.Admitting.{Answer as Admission}
use Rattle.rules_servo.specs.declared.Servo.{Servo}
use Rattle.rules_watch.specs.declared.Watch.{Watch}
use Rattle.rules_watch.specs.Watch.{Taken, fresh_watch, taken_of}
use Rattle.door_records.specs.declared.unit.UnitWords.{UnitWords}
use Rattle.door_records.specs.declared.unit.StateWords.{StateWords}
use Rattle.door_records.specs.declared.masters.MasterWords.{MasterWords}
use Rattle.door_records.specs.Unit.{watch_in}
use Rattle.door_words.specs.declared.answers.AnswerWords.{AnswerWords}
use Rattle.door_words.specs.Answers.{plain, refusing, exchanging}
use Rattle.door_core.specs.declared.receiving.Received.{Received}
use Rattle.door_core.specs.declared.receiving.Received.TheVariants.{Announce, Exchange}
use Rattle.door_core.specs.Wiping.{wiped_state, emptied_of}
use Rattle.door_core.specs.Receiving.{Sorted, received_by}
use Rattle.door_choosing.specs.declared.Held.{Held}
use Rattle.door_choosing.specs.declared.Seated.{Seated}
use Rattle.door_choosing.specs.Choosing.{announce_in, seated_of, announced_of, timed_of, passed_of, untabled_of}
use Rattle.door_measuring.specs.declared.measuring.Told.{Told}
use Rattle.door_measuring.specs.Measuring.{Telling, heard_told, servo_after}
use Rattle.door_loop.specs.Lending.{Lent, says, with_state, unit_with, wiped_in, spoken_in, told_in, heard_in, lent_by, seated_in, seat_in, passed_in, announced_in, received_in, receive_of, time_of, pulsed_in, tick_of}

-- ---- a test that held, or did not
pub held-is : {X : Type 0} (t : Bool) (a b : X) → Holds t → a ≡ cond t a b
held-is true a b z = refl
held-is false a b z = absurd z

pub left_is : {X : Type 0} (t : Bool) (a b : X) → Holds (not t) → b ≡ cond t a b
left_is true a b z = absurd z
left_is false a b z = refl

pub five-is : {X : Type 0} (t : Bool) (a b : X) → Holds (not (not t)) → a ≡ cond t a b
five-is true a b z = refl
five-is false a b z = absurd z

-- ---- a watch, part by part
pub fresh-is : (x : Watch) → (x.head ≡ fresh_watch.head) × (x.references ≡ fresh_watch.references) × (x.ys ≡ fresh_watch.ys) × (x.marks ≡ fresh_watch.marks) → x ≡ fresh_watch
fresh-is x e i = record { head = e.0 i; references = e.1 i; ys = e.2 i; marks = e.3 i }

-- ---- a wipe: what it empties, with another state
module _ (w : UnitWords) (s r : StateWords) (t : List MasterWords) (a : AnswerWords) where
  pub wiped-is : {u : UnitWords} {v : Servo} {y : Watch}
      → (u ≡ unit_with w s (emptied_of w.settings).halves (emptied_of w.settings).delays) × (v ≡ (emptied_of w.settings).servo) × (y ≡ fresh_watch) → s ≡ r
      → record { unit = u; servo = v; table = t; watch = y; answer = a } ≡ wiped_in w r t a (emptied_of w.settings)
  wiped-is e g = (λ i. record { unit = e.0 i; servo = e.1 i; table = t; watch = e.2 i; answer = a }) ∙ ap (λ (x : StateWords). wiped_in w x t a (emptied_of w.settings)) g

-- ---- the exchange
module _ (w : UnitWords) (v : Servo) (t : List MasterWords) (y : Watch) where
  pub told-refused : (r : Refusal) (a : AnswerWords) → a ≡ refusing (number_of r) → says w v t y a ≡ told_in w v t y (Err r)
  told-refused r a e = ap (λ (b : AnswerWords). says w v t y b) e

  pub told-spoken : (q : Told) (n : Servo) (a : AnswerWords) (x : Watch)
      → n ≡ servo_after w.settings v q.said → a ≡ exchanging q.said n.output → x ≡ cond (said_wipes q.said) fresh_watch y
      → record { unit = record { settings = w.settings; state = q.state; halves = q.halves; delays = q.delays }; servo = n; table = t; watch = x; answer = a } ≡ told_in w v t y (Ok q)
  told-spoken q n a x e f g =
      (λ i. record { unit = record { settings = w.settings; state = q.state; halves = q.halves; delays = q.delays }; servo = n; table = t; watch = g i; answer = f i })
      ∙ ap (λ (m : Servo). spoken_in w t y q m) e

  -- it leaves any table as it was
  pub told-left : (q : Telling) {u : UnitWords} {n : Servo} {x : Watch} {a : AnswerWords}
      → (u ≡ (told_in w v [] y q).unit) × (n ≡ (told_in w v [] y q).servo) × (x ≡ (told_in w v [] y q).watch) × (a ≡ (told_in w v [] y q).answer)
      → record { unit = u; servo = n; table = t; watch = x; answer = a } ≡ told_in w v t y q
  told-left (Err r) e i = record { unit = e.0 i; servo = e.1 i; table = t; watch = e.2 i; answer = e.3 i }
  told-left (Ok q) e i = record { unit = e.0 i; servo = e.1 i; table = t; watch = e.2 i; answer = e.3 i }

pub heard-left : (w : UnitWords) (v : Servo) (t : List MasterWords) (y : Watch) (m : Message) (now : ℕ) (t2 : Stamp) {u : UnitWords} {n : Servo} {x : Watch} {a : AnswerWords}
    → (u ≡ (heard_in w v [] y m now t2).unit) × (n ≡ (heard_in w v [] y m now t2).servo) × (x ≡ (heard_in w v [] y m now t2).watch) × (a ≡ (heard_in w v [] y m now t2).answer)
    → record { unit = u; servo = n; table = t; watch = x; answer = a } ≡ heard_in w v t y m now t2
heard-left w v t y m now t2 = told-left w v t y (heard_told w m now t2)

-- ---- the choice
module _ (w : UnitWords) (v : Servo) (t : List MasterWords) (y : Watch) (q : Held) where
  pub held-left : {u : UnitWords} {n : Servo} {x : Watch} {a : AnswerWords}
      → (u ≡ (lent_by w v [] y q).unit) × (n ≡ (lent_by w v [] y q).servo) × (x ≡ (lent_by w v [] y q).watch) × (a ≡ (lent_by w v [] y q).answer)
      → record { unit = u; servo = n; table = t; watch = x; answer = a } ≡ lent_by w v t y q
  held-left e = (λ i. record { unit = e.0 i; servo = e.1 i; table = t; watch = e.2 i; answer = e.3 i }) ∙ by q.wipes
    where
      at : Bool → List MasterWords → Lent
      at b l = cond b (wiped_in w q.state l q.answer (emptied_of w.settings)) (says (with_state w q.state) v l y q.answer)

      by : (b : Bool) → record { unit = (at b []).unit; servo = (at b []).servo; table = t; watch = (at b []).watch; answer = (at b []).answer } ≡ at b t
      by true = refl
      by false = refl

-- ---- an Announce
module _ (w : UnitWords) (v : Servo) (t : List MasterWords) (y : Watch) (m : Message) (now : ℕ) where
  -- what its steps tell
  abbrev told_seat : Result Seated Refusal → Lent
  told_seat (Err n) = says w v t y (refusing (number_of n))
  told_seat (Ok q) = lent_by w v (set t q.at q.stored) y q.held

  told-seat : told_seat (announced_of w.settings w.state t m now) ≡ announced_in w v t y m now
  told-seat = by (eqb (length t) 5) (seat_in w t m now)
    where
      by : (b : Bool) (a : Admission)
          → told_seat (cond b (seated_of w.settings w.state t (announce_in m) now a) (Err Outside)) ≡ cond b (seated_in w v t y m now a) (says w v t y untabled_of)
      by false a = refl
      by true (Err n) = refl
      by true (Ok p) = refl

  pub announce-refused : (n : Refusal) → Err n ≡ announced_of w.settings w.state t m now → says w v t y (refusing (number_of n)) ≡ announced_in w v t y m now
  announce-refused n e = ap told_seat e ∙ told-seat

  pub announce-seated : (q : Seated) → Ok q ≡ announced_of w.settings w.state t m now → lent_by w v (set t q.at q.stored) y q.held ≡ announced_in w v t y m now
  announce-seated q e = ap told_seat e ∙ told-seat

  pub announce-left : {u : UnitWords} {n : Servo} {l : List MasterWords} {x : Watch} {a : AnswerWords}
      → (u ≡ (announced_in w v t y m now).unit) × (n ≡ (announced_in w v t y m now).servo) × (l ≡ (announced_in w v t y m now).table) × (x ≡ (announced_in w v t y m now).watch) × (a ≡ (announced_in w v t y m now).answer)
      → record { unit = u; servo = n; table = l; watch = x; answer = a } ≡ announced_in w v t y m now
  announce-left e i = record { unit = e.0 i; servo = e.1 i; table = e.2 i; watch = e.3 i; answer = e.4 i }

-- ---- a message
module _ (w : UnitWords) (v : Servo) (t : List MasterWords) (y : Watch) (o : List ℕ) (now : ℕ) (t2 : Stamp) where
  received_is : (k : Sorted) → k ≡ received_by (read_of o) → received_in w v t y k now t2 ≡ receive_of w v t y o now t2
  received_is k e = ap (λ (x : Sorted). received_in w v t y x now t2) e

  pub way-barred : (r : Refusal) → Err r ≡ received_by (read_of o) → (a : AnswerWords) → a ≡ refusing (number_of r) → says w v t y a ≡ receive_of w v t y o now t2
  way-barred r e a f = ap (λ (b : AnswerWords). says w v t y b) f ∙ received_is (Err r) e

  pub way-untabled : (k : Received) → Ok k ≡ received_by (read_of o) → (a : AnswerWords) → a ≡ untabled_of → Holds (not (eqb (length t) 5)) → says w v t y a ≡ receive_of w v t y o now t2
  way-untabled k e a f l = ap (λ (b : AnswerWords). says w v t y b) f ∙ left_is (eqb (length t) 5) _ _ l ∙ received_is (Ok k) e

  pub way-announced : (m : Message) → Ok (Announce m) ≡ received_by (read_of o) → announced_in w v t y m now ≡ receive_of w v t y o now t2
  way-announced m e = received_is (Ok (Announce m)) e

  pub way-heard : (m : Message) → Ok (Exchange m) ≡ received_by (read_of o) → Holds (not (not (eqb (length t) 5))) → heard_in w v t y m now t2 ≡ receive_of w v t y o now t2
  way-heard m e good = five-is (eqb (length t) 5) _ _ good ∙ received_is (Ok (Exchange m)) e

-- ---- the bare time call
module _ (w : UnitWords) (v : Servo) (t : List MasterWords) (y : Watch) (now : ℕ) where
  told-pass : passed_in w v t y (passed_of w.settings w.state t now) ≡ time_of w v t y now
  told-pass = by (eqb (length t) 5) (timed_of w.settings w.state t now)
    where
      by : (b : Bool) (a : Result Held Refusal) → passed_in w v t y (cond b a (Err Outside)) ≡ cond b (passed_in w v t y a) (says w v t y untabled_of)
      by false a = refl
      by true a = refl

  pub time-refused : (n : Refusal) → Err n ≡ passed_of w.settings w.state t now → says w v t y (refusing (number_of n)) ≡ time_of w v t y now
  time-refused n e = ap (passed_in w v t y) e ∙ told-pass

  pub time-held : (q : Held) → Ok q ≡ passed_of w.settings w.state t now → lent_by w v t y q ≡ time_of w v t y now
  time-held q e = ap (passed_in w v t y) e ∙ told-pass

-- ---- a second pulse
module _ (w : UnitWords) (v : Servo) (y : Watch) (reference clock : ℤ) where
  abbrev taken : Taken
  taken = taken_of (watch_in w.settings) y reference clock

  pulsed-is : (k : Answer) → k ≡ taken.answer → pulsed_in w v taken.watch k ≡ tick_of w v y reference clock
  pulsed-is k e = ap (λ (x : Answer). pulsed_in w v taken.watch x) e

  pub tick-refused : (r : Refusal) → Err r ≡ taken.answer → (x : Watch) → x ≡ taken.watch → (a : AnswerWords) → a ≡ refusing (number_of r) → says w v [] x a ≡ tick_of w v y reference clock
  tick-refused r e x g a f = (λ i. says w v [] (g i) (f i)) ∙ pulsed-is (Err r) e

  module _ (p : Pulse) (e : Ok p ≡ taken.answer) (a : AnswerWords) (f : a ≡ plain (code_of p)) where
    pub tick-wiped : Holds (pulse_wipes p) → (s : StateWords) {u : UnitWords} {n : Servo} {x : Watch}
        → (u ≡ unit_with w s (emptied_of w.settings).halves (emptied_of w.settings).delays) × (n ≡ (emptied_of w.settings).servo) × (x ≡ fresh_watch) → s ≡ wiped_state w.state
        → record { unit = u; servo = n; table = []; watch = x; answer = a } ≡ tick_of w v y reference clock
    tick-wiped z s h g =
        wiped-is w s (wiped_state w.state) [] a h g ∙ ap (λ (k : AnswerWords). wiped_in w (wiped_state w.state) [] k (emptied_of w.settings)) f
        ∙ held-is (pulse_wipes p) _ _ z ∙ pulsed-is (Ok p) e

    pub tick-kept : Holds (not (pulse_wipes p)) → (x : Watch) → x ≡ taken.watch → says w v [] x a ≡ tick_of w v y reference clock
    tick-kept z x g = (λ i. says w v [] (g i) (f i)) ∙ left_is (pulse_wipes p) _ _ z ∙ pulsed-is (Ok p) e
