-- A call for C that is refused leaves every octet that it was lent as it was, whatever is there and however long the table is.
use Rattle.std.specs.Prelude.{Ok, Err}
use mathlib.Core.Path.{◌≡◌, refl, sym, ◌∙◌}
use mathlib.Core.Bool.{true, false}
use mathlib.Core.List.{List, []}
use Prim.Native.Nat.{ℕ}
use lib.Dec.{eqb}
use lib.IntN.{ℤ}
use lib.ListN.{length}
use Rattle.numbers.specs.declared.stamp.Stamp.{Stamp}
use Rattle.numbers.specs.Grounds.{Ruling, answer_by, first_of}
use Rattle.rules_exchange.specs.Events.{Answer as Tells}
use Rattle.numbers.specs.Orders.{number_of, of_exchange, of_time}
use Rattle.wire_layout.specs.declared.message.Message.{Message}
use Rattle.wire_layout.specs.Reading.{read_of}
use Rattle.rules_masters.specs.declared.chosen.Chosen.{Chosen}
use Rattle.rules_masters.specs.declared.chosen.Decision.{Decision}
use Rattle.rules_masters.specs.Admitting.{Answer as Admission}
use Rattle.rules_masters.specs.Holding.{same_master_of}
use Rattle.rules_exchange.specs.declared.Exchange.{Exchange}
use Rattle.rules_exchange.specs.declared.said.Said.{Said}
use Rattle.rules_exchange.specs.declared.said.Said.TheVariants.{Held, Paired, Asked, Stamped, Back, Neg, Long, Huge, HugeFaulty, Path, PathWiped, Step, Measured}
use Rattle.rules_exchange.specs.Said.{code_of}
use Rattle.rules_exchange.specs.Events.{fresh_exchange, field_of, told}
use Rattle.rules_exchange.specs.Table.{sent as leaves}
use Rattle.rules_servo.specs.declared.Servo.{Servo}
use Rattle.rules_watch.specs.declared.Watch.{Watch}
use Rattle.rules_watch.specs.declared.Pulse.{Pulse}
use Rattle.rules_watch.specs.declared.Pulse.TheVariants as pulses
use Rattle.rules_watch.specs.Rules.{wipes_of, code_of as pulse_code, pulse_of}
use Rattle.rules_watch.specs.Watch.{taken_by, since_of}
use Rattle.unit_core.specs.Effects.{stays_of}
use Rattle.unit_choosing.specs.Choosing.{time_due}
use Rattle.unit_measuring.specs.Barring.{own_due}
use Rattle.unit_measuring.specs.Asking.{request_grounds}
use Rattle.unit_measuring.specs.Frame.{frame_by}
use Rattle.unit_measuring.specs.Inner.{message_grounds, handed}
use Rattle.unit_ticking.proofs.Pulses.{by_test, every-outcome}
use Rattle.unit.proofs.Refusals.{never}
use Rattle.unit_handing.specs.Handing.{Handed, receive, request, sent, time, reset, tick, line, show, frame_in}
use Rattle.wire_frames.specs.Frames.{request_of as delay_req}
use Rattle.door_records.specs.declared.unit.UnitWords.{UnitWords}
use Rattle.door_records.specs.declared.unit.StateWords.{StateWords}
use Rattle.door_records.specs.declared.masters.MasterWords.{MasterWords}
use Rattle.door_records.specs.Unit.{settings_in, own_in, exchange_in, watch_in, core_in, core_of, delays_words}
use Rattle.door_words.specs.declared.answers.AnswerWords.{AnswerWords}
use Rattle.door_words.specs.Answers.{refusing}
use Rattle.door_core.specs.declared.receiving.Received.{Received}
use Rattle.door_core.specs.declared.receiving.Received.TheVariants.{Announce, Exchange as Exchanged}
use Rattle.door_core.specs.Receiving.{Sorted, received_by}
use Rattle.door_choosing.specs.Choosing.{held_by, held_of, untabled_of}
use Rattle.door_measuring.specs.Measuring.{told_by}
use Rattle.door_measuring.specs.Asking.{requested_by}
use Rattle.door_loop.specs.Lending.{Lent, says, unit_with, told_in, heard_in, lent_by, chosen_in, placed_in, seat_in, seated_in, passed_in, open_in, received_in, receive_of, time_of, unit_asking, sent_of, ticked_in, tick_of}
use Rattle.door_loop.specs.Loop.{Parts, Table, own, stray, lends}
use Rattle.demands.specs.Words.{is_refused, stray_in}

-- ---- what is spoken is no refusal
pub said-speaks : (said : Said) → eqb (code_of said) 0 ≡ false
said-speaks Held = refl
said-speaks Paired = refl
said-speaks (Asked n) = refl
said-speaks Stamped = refl
said-speaks Back = refl
said-speaks Neg = refl
said-speaks Long = refl
said-speaks Huge = refl
said-speaks HugeFaulty = refl
said-speaks Path = refl
said-speaks PathWiped = refl
said-speaks (Step offset) = refl
said-speaks (Measured found) = refl

pub pulse-speaks : (p : Pulse) → eqb (pulse_code p) 0 ≡ false
pulse-speaks pulses.Valid = refl
pulse-speaks pulses.Invalid = refl
pulse-speaks pulses.Back = refl
pulse-speaks pulses.Range = refl
pulse-speaks pulses.Jump = refl

module _ (u : UnitWords) (v : Servo) (w : Watch) where
  module _ (t : List MasterWords) where
    abbrev Kept : Lent → Type 0
    Kept l = is_refused l.answer ≡ true → (l.unit ≡ u) × (l.servo ≡ v) × (l.table ≡ t) × (l.watch ≡ w)

    kept-says : (a : AnswerWords) → Kept (says u v t w a)
    kept-says a h = (refl, refl, refl, refl)

    -- ---- the exchange
    kept-told : (now : ℕ) (a : Tells) (x : Exchange) → Kept (told_in u v t w (told_by u.state now a x))
    kept-told now (Err n) x = kept-says (refusing (number_of n))
    kept-told now (Ok said) x = λ h. absurd (never (sym (said-speaks said) ∙ h))

    kept-unless : (now : ℕ) (r : Ruling) (a : Tells) (x : Exchange) → Kept (told_in u v t w (answer_by Err (told_by u.state now a x) r))
    kept-unless now (Ok _) a x = kept-told now a x
    kept-unless now (Err n) a x = kept-says (refusing (number_of n))

    -- ---- the choice
    not-held : (x : List MasterWords) (s : StateWords) (now : ℕ) (c : Chosen) → is_refused (lent_by u v x w (held_of s now c)).answer ≡ true → ⊥
    unfolding held_of
    not-held x s now c = by_test (λ (d : Decision). is_refused (lent_by u v x w (held_by s now c d)).answer ≡ true → ⊥) (same_master_of _ c) never never

    kept-seated : (m : Message) (now : ℕ) (p : Admission) → Kept (seated_in u v t w m now p)
    kept-seated m now (Err n) = kept-says (refusing (number_of n))
    kept-seated m now (Ok p) = λ h. absurd (not-held (placed_in t m now p) u.state now (chosen_in u (placed_in t m now p) now) h)

    kept-timed : (now : ℕ) (r : Ruling) (c : Chosen) → Kept (passed_in u v t w (answer_by Err (Ok (held_of u.state now c)) r))
    kept-timed now (Ok _) c = λ h. absurd (not-held t u.state now c h)
    kept-timed now (Err n) c = kept-says (refusing (number_of n))

    -- ---- a message, and the bare time call
    kept-heard : (m : Message) (now : ℕ) (t2 : Stamp) → Kept (heard_in u v t w m now t2)
    kept-heard m now t2 =
        let a = handed (exchange_in u.halves u.delays) (own_in u.settings) t2 m.header m.body in
        kept-unless now (first_of (message_grounds (settings_in u.settings) (stays_of (core_in u)) now t2 m.header m.body)) a.answer a.exchange

    kept-open : (k : Received) (now : ℕ) (t2 : Stamp) → Kept (open_in u v t w k now t2)
    kept-open (Announce m) now t2 = kept-seated m now (seat_in u t m now)
    kept-open (Exchanged m) now t2 = kept-heard m now t2

    kept-received : (k : Sorted) (now : ℕ) (t2 : Stamp) → Kept (received_in u v t w k now t2)
    kept-received (Err r) now t2 = kept-says (refusing (number_of r))
    kept-received (Ok k) now t2 = by_test Kept (eqb (length t) 5) (kept-open k now t2) (kept-says untabled_of)

    pub kept-receive : (octets : List ℕ) (now : ℕ) (t2 : Stamp) → Kept (receive_of u v t w octets now t2)
    kept-receive octets now t2 = kept-received (received_by (read_of octets)) now t2

    pub kept-time : (now : ℕ) → Kept (time_of u v t w now)
    kept-time now = by_test Kept (eqb (length t) 5) (kept-timed now (first_of (of_time (time_due u.state.now now))) (chosen_in u t now)) (kept-says untabled_of)

  -- ---- the calls without a table
  pub kept-sent : (now sequence : ℕ) (t3 : Stamp) → Kept [] (sent_of u v w now sequence t3)
  kept-sent now sequence t3 =
      let a = told (exchange_in u.halves u.delays) (leaves sequence t3) in
      kept-unless [] now (first_of (of_exchange (own_due (stays_of (core_in u)) now (field_of t3)))) a.answer a.exchange

  not-pulsed : (p : Pulse) (x : Watch) → Kept [] (ticked_in u v (record { answer = Ok p; watch = x }))
  not-pulsed p x = by_test (Kept []) (wipes_of p) (λ h. absurd (never (sym (pulse-speaks p) ∙ h))) (λ h. absurd (never (sym (pulse-speaks p) ∙ h)))

  pub kept-tick : (reference clock : ℤ) → Kept [] (tick_of u v w reference clock)
  kept-tick reference clock =
      every-outcome (λ o. Kept [] (ticked_in u v (taken_by (watch_in u.settings) w o)))
      (λ n h. (refl, refl, refl, refl)) (λ p k. not-pulsed p w) (λ origin x. not-pulsed (pulse_of x.valid) _)
      (watch_in u.settings) (since_of w) reference clock

  -- ---- a request, and its frame
  pub kept-request : (now : ℕ) (r : Ruling) → is_refused (requested_by u.state u.halves now r).answer ≡ true
      → (m : Message) (f : List ℕ) → (unit_with u (requested_by u.state u.halves now r).state (requested_by u.state u.halves now r).halves u.delays ≡ u) × (frame_by r m f ≡ f)
  kept-request now (Ok _) h m f = absurd (never h)
  kept-request now (Err n) h m f = (refl, refl)

-- ---- every call
-- the parts as they were
same_parts : (p : Parts) (u : UnitWords) (v : Servo) (t : List MasterWords) (w : Watch) → u ≡ p.unit → v ≡ p.servo → t ≡ p.table → w ≡ p.watch
    → ◌≡◌ {A = Parts} (record { unit = u; servo = v; table = t; watch = w }) p
same_parts p u v t w a b c d = rw (a, b, c, d)

module _ (p : Parts) where
  abbrev Same : Handed Table → Type 0
  Same call = ((lends p call).parts ≡ p) × ((lends p call).frame ≡ frame_in call) × ((lends p call).stray ≡ stray_in call)

  lent_same : (l : Lent) → Kept p.unit p.servo p.watch p.table l → is_refused l.answer ≡ true
      → ◌≡◌ {A = Parts} (record { unit = l.unit; servo = l.servo; table = l.table; watch = l.watch }) p
  lent_same l k h = let e = k h in same_parts p l.unit l.servo l.table l.watch e.0 e.1 e.2 e.3

  turned_same : (t : List MasterWords) (l : Lent) → Kept p.unit p.servo p.watch t l → is_refused l.answer ≡ true
      → ◌≡◌ {A = Parts} (record { unit = l.unit; servo = l.servo; table = p.table; watch = l.watch }) p
  turned_same t l k h = let e = k h in same_parts p l.unit l.servo p.table l.watch e.0 e.1 refl e.3

  pub refusal-keeps-parts : (call : Handed Table) → is_refused (lends p call).answer ≡ true → Same call
  unfolding lends
  refusal-keeps-parts (receive own octets now arrival) h = (lent_same (receive_of p.unit p.servo p.table p.watch octets now arrival) (kept-receive p.unit p.servo p.watch p.table octets now arrival) h, refl, refl)
  refusal-keeps-parts (receive (stray t e) octets now arrival) h =
      let k = kept-receive p.unit p.servo p.watch t octets now arrival in (turned_same t (receive_of p.unit p.servo t p.watch octets now arrival) k h, refl, (k h).2)
  refusal-keeps-parts (request frame now) h =
      let r = first_of (request_grounds (stays_of (core_of p.unit.settings p.unit.state p.unit.halves (delays_words fresh_exchange))) now (length frame)) in
      let k = kept-request p.unit p.servo p.watch now r h (delay_req p.unit.settings.domain (own_in p.unit.settings) p.unit.state.sequence) frame in
      (same_parts p (unit_asking p.unit now (length frame)) p.servo p.table p.watch k.0 refl refl refl, k.1, refl)
  refusal-keeps-parts (sent now sequence t3) h =
      let k = kept-sent p.unit p.servo p.watch now sequence t3 in (turned_same [] (sent_of p.unit p.servo p.watch now sequence t3) k h, refl, (k h).2)
  refusal-keeps-parts (time own now) h = (lent_same (time_of p.unit p.servo p.table p.watch now) (kept-time p.unit p.servo p.watch p.table now) h, refl, refl)
  refusal-keeps-parts (time (stray t e) now) h =
      let k = kept-time p.unit p.servo p.watch t now in (turned_same t (time_of p.unit p.servo t p.watch now) k h, refl, (k h).2)
  refusal-keeps-parts reset h = absurd (never h)
  refusal-keeps-parts (tick reference clock) h =
      let k = kept-tick p.unit p.servo p.watch reference clock in
      (turned_same [] (tick_of p.unit p.servo p.watch reference clock) k h, refl, (k h).2)
  refusal-keeps-parts line h = (refl, refl, refl)
  refusal-keeps-parts show h = (refl, refl, refl)
