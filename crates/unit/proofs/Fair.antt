-- What every call's effect has in common: what changes anything is no refusal, the answer says that it wiped exactly where the call wipes, and the
-- output stays within the limit.
use Rattle.std.specs.Prelude.{Ok, Err}
use mathlib.Core.Path.{◌≡◌, refl}
use mathlib.Core.Bool.{Bool, true, false}
use Prim.Native.Nat.{ℕ, ◌≤◌}
use native.Mathlib.Omega.{arith}
use lib.IntN.{nat_abs}
use Rattle.numbers.specs.Integers.{up}
use Rattle.numbers.specs.declared.stamp.Stamp.{Stamp}
use Rattle.numbers.specs.Grounds.{Ruling}
use Rattle.rules_masters.specs.Admitting.{Answer as Admission}
use Rattle.rules_masters.specs.declared.admission.Entry.TheVariants as answers
use Rattle.rules_exchange.specs.Events.{Answer as Told}
use Rattle.numbers.specs.Grounds.{first_of}
use Rattle.numbers.specs.Orders.{of_exchange, of_time}
use Rattle.wire_layout.specs.declared.message.Header.{Header}
use Rattle.wire_layout.specs.declared.message.Body.{Body}
use Rattle.wire_layout.specs.declared.message.Body.TheVariants as bodies
use Rattle.rules_masters.specs.declared.record.Announce.{Announce}
use Rattle.rules_masters.specs.declared.table.Table.{Table}
use Rattle.rules_masters.specs.declared.chosen.Decision.{Decision}
use Rattle.rules_masters.specs.Holding.{chosen_at, same_master_of}
use Rattle.rules_exchange.specs.declared.Exchange.{Exchange}
use Rattle.rules_exchange.specs.declared.said.Said.TheVariants as says
use Rattle.rules_exchange.specs.Events.{Answered}
use Rattle.rules_exchange.specs.Table.{Event, sync, follow_up, requested, sent, delay_resp}
use Rattle.rules_exchange.specs.Events.{field_of, exchange_due, tells_of}
use Rattle.rules_servo.specs.Steps.{held_offset}
use Rattle.rules_servo.proofs.Theorems.{output-kept}
use Rattle.rules_settings.specs.declared.Settings.{Settings}
use Rattle.unit_core.specs.Effects.{Stays, Progress, Effect, keeps, goes, takes, wipes, unless, with_now}
use Rattle.unit_core.specs.Answers.{is_refusal, wipes_of}
use Rattle.unit_choosing.specs.Choosing.{time_due, admission, holds_by, chooses, admits, announces, time_passes}
use Rattle.unit_measuring.specs.Measuring.{by_said, by_answer, exchanges}
use Rattle.unit_measuring.specs.Barring.{field_in, message_due, own_due}
use Rattle.unit_measuring.specs.Hearing.{two_step_in, hears_event, hears}
use Rattle.unit_measuring.specs.Asking.{request_grounds, with_next_sequence, requests, sends}
use Rattle.unit_ticking.proofs.Pulses.{by_test}

-- the output in ppb, without its sign
abbrev pub steering : Progress → ℕ
steering r = nat_abs r.servo.output.0

-- an effect of any call but a pulse
abbrev pub Fair : ℕ → Effect → Type 0
Fair most (keeps a) = wipes_of a ≡ false
Fair most (goes a k r) = (is_refusal a ≡ false) × ((wipes_of a ≡ false) × (steering r ≤ most))
Fair most (takes origin x) = ⊥
Fair most (wipes a k) = (is_refusal a ≡ false) × (wipes_of a ≡ true)

module _ (s : Settings) (k : Stays) (r : Progress) (most : ℕ) (limit : up s.limit.0 ≤ most) (within : steering r ≤ most) where
  fair-chooses : (t : Table) (now : ℕ) → Fair most (chooses s k r t now)
  unfolding chooses
  fair-chooses t now = by_test (λ (d : Decision). Fair most (holds_by k r now (chosen_at t.records now s.announce) d)) (same_master_of k.chosen (chosen_at t.records now s.announce)) (refl, (refl, within)) (refl, refl)

  fair-admits : (t : Table) (now : ℕ) (a : Admission) → Fair most (admits s k r t now a)
  fair-admits t now (Err n) = refl
  fair-admits t now (Ok (answers.Renewed place)) = fair-chooses t now
  fair-admits t now (Ok (answers.Entered place)) = fair-chooses t now

  fair-answer : (m : Stays) (a : Told) (x : Exchange) → Fair most (by_answer s m r a x)
  unfolding by_said
  fair-answer m (Err n) x = refl
  fair-answer m (Ok says.Held) x = (refl, (refl, within))
  fair-answer m (Ok says.Paired) x = (refl, (refl, within))
  fair-answer m (Ok (says.Asked n)) x = (refl, (refl, within))
  fair-answer m (Ok says.Stamped) x = (refl, (refl, within))
  fair-answer m (Ok says.Back) x = (refl, refl)
  fair-answer m (Ok says.Neg) x = (refl, (refl, within))
  fair-answer m (Ok says.Long) x = (refl, (refl, within))
  fair-answer m (Ok says.Huge) x = (refl, (refl, within))
  fair-answer m (Ok says.HugeFaulty) x = (refl, (refl, within))
  fair-answer m (Ok says.Path) x = (refl, (refl, within))
  fair-answer m (Ok says.PathWiped) x = (refl, refl)
  fair-answer m (Ok (says.Step offset)) x = (refl, refl)
  fair-answer m (Ok (says.Measured found)) x = (refl, (refl, omega (arith, output-kept r.servo (held_offset found.offset.0) s.sync s.limit.0)))

  fair-unless : (v : Ruling) (e : Effect) → Fair most e → Fair most (unless v e)
  fair-unless (Ok _) e f = f
  fair-unless (Err n) e f = refl

  fair-exchanged : (v : Ruling) (m : Stays) (a : Answered) → Fair most (unless v (exchanges s m r a))
  fair-exchanged v m a = fair-unless v (exchanges s m r a) (fair-answer m a.answer a.exchange)

  fair-event : (now : ℕ) (h : Header) (field : Bool) (e : Event) → Fair most (hears_event s k r now h field e)
  fair-event now h field e = fair-exchanged (first_of (of_exchange (exchange_due r.exchange e (message_due s k now h field)))) (with_now now k) (tells_of r.exchange e)

  pub fair-heard : (now : ℕ) (t2 : Stamp) (h : Header) (b : Body) → Fair most (hears s k r now t2 h b)
  unfolding hears
  fair-heard now t2 h (bodies.Sync t1) = fair-event now h (field_in t2 (bodies.Sync t1)) (sync (two_step_in h) h.sequence h.correction t1 t2)
  fair-heard now t2 h (bodies.DelayReq t) = refl
  fair-heard now t2 h (bodies.FollowUp t1) = fair-event now h (field_in t2 (bodies.FollowUp t1)) (follow_up h.sequence h.correction t1)
  fair-heard now t2 h (bodies.DelayResp t4 p) = fair-event now h (field_in t2 (bodies.DelayResp t4 p)) (delay_resp h.sequence h.correction t4 p s.own)
  fair-heard now t2 h (bodies.Announce t offer) = refl

  pub fair-announce : (t : Table) (now : ℕ) (m : Announce) → Fair most (announces s k r t now m)
  unfolding announces
  fair-announce t now m = fair-admits (admission s k t now m).table now (admission s k t now m).answer

  pub fair-request : (now room : ℕ) → Fair most (requests s k r now room)
  unfolding requests
  fair-request now room = fair-exchanged (first_of (request_grounds k now room)) (with_next_sequence now k) (tells_of r.exchange (requested k.sequence))

  pub fair-sent : (now sequence : ℕ) (t3 : Stamp) → Fair most (sends s k r now sequence t3)
  unfolding sends
  fair-sent now sequence t3 = fair-exchanged (first_of (of_exchange (exchange_due r.exchange (sent sequence t3) (own_due k now (field_of t3))))) (with_now now k) (tells_of r.exchange (sent sequence t3))

  pub fair-time : (t : Table) (now : ℕ) → Fair most (time_passes s k r t now)
  unfolding time_passes
  fair-time t now = fair-unless (first_of (of_time (time_due k.now now))) (chooses s k r t now) (fair-chooses t now)
