-- Only a reset ends FAULTY: no other call's effect does.
use Rattle.std.specs.Prelude.{Ok, Err}
use mathlib.Core.Path.{◌≡◌, refl}
use mathlib.Core.Bool.{Bool, true}
use Prim.Native.Nat.{ℕ}
use Rattle.numbers.specs.declared.stamp.Stamp.{Stamp}
use Rattle.numbers.specs.Grounds.{Ruling}
use Rattle.rules_masters.specs.Admitting.{Answer as Admission}
use Rattle.rules_masters.specs.declared.admission.Entry.TheVariants as answers
use Rattle.rules_exchange.specs.Events.{Answer as Told}
use Rattle.numbers.specs.Grounds.{first_of}
use Rattle.numbers.specs.Orders.{of_exchange, of_time}
use Rattle.wire_layout.specs.declared.message.Header.{Header}
use Rattle.wire_layout.specs.declared.message.Body.{Body}
use Rattle.wire_layout.specs.declared.message.Body.TheVariants as bodies
use Rattle.rules_masters.specs.declared.record.Announce.{Announce}
use Rattle.rules_masters.specs.declared.table.Table.{Table}
use Rattle.rules_masters.specs.declared.chosen.Decision.{Decision}
use Rattle.rules_masters.specs.Holding.{chosen_at, same_master_of}
use Rattle.rules_exchange.specs.declared.Exchange.{Exchange}
use Rattle.rules_exchange.specs.declared.said.Said.{Said}
use Rattle.rules_exchange.specs.Said.{wipes_of, faults_of, steers_of}
use Rattle.rules_exchange.specs.Events.{Answered}
use Rattle.rules_exchange.specs.Table.{Event, sync, follow_up, requested, sent, delay_resp}
use Rattle.rules_exchange.specs.Events.{field_of, exchange_due, tells_of}
use Rattle.rules_watch.specs.Rules.{Outcome}
use Rattle.rules_watch.specs.declared.judging.Judged.TheVariants.{Wipe, Take}
use Rattle.rules_settings.specs.declared.Settings.{Settings}
use Rattle.unit_core.specs.Effects.{Stays, Progress, Effect, keeps, goes, takes, wipes, unless, with_now}
use Rattle.unit_choosing.specs.Choosing.{time_due, admission, holds_by, chooses, admits, announces, time_passes}
use Rattle.unit_measuring.specs.Measuring.{by_said, by_answer, exchanges}
use Rattle.unit_measuring.specs.Barring.{field_in, message_due, own_due}
use Rattle.unit_measuring.specs.Hearing.{two_step_in, hears_event, hears}
use Rattle.unit_measuring.specs.Asking.{request_grounds, with_next_sequence, requests, sends}
use Rattle.unit_ticking.specs.Ticking.{ticks}
use Rattle.unit_ticking.proofs.Pulses.{by_test}

-- what stays is FAULTY, or nothing changes
abbrev pub Lasting : Effect → Type 0
Lasting (keeps a) = Unit
Lasting (goes a k r) = k.faulty ≡ true
Lasting (takes origin x) = Unit
Lasting (wipes a k) = k.faulty ≡ true

module _ (s : Settings) (k : Stays) (r : Progress) (faulty : k.faulty ≡ true) where
  lasts-chooses : (t : Table) (now : ℕ) → Lasting (chooses s k r t now)
  unfolding chooses
  lasts-chooses t now = by_test (λ (d : Decision). Lasting (holds_by k r now (chosen_at t.records now s.announce) d)) (same_master_of k.chosen (chosen_at t.records now s.announce)) faulty faulty

  lasts-admits : (t : Table) (now : ℕ) (a : Admission) → Lasting (admits s k r t now a)
  lasts-admits t now (Err n) = tt
  lasts-admits t now (Ok (answers.Renewed place)) = lasts-chooses t now
  lasts-admits t now (Ok (answers.Entered place)) = lasts-chooses t now

  pub lasts-announce : (t : Table) (now : ℕ) (m : Announce) → Lasting (announces s k r t now m)
  unfolding announces
  lasts-announce t now m = lasts-admits (admission s k t now m).table now (admission s k t now m).answer

  lasts-unless : (v : Ruling) (e : Effect) → Lasting e → Lasting (unless v e)
  lasts-unless (Ok _) e f = f
  lasts-unless (Err n) e f = tt

  pub lasts-time : (t : Table) (now : ℕ) → Lasting (time_passes s k r t now)
  unfolding time_passes
  lasts-time t now = lasts-unless (first_of (of_time (time_due k.now now))) (chooses s k r t now) (lasts-chooses t now)

  lasts-said : (m : Stays) → m.faulty ≡ true → (x : Exchange) (said : Said) → Lasting (by_said s m r x said)
  unfolding by_said
  lasts-said m f x said = by_test Lasting (wipes_of said) f (by_test Lasting (faults_of said) refl (by_test Lasting (steers_of said) f f))

  lasts-answer : (m : Stays) → m.faulty ≡ true → (a : Told) (x : Exchange) → Lasting (by_answer s m r a x)
  lasts-answer m f (Err n) x = tt
  lasts-answer m f (Ok said) x = lasts-said m f x said

  lasts-exchanged : (v : Ruling) (m : Stays) → m.faulty ≡ true → (a : Answered) → Lasting (unless v (exchanges s m r a))
  lasts-exchanged v m f a = lasts-unless v (exchanges s m r a) (lasts-answer m f a.answer a.exchange)

  lasts-event : (now : ℕ) (h : Header) (field : Bool) (e : Event) → Lasting (hears_event s k r now h field e)
  lasts-event now h field e = lasts-exchanged (first_of (of_exchange (exchange_due r.exchange e (message_due s k now h field)))) (with_now now k) faulty (tells_of r.exchange e)

  pub lasts-heard : (now : ℕ) (t2 : Stamp) (h : Header) (b : Body) → Lasting (hears s k r now t2 h b)
  unfolding hears
  lasts-heard now t2 h (bodies.Sync t1) = lasts-event now h (field_in t2 (bodies.Sync t1)) (sync (two_step_in h) h.sequence h.correction t1 t2)
  lasts-heard now t2 h (bodies.DelayReq t) = tt
  lasts-heard now t2 h (bodies.FollowUp t1) = lasts-event now h (field_in t2 (bodies.FollowUp t1)) (follow_up h.sequence h.correction t1)
  lasts-heard now t2 h (bodies.DelayResp t4 p) = lasts-event now h (field_in t2 (bodies.DelayResp t4 p)) (delay_resp h.sequence h.correction t4 p s.own)
  lasts-heard now t2 h (bodies.Announce t offer) = tt

  pub lasts-request : (now room : ℕ) → Lasting (requests s k r now room)
  unfolding requests
  lasts-request now room = lasts-exchanged (first_of (request_grounds k now room)) (with_next_sequence now k) faulty (tells_of r.exchange (requested k.sequence))

  pub lasts-sent : (now sequence : ℕ) (t3 : Stamp) → Lasting (sends s k r now sequence t3)
  unfolding sends
  lasts-sent now sequence t3 = lasts-exchanged (first_of (of_exchange (exchange_due r.exchange (sent sequence t3) (own_due k now (field_of t3))))) (with_now now k) faulty (tells_of r.exchange (sent sequence t3))

  pub lasts-tick : (o : Outcome) → Lasting (ticks k o)
  lasts-tick (Err n) = tt
  lasts-tick (Ok (Wipe p)) = faulty
  lasts-tick (Ok (Take origin x)) = tt
