-- What a wipe leaves as it was: now, master, sequenceId and FAULTY, but for what the call itself sets.
use Rattle.std.specs.Prelude.{Ok, Err}
use mathlib.Core.Path.{◌≡◌, refl}
use mathlib.Core.Bool.{Bool}
use Prim.Native.Nat.{ℕ}
use lib.IntN.{ℤ}
use Rattle.numbers.specs.declared.stamp.Stamp.{Stamp}
use Rattle.numbers.specs.Grounds.{Ruling}
use Rattle.rules_masters.specs.Admitting.{Answer as Admission}
use Rattle.rules_masters.specs.declared.admission.Entry.TheVariants as admissions
use Rattle.rules_exchange.specs.Events.{Answer as Told}
use Rattle.rules_watch.specs.Rules.{Outcome, Drift}
use Rattle.numbers.specs.Grounds.{first_of}
use Rattle.numbers.specs.Orders.{of_exchange, of_time}
use Rattle.wire_layout.specs.declared.message.Header.{Header}
use Rattle.wire_layout.specs.declared.message.Body.{Body}
use Rattle.wire_layout.specs.declared.message.Body.TheVariants as bodies
use Rattle.rules_masters.specs.declared.record.Announce.{Announce}
use Rattle.rules_masters.specs.declared.table.Table.{Table}
use Rattle.rules_masters.specs.declared.chosen.Decision.{Decision}
use Rattle.rules_masters.specs.Holding.{chosen_at, same_master_of}
use Rattle.rules_exchange.specs.declared.Exchange.{Exchange}
use Rattle.rules_exchange.specs.Said.{wipes_of, faults_of, steers_of}
use Rattle.rules_exchange.specs.Events.{Answered}
use Rattle.rules_exchange.specs.Table.{Event, sync, requested, sent, follow_up, delay_resp, row_by}
use Rattle.rules_exchange.specs.Events.{field_of, exchange_due, tells_of, stamp_taken}
use Rattle.rules_watch.specs.declared.judging.Judged.TheVariants.{Wipe, Take}
use Rattle.rules_settings.specs.declared.Settings.{Settings}
use Rattle.unit_core.specs.declared.calls.Call.{Call}
use Rattle.unit_core.specs.declared.calls.Call.TheVariants.{Receive, Request, Sent, Time, Reset, Tick, Line, Show}
use Rattle.unit_core.specs.Effects.{Stays, Progress, Effect, keeps, goes, takes, wipes, unless, with_now}
use Rattle.unit_choosing.specs.Choosing.{time_due, admission, holds_by, chooses, admits, announces, time_passes}
use Rattle.unit_measuring.specs.Measuring.{by_said, by_answer, exchanges}
use Rattle.unit_measuring.specs.Barring.{field_in, message_due, own_due}
use Rattle.unit_measuring.specs.Hearing.{two_step_in, hears_event, hears}
use Rattle.unit_measuring.specs.Asking.{request_grounds, with_next_sequence, requests, sends}
use Rattle.unit_ticking.specs.Ticking.{ticks}
use Rattle.unit_ticking.proofs.Pulses.{by_test}
use Rattle.unit.specs.Receiving.{receives}
use Rattle.unit.specs.Calls.{effect_of}
use Rattle.demands.specs.Words.{chosen_by, faulty_by}

-- where e wipes, this is what stays of k
abbrev pub Staying : Stays → ℕ → Effect → Type 0
Staying k now (keeps a) = Unit
Staying k now (goes a m r) = Unit
Staying k now (takes origin x) = Unit
Staying k now (wipes a m) = (m.now ≡ now) × (m.chosen ≡ chosen_by a k.chosen) × (m.sequence ≡ k.sequence) × (m.faulty ≡ faulty_by a k.faulty)

-- the now that a call carries
abbrev pub now_of : Call → ℕ → ℕ
now_of (Receive now arrival m) before = now
now_of (Request now room) before = now
now_of (Sent now sequence t3) before = now
now_of (Time now) before = now
now_of Reset before = before
now_of (Tick reference clock) before = before
now_of Line before = before
now_of Show before = before

module _ (s : Settings) (k : Stays) (r : Progress) where
  stays-unless : (now : ℕ) (v : Ruling) (e : Effect) → Staying k now e → Staying k now (unless v e)
  stays-unless now (Ok _) e f = f
  stays-unless now (Err n) e f = tt

  -- ---- the choice
  stays-chooses : (t : Table) (now : ℕ) → Staying k now (chooses s k r t now)
  unfolding chooses
  stays-chooses t now = by_test (λ (d : Decision). Staying k now (holds_by k r now (chosen_at t.records now s.announce) d)) (same_master_of k.chosen (chosen_at t.records now s.announce)) tt (refl, refl, refl, refl)

  stays-admits : (t : Table) (now : ℕ) (a : Admission) → Staying k now (admits s k r t now a)
  stays-admits t now (Err n) = tt
  stays-admits t now (Ok (admissions.Renewed place)) = stays-chooses t now
  stays-admits t now (Ok (admissions.Entered place)) = stays-chooses t now

  stays-announce : (t : Table) (now : ℕ) (m : Announce) → Staying k now (announces s k r t now m)
  unfolding announces
  stays-announce t now m = stays-admits (admission s k t now m).table now (admission s k t now m).answer

  stays-time : (t : Table) (now : ℕ) → Staying k now (time_passes s k r t now)
  unfolding time_passes
  stays-time t now = stays-unless now (first_of (of_time (time_due k.now now))) (chooses s k r t now) (stays-chooses t now)

  -- ---- the exchange
  stays-answer : (now : ℕ) (a : Told) (x : Exchange) → Staying k now (by_answer s (with_now now k) r a x)
  unfolding by_said
  stays-answer now (Err n) x = tt
  stays-answer now (Ok said) x =
      by_test (Staying k now) (wipes_of said) (refl, refl, refl, refl) (by_test (Staying k now) (faults_of said) tt (by_test (Staying k now) (steers_of said) tt tt))

  stays-exchanged : (now : ℕ) (v : Ruling) (a : Answered) → Staying k now (unless v (exchanges s (with_now now k) r a))
  stays-exchanged now v a = stays-unless now v (exchanges s (with_now now k) r a) (stays-answer now a.answer a.exchange)

  stays-event : (now : ℕ) (h : Header) (field : Bool) (e : Event) → Staying k now (hears_event s k r now h field e)
  stays-event now h field e = stays-exchanged now (first_of (of_exchange (exchange_due r.exchange e (message_due s k now h field)))) (tells_of r.exchange e)

  stays-heard : (now : ℕ) (t2 : Stamp) (h : Header) (b : Body) → Staying k now (hears s k r now t2 h b)
  unfolding hears
  stays-heard now t2 h (bodies.Sync t1) = stays-event now h (field_in t2 (bodies.Sync t1)) (sync (two_step_in h) h.sequence h.correction t1 t2)
  stays-heard now t2 h (bodies.DelayReq t) = tt
  stays-heard now t2 h (bodies.FollowUp t1) = stays-event now h (field_in t2 (bodies.FollowUp t1)) (follow_up h.sequence h.correction t1)
  stays-heard now t2 h (bodies.DelayResp t4 p) = stays-event now h (field_in t2 (bodies.DelayResp t4 p)) (delay_resp h.sequence h.correction t4 p s.own)
  stays-heard now t2 h (bodies.Announce t offer) = tt

  -- a request wipes nothing
  stays-asked : (now : ℕ) (v : Ruling) → Staying k now (unless v (exchanges s (with_next_sequence now k) r (tells_of r.exchange (requested k.sequence))))
  unfolding tells_of row_by stamp_taken by_said
  stays-asked now (Ok _) = tt
  stays-asked now (Err n) = tt

  stays-request : (now room : ℕ) → Staying k now (requests s k r now room)
  unfolding requests
  stays-request now room = stays-asked now (first_of (request_grounds k now room))

  stays-sent : (now sequence : ℕ) (t3 : Stamp) → Staying k now (sends s k r now sequence t3)
  unfolding sends
  stays-sent now sequence t3 =
      stays-exchanged now (first_of (of_exchange (exchange_due r.exchange (sent sequence t3) (own_due k now (field_of t3))))) (tells_of r.exchange (sent sequence t3))

  -- ---- the watch
  stays-tick : (o : Outcome) → Staying k k.now (ticks k o)
  stays-tick (Err n) = tt
  stays-tick (Ok (Wipe p)) = (refl, refl, refl, refl)
  stays-tick (Ok (Take origin x)) = tt

  -- ---- every call
  stays-receive : (t : Table) (now : ℕ) (t2 : Stamp) (h : Header) (b : Body) → Staying k now (receives s k r t now t2 h b)
  stays-receive t now t2 h (bodies.Announce stamp offer) = stays-announce t now (record { header = h; stamp = stamp; offer = offer })
  stays-receive t now t2 h (bodies.DelayReq stamp) = stays-heard now t2 h (bodies.DelayReq stamp)
  stays-receive t now t2 h (bodies.Sync t1) = stays-heard now t2 h (bodies.Sync t1)
  stays-receive t now t2 h (bodies.FollowUp t1) = stays-heard now t2 h (bodies.FollowUp t1)
  stays-receive t now t2 h (bodies.DelayResp t4 p) = stays-heard now t2 h (bodies.DelayResp t4 p)

  pub staying : (t : Table) (count : ℕ) (pulse : ℤ → ℤ → Outcome) (d : Drift) (call : Call) → Staying k (now_of call k.now) (effect_of s k r t count pulse d call)
  staying t count pulse d (Receive now arrival m) = stays-receive t now arrival m.header m.body
  staying t count pulse d (Request now room) = stays-request now room
  staying t count pulse d (Sent now sequence t3) = stays-sent now sequence t3
  staying t count pulse d (Time now) = stays-time t now
  staying t count pulse d Reset = (refl, refl, refl, refl)
  staying t count pulse d (Tick reference clock) = stays-tick (pulse reference clock)
  staying t count pulse d Line = tt
  staying t count pulse d Show = tt
