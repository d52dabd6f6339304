-- FAULTY lasts until a reset (rule 10.10).
use mathlib.Core.Path.{◌≡◌, refl}
use mathlib.Core.Bool.{true}
use Prim.Native.Nat.{ℕ}
use Rattle.numbers.specs.declared.stamp.Stamp.{Stamp}
use Rattle.wire_layout.specs.declared.message.Header.{Header}
use Rattle.wire_layout.specs.declared.message.Body.{Body}
use Rattle.wire_layout.specs.declared.message.Body.TheVariants as bodies
use Rattle.rules_masters.specs.declared.table.Table.{Table}
use Rattle.rules_watch.specs.Rules.{outcome}
use Rattle.rules_watch.specs.Watch.{since_of}
use Rattle.unit_core.specs.declared.calls.Call.{Call}
use Rattle.unit_core.specs.declared.calls.Call.TheVariants.{Receive, Request, Sent, Time, Reset, Tick, Line, Show}
use Rattle.unit_core.specs.Effects.{Effect, keeps, goes, takes, wipes, stays_of, progress_of}
use Rattle.unit.proofs.Lasting.{Lasting, lasts-announce, lasts-time, lasts-heard, lasts-request, lasts-sent, lasts-tick}
use Rattle.unit.specs.declared.Unit.{Unit}
use Rattle.unit.specs.Receiving.{receives}
use Rattle.unit.specs.Calls.{applied, unit_effect, unit_table, step_of}

module _ (c : Unit) (faulty : c.core.domain.faulty ≡ true) where
  lasts-kind : (now : ℕ) (t2 : Stamp) (h : Header) (b : Body)
      → Lasting (receives c.core.settings (stays_of c.core) (progress_of c.core c.servo) c.table now t2 h b)
  lasts-kind now t2 h (bodies.Announce stamp offer) = lasts-announce c.core.settings (stays_of c.core) (progress_of c.core c.servo) faulty c.table now (record { header = h; stamp = stamp; offer = offer })
  lasts-kind now t2 h (bodies.DelayReq stamp) = lasts-heard c.core.settings (stays_of c.core) (progress_of c.core c.servo) faulty now t2 h (bodies.DelayReq stamp)
  lasts-kind now t2 h (bodies.Sync t1) = lasts-heard c.core.settings (stays_of c.core) (progress_of c.core c.servo) faulty now t2 h (bodies.Sync t1)
  lasts-kind now t2 h (bodies.FollowUp t1) = lasts-heard c.core.settings (stays_of c.core) (progress_of c.core c.servo) faulty now t2 h (bodies.FollowUp t1)
  lasts-kind now t2 h (bodies.DelayResp t4 requester) = lasts-heard c.core.settings (stays_of c.core) (progress_of c.core c.servo) faulty now t2 h (bodies.DelayResp t4 requester)

  lasts : (call : Call) → (call ≡ Reset → ⊥) → Lasting (unit_effect c call)
  lasts (Receive now arrival m) n = lasts-kind now arrival m.header m.body
  lasts (Request now room) n = lasts-request c.core.settings (stays_of c.core) (progress_of c.core c.servo) faulty now room
  lasts (Sent now sequence t3) n = lasts-sent c.core.settings (stays_of c.core) (progress_of c.core c.servo) faulty now sequence t3
  lasts (Time now) n = lasts-time c.core.settings (stays_of c.core) (progress_of c.core c.servo) faulty c.table now
  lasts Reset n = absurd (n refl)
  lasts (Tick reference clock) n =
      lasts-tick c.core.settings (stays_of c.core) (progress_of c.core c.servo) faulty (outcome c.core.settings.watch (since_of c.watch) reference clock)
  lasts Line n = tt
  lasts Show n = tt

  after-lasting : (t : Table) (e : Effect) → Lasting e → (applied c t e).unit.core.domain.faulty ≡ true
  after-lasting t (keeps a) f = faulty
  after-lasting t (goes a k r) f = f
  after-lasting t (takes origin x) f = faulty
  after-lasting t (wipes a k) f = f

  pub faulty-lasts : (call : Call) → (call ≡ Reset → ⊥) → (step_of c call).unit.core.domain.faulty ≡ true
  faulty-lasts call n = after-lasting (unit_table c call) (unit_effect c call) (lasts call n)
