-- What is common to every call but a pulse, at the unit: its effect is fair, and so what `after` puts in place is what the effect says.
use Rattle.std.specs.Prelude.{Ok, Err}
use mathlib.Core.Path.{◌≡◌, refl}
use mathlib.Core.Bool.{cond}
use Prim.Native.Nat.{ℕ, ◌+◌, ◌≤◌}
use native.Mathlib.Omega.{arith}
use lib.IntN.{ℤ}
use Rattle.numbers.specs.Integers.{up}
use Rattle.numbers.specs.declared.stamp.Stamp.{Stamp}
use Rattle.wire_layout.specs.declared.message.Header.{Header}
use Rattle.wire_layout.specs.declared.message.Body.{Body}
use Rattle.wire_layout.specs.declared.message.Body.TheVariants as bodies
use Rattle.wire_layout.specs.declared.message.Offer.{Offer}
use Rattle.rules_masters.specs.declared.table.Table.{Table}
use Rattle.rules_watch.specs.Rules.{Outcome, Drift}
use Rattle.rules_watch.specs.Watch.{fresh_watch}
use Rattle.rules_settings.specs.declared.Settings.{Settings}
use Rattle.unit_core.specs.declared.calls.Call.{Call}
use Rattle.unit_core.specs.declared.calls.Call.TheVariants.{Receive, Request, Sent, Time, Reset, Tick, Line, Show}
use Rattle.unit_core.specs.Effects.{Stays, Progress, Effect, keeps, goes, takes, wipes, stays_of, progress_of, moved_by}
use Rattle.unit_ticking.specs.Ticking.{sampled_by}
use Rattle.unit_measuring.specs.Hearing.{hears}
use Rattle.unit.proofs.Fair.{steering, Fair, fair-heard, fair-announce, fair-request, fair-sent, fair-time}
use Rattle.unit.specs.declared.Unit.{Unit}
use Rattle.unit.specs.Receiving.{receives, table_by}
use Rattle.unit.specs.Calls.{effect_of, stepped_with, stepped_after, applied, unit_effect, unit_table, step_of}

-- a pulse takes a sample, or wipes: the watch's laws speak of it
abbrev pub Fairly : ℕ → Call → Effect → Type 0
Fairly most (Receive now arrival m) e = Fair most e
Fairly most (Request now room) e = Fair most e
Fairly most (Sent now sequence t3) e = Fair most e
Fairly most (Time now) e = Fair most e
Fairly most Reset e = Fair most e
Fairly most (Tick reference clock) e = ◌≡◌ {A = ℕ} 0 0
Fairly most Line e = Fair most e
Fairly most Show e = Fair most e

module _ (s : Settings) (k : Stays) (r : Progress) (t : Table) (most : ℕ) (limit : up s.limit.0 ≤ most) (within : steering r ≤ most) where
  fair-kind : (now : ℕ) (arrival : Stamp) (h : Header) (b : Body) → Fair most (receives s k r t now arrival h b)
  fair-kind now arrival h (bodies.Announce stamp offer) = fair-announce s k r most limit within t now (record { header = h; stamp = stamp; offer = offer })
  fair-kind now arrival h (bodies.DelayReq stamp) = fair-heard s k r most limit within now arrival h (bodies.DelayReq stamp)
  fair-kind now arrival h (bodies.Sync t1) = fair-heard s k r most limit within now arrival h (bodies.Sync t1)
  fair-kind now arrival h (bodies.FollowUp t1) = fair-heard s k r most limit within now arrival h (bodies.FollowUp t1)
  fair-kind now arrival h (bodies.DelayResp t4 requester) = fair-heard s k r most limit within now arrival h (bodies.DelayResp t4 requester)

  pub fair-call : (count : ℕ) (pulse : ℤ → ℤ → Outcome) (line : Drift) (call : Call) → Fairly most call (effect_of s k r t count pulse line call)
  fair-call count pulse line (Receive now arrival m) = fair-kind now arrival m.header m.body
  fair-call count pulse line (Request now room) = fair-request s k r most limit within now room
  fair-call count pulse line (Sent now sequence t3) = fair-sent s k r most limit within now sequence t3
  fair-call count pulse line (Time now) = fair-time s k r most limit within t now
  fair-call count pulse line Reset = (refl, refl)
  fair-call count pulse line (Tick reference clock) = refl
  fair-call count pulse (Err n) Line = refl
  fair-call count pulse (Ok line) Line = refl
  fair-call count pulse line Show = refl

module _ (c : Unit) where
  -- a bound that any unit keeps
  pub most : ℕ
  most = up c.core.settings.limit.0 + steering (progress_of c.core c.servo)

  pub fair : (call : Call) → Fairly most call (unit_effect c call)
  unfolding most
  fair call = fair-call c.core.settings (stays_of c.core) (progress_of c.core c.servo) c.table most (omega arith) (omega arith) _ _ _ call

  put : (t : Table) (e : Effect) → Fair most e
      → stepped_with (moved_by c.core c.servo e) t (cond (moved_by c.core c.servo e).wipes fresh_watch c.watch) ≡ applied c t e
  put t (keeps a) f = refl
  put t (goes a k r) f = refl
  put t (takes origin x) f = absurd f
  put t (wipes a k) f = refl

  pub put-call : (call : Call) → Fair most (unit_effect c call)
      → stepped_with (moved_by c.core c.servo (unit_effect c call)) (unit_table c call) (cond (moved_by c.core c.servo (unit_effect c call)).wipes fresh_watch c.watch) ≡ step_of c call
  put-call call f = put (unit_table c call) (unit_effect c call) f

  -- a message of any kind but the Announce
  pub put-heard : (now : ℕ) (arrival : Stamp) (h : Header) (b : Body) → ((stamp : Stamp) (offer : Offer) → b ≡ bodies.Announce stamp offer → ⊥)
      → stepped_after c (moved_by c.core c.servo (hears c.core.settings (stays_of c.core) (progress_of c.core c.servo) now arrival h b))
      ≡ applied c (table_by c.core.settings (stays_of c.core) c.table now h b) (receives c.core.settings (stays_of c.core) (progress_of c.core c.servo) c.table now arrival h b)
  put-heard now arrival h (bodies.Announce stamp offer) o = absurd (o stamp offer refl)
  put-heard now arrival h (bodies.DelayReq stamp) o = let call = Receive now arrival (record { header = h; body = bodies.DelayReq stamp }) in put-call call (fair call)
  put-heard now arrival h (bodies.Sync t1) o = let call = Receive now arrival (record { header = h; body = bodies.Sync t1 }) in put-call call (fair call)
  put-heard now arrival h (bodies.FollowUp t1) o = let call = Receive now arrival (record { header = h; body = bodies.FollowUp t1 }) in put-call call (fair call)
  put-heard now arrival h (bodies.DelayResp t4 requester) o = let call = Receive now arrival (record { header = h; body = bodies.DelayResp t4 requester }) in put-call call (fair call)

  -- a pulse has left its watch already, and a wipe leaves it fresh
  pub put-pulse : (e : Effect) → stepped_after (record { core = c.core; servo = c.servo; table = c.table; watch = sampled_by c.core.settings.watch c.watch e }) (moved_by c.core c.servo e) ≡ applied c c.table e
  put-pulse (keeps a) = refl
  put-pulse (goes a k r) = refl
  put-pulse (takes origin x) = refl
  put-pulse (wipes a k) = refl
