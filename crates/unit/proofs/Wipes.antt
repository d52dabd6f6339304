-- An answer says that the unit was wiped exactly where the call wipes.
use mathlib.Core.Path.{◌≡◌, refl}
use mathlib.Core.Bool.{Bool, true, false}
use Rattle.rules_watch.specs.Rules.{pulse_of}
use Rattle.rules_watch.specs.Watch.{since_of}
use Rattle.unit_core.specs.declared.calls.Call.{Call}
use Rattle.unit_core.specs.declared.calls.Call.TheVariants.{Receive, Request, Sent, Time, Reset, Tick, Line, Show}
use Rattle.unit_core.specs.declared.calls.Answer.TheVariants.{Watch as Watched}
use Rattle.unit_core.specs.Effects.{Effect, keeps, goes, takes, wipes, stays_of, moved_by}
use Rattle.unit_core.specs.Answers.{wipes_of}
use Rattle.unit_ticking.specs.Ticking.{ticks}
use Rattle.unit_ticking.proofs.Pulses.{every-outcome}
use Rattle.unit.specs.declared.Unit.{Unit}
use Rattle.unit.specs.Calls.{unit_effect, step_of}
use Rattle.unit.specs.Machine.{is_wipe}
use Rattle.unit.proofs.Fair.{Fair}
use Rattle.unit.proofs.Fairly.{most, fair}

module _ (c : Unit) where
  abbrev Says : Effect → Type 0
  Says e = wipes_of (moved_by c.core c.servo e).answer ≡ is_wipe e

  by-fair : (e : Effect) → Fair (most c) e → Says e
  by-fair (keeps a) f = f
  by-fair (goes a k r) f = f.1.0
  by-fair (takes origin x) f = absurd f
  by-fair (wipes a k) f = f.1

  marked : (b : Bool) → wipes_of (Watched (pulse_of b)) ≡ false
  marked true = refl
  marked false = refl

  by_call : (call : Call) → Fair (most c) (unit_effect c call) → Says (unit_effect c call)
  by_call call = by-fair (unit_effect c call)

  pub says-wiped : (call : Call) → wipes_of (step_of c call).answer ≡ is_wipe (unit_effect c call)
  says-wiped (Receive now arrival m) = by_call (Receive now arrival m) (fair c (Receive now arrival m))
  says-wiped (Request now room) = by_call (Request now room) (fair c (Request now room))
  says-wiped (Sent now sequence t3) = by_call (Sent now sequence t3) (fair c (Sent now sequence t3))
  says-wiped (Time now) = by_call (Time now) (fair c (Time now))
  says-wiped Reset = by_call Reset (fair c Reset)
  says-wiped (Tick reference clock) =
      every-outcome (λ o. Says (ticks (stays_of c.core) o)) (λ n. refl) (λ a k. k) (λ origin x. marked x.valid) c.core.settings.watch (since_of c.watch) reference clock
  says-wiped Line = by_call Line (fair c Line)
  says-wiped Show = by_call Show (fair c Show)
