-- What a pulse does: by the watch's answer, as the code goes, and by the rules' outcome, as the story goes.
use Rattle.std.specs.Prelude.{Ok, Err}
use mathlib.Core.Path.{◌≡◌, refl}
use mathlib.Core.Bool.{Bool, true, false, cond}
use lib.IntN.{ℤ}
use Rattle.numbers.specs.declared.refusal.Refusal.{Refusal}
use Rattle.rules_servo.specs.declared.Servo.{Servo}
use Rattle.rules_watch.specs.declared.settings.WatchSettings.{WatchSettings}
use Rattle.rules_watch.specs.declared.window.Sample.{Sample}
use Rattle.rules_watch.specs.declared.Watch.{Watch}
use Rattle.rules_watch.specs.declared.Pulse.{Pulse}
use Rattle.rules_watch.specs.declared.judging.Judged.TheVariants.{Wipe, Take}
use Rattle.rules_watch.specs.Rules.{Outcome, Since, pulse_of, wipes_of, outcome}
use Rattle.rules_watch.specs.Watch.{taken_by}
use Rattle.rules_watch.proofs.Story.{Proper, proper}
use Rattle.unit_core.specs.declared.Core.{Core}
use Rattle.unit_core.specs.declared.calls.Answer.TheVariants.{Watch as Watched}
use Rattle.unit_core.specs.Effects.{stays_of, kept_core, moved_by}
use Rattle.unit_ticking.specs.declared.Ticked.{Ticked}
use Rattle.unit_ticking.specs.Ticking.{ticks, ticked_by}
use Rattle.unit_ticking.specs.Inner.{pulses}

-- what holds of both answers of a test holds of its answer
pub by_test : {A : Type 0} (P : A → Type 0) (b : Bool) {x y : A} → P x → P y → P (cond b x y)
by_test P true p q = p
by_test P false p q = q

-- what holds of a refusal, of every pulse that wipes and of every sample taken holds of every outcome
module _ (P : Outcome → Type 0) (no : (n : Refusal) → P (Err n)) (wipe : (a : Pulse) → wipes_of a ≡ true → P (Ok (Wipe a))) (yes : (origin : ℤ) (x : Sample) → P (Ok (Take origin x))) where
  of-proper : (o : Outcome) → Proper o → P o
  of-proper (Err n) k = no n
  of-proper (Ok (Wipe a)) k = wipe a k
  of-proper (Ok (Take origin x)) k = yes origin x

  pub every-outcome : (t : WatchSettings) (h : Since) (r c : ℤ) → P (outcome t h r c)
  every-outcome t h r c = of-proper (outcome t h r c) (proper t h r c)

-- the unit goes by the outcome, and so does the watch
module _ (u : Core) (v : Servo) (w : Watch) where
  -- by the watch's own answer
  abbrev answered : Outcome → Ticked
  answered o =
      record { watch = (taken_by u.settings.watch w o).watch; moved = moved_by u v (pulses (stays_of u) (taken_by u.settings.watch w o).answer) }

  pub by-outcome : (h : Since) (reference clock : ℤ)
      → answered (outcome u.settings.watch h reference clock) ≡ ticked_by u v w (ticks (stays_of u) (outcome u.settings.watch h reference clock))
  by-outcome h reference clock =
      every-outcome (λ o. answered o ≡ ticked_by u v w (ticks (stays_of u) o)) (λ n. refl) (λ a k. rw k)
      (λ origin x. rw (mark x.valid))
      u.settings.watch h reference clock
    where
      mark : (valid : Bool) → moved_by u v (pulses (stays_of u) (Ok (pulse_of valid))) ≡ kept_core u v (Watched (pulse_of valid))
      mark true = refl
      mark false = refl
