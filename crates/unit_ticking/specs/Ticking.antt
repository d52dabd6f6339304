-- What the second pulse does, and the answer to `line`.
use Rattle.std.specs.Prelude.{ℕ, Ok, Err}
use Rattle.rules_servo.specs.declared.Servo.{Servo}
use Rattle.rules_watch.specs.declared.settings.WatchSettings.{WatchSettings}
use Rattle.rules_watch.specs.declared.Watch.{Watch}
use Rattle.rules_watch.specs.Rules.{Outcome, Drift}
use Rattle.rules_watch.specs.declared.judging.Judged.TheVariants.{Wipe, Take}
use Rattle.rules_watch.specs.Watch.{sample_taken}
use Rattle.unit_core.specs.declared.Core.{Core}
use Rattle.unit_core.specs.declared.calls.Answer.{Answer}
use Rattle.unit_core.specs.declared.calls.Answer.TheVariants.{Refused, Watch as Watched, Line}
use Rattle.unit_core.specs.Effects.{Stays, Effect, keeps, goes, takes, wipes, moved_by}
use Rattle.unit_ticking.specs.declared.Ticked.{Ticked}

-- a pulse out of range is refused; one that wipes is not taken, and wipes exchange and servo too; any other is taken
abbrev pub ticks : Stays → Outcome → Effect
ticks k (Err n) = keeps (Refused n)
ticks k (Ok (Wipe p)) = wipes (Watched p) k
ticks k (Ok (Take origin x)) = takes origin x

-- the watch with the sample, where one was taken
abbrev pub sampled_by : WatchSettings → Watch → Effect → Watch
sampled_by t w (keeps a) = w
sampled_by t w (goes a k r) = w
sampled_by t w (takes origin x) = (sample_taken t w origin x).watch
sampled_by t w (wipes a k) = w

-- what a pulse leaves; a watch that is wiped is made fresh by whoever holds it
abbrev pub ticked_by : Core → Servo → Watch → Effect → Ticked
ticked_by u v w e = record { watch = sampled_by u.settings.watch w e; moved = moved_by u v e }

-- the line comes with the wipe count
abbrev pub line_by : Drift → ℕ → Answer
line_by (Err n) count = Refused n
line_by (Ok line) count = Line line count
