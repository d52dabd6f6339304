-- What a call can do to the unit, and core and servo after it.
use Rattle.std.specs.Prelude.{ℕ, Bool, true, false, ℤ, Ok, Err}
use Rattle.numbers.specs.Grounds.{Ruling}
use Rattle.rules_masters.specs.declared.chosen.Chosen.{Chosen}
use Rattle.rules_exchange.specs.declared.Exchange.{Exchange}
use Rattle.rules_servo.specs.declared.Servo.{Servo}
use Rattle.rules_watch.specs.declared.window.Sample.{Sample}
use Rattle.rules_settings.specs.declared.Settings.{Settings}
use Rattle.unit_core.specs.declared.run.Run.{Run}
use Rattle.unit_core.specs.declared.Core.{Core}
use Rattle.unit_core.specs.declared.Moved.{Moved}
use Rattle.unit_core.specs.declared.calls.Answer.{Answer}
use Rattle.rules_watch.specs.Rules.{pulse_of}
use Rattle.unit_core.specs.declared.calls.Answer.TheVariants.{Refused, Watch as Watched}
use Rattle.unit_core.specs.Wipe.{fresh_run, restored_servo, one_more}

-- what stays through a wipe, beside settings and table (rule 10.9)
pub record Stays : Type 0 where
  pub now : ℕ
  pub chosen : Chosen
  pub faulty : Bool
  pub sequence : ℕ

-- what a wipe empties, but for the samples of the watch: exchange, servo, and the now of the last accepted measurement, if there is one
pub record Progress : Type 0 where
  pub exchange : Exchange
  pub servo : Servo
  pub measured : Bool
  pub at : ℕ

abbrev pub progress_with : Run → Servo → Progress
progress_with r v = record { exchange = r.exchange; servo = v; measured = r.measured; at = r.at }

abbrev pub fresh_progress : Settings → Progress
fresh_progress s = progress_with fresh_run (restored_servo s)

pub data Effect : Type 0 where
  -- nothing changes: a refusal, a line, what is shown
  keeps : Answer → Effect
  -- what stays and the progress become this
  goes : Answer → Stays → Progress → Effect
  -- a sample is taken, and its origin holds
  takes : ℤ → Sample → Effect
  -- a wipe: this stays
  wipes : Answer → Stays → Effect

-- a refusal keeps everything
abbrev pub unless : Ruling → Effect → Effect
unless (Ok _) e = e
unless (Err n) e = keeps (Refused n)

-- the now of an accepted call
abbrev pub with_now : ℕ → Stays → Stays
with_now now k = record { now = now; chosen = k.chosen; faulty = k.faulty; sequence = k.sequence }

-- the operator's reset, which ends FAULTY (rule 10.10)
abbrev pub unlocked : Stays → Stays
unlocked k = record { now = k.now; chosen = k.chosen; faulty = false; sequence = k.sequence }

-- ---- the core: read, ..
abbrev pub stays_of : Core → Stays
stays_of u = record { now = u.now; chosen = u.domain.chosen; faulty = u.domain.faulty; sequence = u.domain.sequence }

abbrev pub progress_of : Core → Servo → Progress
progress_of u v = progress_with u.domain.run v

-- .. and after an effect, with the servo
abbrev pub run_of : Progress → Run
run_of r = record { exchange = r.exchange; measured = r.measured; at = r.at }

abbrev pub core_with : Settings → Stays → Run → ℕ → Core
core_with s k r count =
    record { settings = s; now = k.now; domain = record { chosen = k.chosen; run = r; wipes = count; faulty = k.faulty; sequence = k.sequence } }

-- nothing but the answer
abbrev pub kept_core : Core → Servo → Answer → Moved
kept_core u v a = record { answer = a; wipes = false; core = u; servo = v }

-- the one wipe
abbrev pub wiped_core : Core → Answer → Stays → Moved
wiped_core u a k =
    record { answer = a; wipes = true; core = core_with u.settings k fresh_run (one_more u.domain.wipes); servo = restored_servo u.settings }

abbrev pub moved_by : Core → Servo → Effect → Moved
moved_by u v (keeps a) = kept_core u v a
moved_by u v (goes a k r) = record { answer = a; wipes = false; core = core_with u.settings k (run_of r) u.domain.wipes; servo = r.servo }
moved_by u v (takes origin x) = kept_core u v (Watched (pulse_of x.valid))
moved_by u v (wipes a k) = wiped_core u a k
