-- Every call: what it does, told from what stands, and the step of the unit.
use Rattle.std.specs.Prelude.{ℕ, cond, ℤ}
use Rattle.numbers.specs.declared.stamp.Stamp.{Stamp}
use Rattle.wire_layout.specs.declared.message.Message.{Message}
use Rattle.rules_masters.specs.declared.table.Table.{Table}
use Rattle.rules_masters.specs.Places.{fresh_table}
use Rattle.rules_watch.specs.declared.settings.WatchSettings.{WatchSettings}
use Rattle.rules_watch.specs.declared.Watch.{Watch}
use Rattle.rules_watch.specs.Rules.{Outcome, Drift}
use Rattle.rules_watch.specs.Rules.{outcome}
use Rattle.rules_watch.specs.Watch.{fresh_watch, since_of, watch_line}
use Rattle.rules_settings.specs.declared.Settings.{Settings}
use Rattle.unit_core.specs.declared.Moved.{Moved}
use Rattle.unit_core.specs.declared.calls.Call.{Call}
use Rattle.unit_core.specs.declared.calls.Call.TheVariants.{Receive, Request, Sent, Time, Reset, Tick, Line, Show}
use Rattle.unit_core.specs.declared.calls.Answer.TheVariants.{Wiped, Shows}
use Rattle.unit_core.specs.Wipe.{restored_servo, fresh_core}
use Rattle.unit_core.specs.Effects.{Stays, Progress, Effect, keeps, goes, takes, wipes, unlocked, stays_of, progress_of, moved_by}
use Rattle.unit_choosing.specs.Choosing.{time_passes}
use Rattle.unit_measuring.specs.Asking.{requests, sends}
use Rattle.unit_ticking.specs.Ticking.{ticks, sampled_by, line_by}
use Rattle.unit_core.specs.Showing.{shows_of}
use Rattle.unit.specs.Receiving.{receives, table_by}
use Rattle.unit.specs.declared.Unit.{Unit}
use Rattle.unit.specs.declared.Stepped.{Stepped}

-- what a call does where k stays, r is the progress, t is the table and so many wipes were counted, `pulse` being what the samples since the wipe make of a
-- pulse, and `line` their line
abbrev pub effect_of : Settings → Stays → Progress → Table → ℕ → (ℤ → ℤ → Outcome) → Drift → Call → Effect
effect_of s k r t count pulse line (Receive now arrival m) = receives s k r t now arrival m.header m.body
effect_of s k r t count pulse line (Request now room) = requests s k r now room
effect_of s k r t count pulse line (Sent now sequence t3) = sends s k r now sequence t3
effect_of s k r t count pulse line (Time now) = time_passes s k r t now
effect_of s k r t count pulse line Reset = wipes Wiped (unlocked k)
effect_of s k r t count pulse line (Tick reference clock) = ticks k (pulse reference clock)
effect_of s k r t count pulse line Line = keeps (line_by line count)
effect_of s k r t count pulse line Show = keeps (Shows (shows_of k r count))

abbrev pub table_after : Settings → Stays → Table → Call → Table
table_after s k t (Receive now arrival m) = table_by s k t now m.header m.body
table_after s k t (Request now room) = t
table_after s k t (Sent now sequence t3) = t
table_after s k t (Time now) = t
table_after s k t Reset = t
table_after s k t (Tick reference clock) = t
table_after s k t Line = t
table_after s k t Show = t

-- ---- the unit
-- a fresh unit (rule 10.12): all that a wipe empties is fresh, and so are table, master, now, wipe count and sequenceId
abbrev pub fresh_unit : Settings → Unit
fresh_unit s = record { core = fresh_core s; servo = restored_servo s; table = fresh_table; watch = fresh_watch }

-- core and servo as a call left them, with this table and this watch
abbrev pub stepped_with : Moved → Table → Watch → Stepped
stepped_with m t w = record { answer = m.answer; unit = record { core = m.core; servo = m.servo; table = t; watch = w } }

abbrev pub stepped_after : Unit → Moved → Stepped
stepped_after c m = stepped_with m c.table (cond m.wipes fresh_watch c.watch)

-- the watch after an effect: a wipe makes it fresh
abbrev pub watch_by : WatchSettings → Watch → Effect → Watch
watch_by t w (keeps a) = w
watch_by t w (goes a k r) = w
watch_by t w (takes origin x) = sampled_by t w (takes origin x)
watch_by t w (wipes a k) = fresh_watch

-- after an effect, with the table after it
abbrev pub applied : Unit → Table → Effect → Stepped
applied c t e = stepped_with (moved_by c.core c.servo e) t (watch_by c.core.settings.watch c.watch e)

abbrev pub receive_of : Unit → ℕ → Stamp → Message → Stepped
receive_of c now arrival m =
    applied c (table_by c.core.settings (stays_of c.core) c.table now m.header m.body)
    (receives c.core.settings (stays_of c.core) (progress_of c.core c.servo) c.table now arrival m.header m.body)

abbrev pub unit_effect : Unit → Call → Effect
unit_effect c call =
    effect_of c.core.settings (stays_of c.core) (progress_of c.core c.servo) c.table c.core.domain.wipes
    (outcome c.core.settings.watch (since_of c.watch)) (watch_line c.core.settings.watch c.watch) call

abbrev pub unit_table : Unit → Call → Table
unit_table c call = table_after c.core.settings (stays_of c.core) c.table call

abbrev pub step_of : Unit → Call → Stepped
step_of c call = applied c (unit_table c call) (unit_effect c call)
