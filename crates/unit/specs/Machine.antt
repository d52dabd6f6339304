-- The machine in the middle: the list of calls, the newest first, told by the rules over the core's own records, but with every sample taken since
-- the last wipe in place of the window, and every wipe counted. Nobody has to believe it: the story is told above it, without any record, and this
-- machine is proved to answer as the story does.
use Rattle.std.specs.Prelude.{ℕ, suc, ◌%◌, ◌^◌, Bool, true, false, List, [], ◌∷◌, ◌++◌}
use Rattle.rules_masters.specs.declared.table.Table.{Table}
use Rattle.rules_masters.specs.Places.{fresh_table}
use Rattle.rules_masters.specs.Holding.{fresh_chosen}
use Rattle.rules_watch.specs.declared.window.Sample.{Sample}
use Rattle.rules_watch.specs.Rules.{Since, fresh_since, pulse_of, outcome, window_of, line_since}
use Rattle.rules_settings.specs.declared.Settings.{Settings}
use Rattle.unit_core.specs.declared.calls.Call.{Call}
use Rattle.unit_core.specs.declared.calls.Answer.{Answer}
use Rattle.unit_core.specs.declared.calls.Answer.TheVariants.{Watch as Watched}
use Rattle.unit_core.specs.Effects.{Stays, Progress, fresh_progress, Effect, keeps, goes, takes, wipes}
use Rattle.unit.specs.Calls.{effect_of, table_after}

-- what the calls so far say
pub record Past : Type 0 where
  -- the last accepted now, the last choice, FAULTY, and the sequenceId of the next request
  pub stays : Stays
  -- the table of masters
  pub table : Table
  -- since the last wipe: the exchange, the servo, the last accepted measurement
  pub progress : Progress
  -- since the last wipe: all samples taken, the oldest first, with the origin that their y are counted from
  pub since : Since
  -- how often the unit was wiped
  pub count : ℕ

-- a fresh unit
abbrev pub fresh_past : Settings → Past
fresh_past s =
    record {
      stays = record { now = 0; chosen = fresh_chosen; faulty = false; sequence = 0 };
      table = fresh_table;
      progress = fresh_progress s;
      since = fresh_since;
      count = 0;
    }

-- what this call does, after such a past; the wipe count is shown as a remainder by 2^32
abbrev pub effect_after : Settings → Past → Call → Effect
effect_after s p call =
    effect_of s p.stays p.progress p.table (p.count % 2 ^ 32) (outcome s.watch p.since) (line_since s.watch p.since) call

-- this call wipes
abbrev pub is_wipe : Effect → Bool
is_wipe (keeps a) = false
is_wipe (goes a k r) = false
is_wipe (takes origin x) = false
is_wipe (wipes a k) = true

-- the past with one call more, where t is the table after it
abbrev pub past_by : Settings → Past → Table → Effect → Past
past_by s p t (keeps a) = record { stays = p.stays; table = t; progress = p.progress; since = p.since; count = p.count }
past_by s p t (goes a k r) = record { stays = k; table = t; progress = r; since = p.since; count = p.count }
past_by s p t (takes origin x) =
    record { stays = p.stays; table = t; progress = p.progress; since = record { origin = origin; samples = p.since.samples ++ (x ∷ []) }; count = p.count }
past_by s p t (wipes a k) = record { stays = k; table = t; progress = fresh_progress s; since = fresh_since; count = suc p.count }

abbrev pub past_after : Settings → Past → Call → Past
past_after s p call = past_by s p (table_after s p.stays p.table call) (effect_after s p call)

-- the answer
abbrev pub effect_answer : Effect → Answer
effect_answer (keeps a) = a
effect_answer (goes a k r) = a
effect_answer (takes origin x) = Watched (pulse_of x.valid)
effect_answer (wipes a k) = a

-- ---- the list of calls
unfoldable pub past : Settings → List Call → Past
past s [] = fresh_past s
past s (call ∷ before) = past_after s (past s before) call

-- the answer to a call that comes after those
unfoldable pub answer_after : Settings → List Call → Call → Answer
answer_after s before call = effect_answer (effect_after s (past s before) call)

-- the samples taken since the last wipe, the oldest first, and of them those still in the window
abbrev pub taken : Settings → List Call → List Sample
taken s calls = (past s calls).since.samples

abbrev pub window : Settings → List Call → List Sample
window s calls = window_of s.watch (taken s calls)

abbrev pub wipe_count : Settings → List Call → ℕ
wipe_count s calls = (past s calls).count
