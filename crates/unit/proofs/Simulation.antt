-- The unit's memory against the machine in the middle: what it tells of it, and that every call keeps it so.
use Rattle.std.specs.Prelude.{Ok, Err}
use mathlib.Core.Path.{◌≡◌, refl, sym, ap, ◌∙◌}
use mathlib.Core.List.{List, [], ◌∷◌, reverse, reverse_aux}
use Prim.Native.Nat.{ℕ, suc, ◌≤◌, ◌%◌, ◌^◌}
use native.Mathlib.Omega.{arith}
use lib.IntN.{ℤ}
use Rattle.numbers.specs.Integers.{up}
use Rattle.rules_masters.specs.declared.table.Table.{Table}
use Rattle.rules_watch.specs.Rules.{Outcome, Drift}
use Rattle.rules_watch.specs.declared.judging.Judged.TheVariants.{Wipe, Take}
use Rattle.rules_watch.specs.Rules.{outcome, line_since, since_by}
use Rattle.rules_watch.specs.Watch.{taken_by, next_watch}
use Rattle.rules_watch.proofs.Story.{Good, fresh-good, same_outcome, good-takes, next-taken, good-keeps, good-line}
use Rattle.rules_settings.specs.declared.Settings.{Settings}
use Rattle.unit_core.specs.declared.calls.Call.{Call}
use Rattle.unit_core.specs.declared.calls.Call.TheVariants.{Receive, Request, Sent, Time, Reset, Tick, Line, Show}
use Rattle.unit_core.specs.declared.calls.Answer.{Answer}
use Rattle.unit_core.specs.declared.calls.Answer.TheVariants.{Refused, Watch as Watched}
use Rattle.unit_core.specs.Wipe.{one_more}
use Rattle.unit_core.specs.Effects.{Stays, Progress, Effect, keeps, goes, takes, wipes, stays_of, progress_of}
use Rattle.unit_ticking.specs.Ticking.{ticks}
use Rattle.unit.proofs.Fair.{steering, Fair}
use Rattle.unit.specs.declared.Unit.{Unit}
use Rattle.unit.specs.Calls.{effect_of, table_after, fresh_unit, applied, unit_effect, unit_table, step_of}
use Rattle.unit.specs.Machine.{Past, fresh_past, effect_after, past_by, past_after, effect_answer, past, answer_after}
use Rattle.unit.proofs.Fairly.{Fairly, fair-call}

-- the unit c tells the past p
pub record Tells (s : Settings) (p : Past) (c : Unit) : Type 0 where
  pub settings : c.core.settings ≡ s
  pub stays : stays_of c.core ≡ p.stays
  pub table : c.table ≡ p.table
  pub progress : progress_of c.core c.servo ≡ p.progress
  pub count : c.core.domain.wipes ≡ p.count % 2 ^ 32
  pub watch : Good s.watch p.since c.watch
  pub within : steering p.progress ≤ up s.limit.0

pub start-told : (s : Settings) → Tells s (fresh_past s) (fresh_unit s)
start-told s = record { settings = refl; stays = refl; table = refl; progress = refl; count = refl; watch = fresh-good s.watch; within = omega arith }

-- ---- what a call does depends on these alone
module _ (call : Call) (o : ℤ → ℤ → Outcome) where
  same-stands : {s t : Settings} {k m : Stays} {r q : Progress} {a b : Table} {i j : ℕ} {d e : Drift} → s ≡ t → k ≡ m → r ≡ q → a ≡ b → i ≡ j → d ≡ e
      → effect_of s k r a i o d call ≡ effect_of t m q b j o e call
  same-stands u v w x y z = rw (u, v, w, x, y, z)

same-pulse : (call : Call) (s : Settings) (k : Stays) (r : Progress) (t : Table) (n : ℕ) (d : Drift) (o u : ℤ → ℤ → Outcome) → ((a b : ℤ) → o a b ≡ u a b)
    → effect_of s k r t n o d call ≡ effect_of s k r t n u d call
same-pulse (Receive now arrival m) s k r t n d o u e = refl
same-pulse (Request now room) s k r t n d o u e = refl
same-pulse (Sent now sequence t3) s k r t n d o u e = refl
same-pulse (Time now) s k r t n d o u e = refl
same-pulse Reset s k r t n d o u e = refl
same-pulse (Tick reference clock) s k r t n d o u e = ap (ticks k) (e reference clock)
same-pulse Line s k r t n d o u e = refl
same-pulse Show s k r t n d o u e = refl

same-seats : (call : Call) {s t : Settings} {k m : Stays} {a b : Table} → s ≡ t → k ≡ m → a ≡ b → table_after s k a call ≡ table_after t m b call
same-seats call u v w = rw (u, v, w)

module _ {s : Settings} {p : Past} {c : Unit} (t : Tells s p c) where
  pub same_effect : (call : Call) → unit_effect c call ≡ effect_after s p call
  same_effect call =
      same-stands call _ t.settings t.stays t.progress t.table t.count (rw t.settings (good-line t.watch))
      ∙ same-pulse call s p.stays p.progress p.table (p.count % 2 ^ 32) (line_since s.watch p.since) _ _
      (λ a b. rw t.settings (same_outcome t.watch a b))

  same-table : (call : Call) → unit_table c call ≡ table_after s p.stays p.table call
  same-table call = same-seats call t.settings t.stays t.table

-- ---- and the unit goes with the story
pub same_answer : (c : Unit) (t : Table) (e : Effect) → (applied c t e).answer ≡ effect_answer e
same_answer c t (keeps a) = refl
same_answer c t (goes a k r) = refl
same_answer c t (takes origin x) = refl
same_answer c t (wipes a k) = refl

counted : (n : ℕ) → one_more (n % 2 ^ 32) ≡ suc n % 2 ^ 32
counted n = omega arith

module _ {s : Settings} {p : Past} {c : Unit} (t : Tells s p c) where
  wiped-told : (x : Table) (a : Answer) (k : Stays) → Tells s (past_by s p x (wipes a k)) (applied c x (wipes a k)).unit
  wiped-told x a k =
      record {
        settings = t.settings;
        stays = refl;
        table = refl;
        progress = rw t.settings;
        count = ap one_more t.count ∙ counted p.count;
        watch = fresh-good s.watch;
        within = omega arith;
      }

  kept-told : (x : Table) (a : Answer) → Tells s (past_by s p x (keeps a)) (applied c x (keeps a)).unit
  kept-told x a =
      record { settings = t.settings; stays = t.stays; table = refl; progress = t.progress; count = t.count; watch = t.watch; within = t.within }

  effect-told : (x : Table) (e : Effect) → Fair (up s.limit.0) e → Tells s (past_by s p x e) (applied c x e).unit
  effect-told x (keeps a) f = kept-told x a
  effect-told x (goes a k r) f =
      record { settings = t.settings; stays = refl; table = refl; progress = refl; count = t.count; watch = t.watch; within = f.1.1 }
  effect-told x (takes origin y) f = absurd f
  effect-told x (wipes a k) f = wiped-told x a k

  pulse-told : (x : Table) (o : Outcome) → Good s.watch (since_by p.since o) (next_watch (taken_by s.watch c.watch o))
      → Tells s (past_by s p x (ticks p.stays o)) (applied c x (ticks p.stays o)).unit
  pulse-told x (Err n) g = kept-told x (Refused n)
  pulse-told x (Ok (Wipe a)) g = wiped-told x (Watched a) p.stays
  pulse-told x (Ok (Take origin y)) g =
      record { settings = t.settings; stays = t.stays; table = refl; progress = t.progress; count = t.count; watch = rw (t.settings, sym (next-taken s.watch c.watch origin y)) g; within = t.within }

  fair : (call : Call) → Fairly (up s.limit.0) call (effect_after s p call)
  fair call = fair-call s p.stays p.progress p.table (up s.limit.0) (omega arith) t.within _ _ _ call

  fairly-told : (call : Call) (x : Table) → Fair (up s.limit.0) (effect_after s p call) → Tells s (past_by s p x (effect_after s p call)) (applied c x (effect_after s p call)).unit
  fairly-told call x = effect-told x (effect_after s p call)

  call-told : (call : Call) (x : Table) → Tells s (past_by s p x (effect_after s p call)) (applied c x (effect_after s p call)).unit
  call-told (Receive now arrival m) x = fairly-told (Receive now arrival m) x (fair (Receive now arrival m))
  call-told (Request now room) x = fairly-told (Request now room) x (fair (Request now room))
  call-told (Sent now sequence t3) x = fairly-told (Sent now sequence t3) x (fair (Sent now sequence t3))
  call-told (Time now) x = fairly-told (Time now) x (fair (Time now))
  call-told Reset x = fairly-told Reset x (fair Reset)
  call-told (Tick reference clock) x =
      pulse-told x (outcome s.watch p.since reference clock)
      (rw (good-takes t.watch reference clock) at (good-keeps t.watch reference clock))
  call-told Line x = fairly-told Line x (fair Line)
  call-told Show x = fairly-told Show x (fair Show)

  -- one call more
  pub step-told : (call : Call) → Tells s (past_after s p call) (step_of c call).unit
  step-told call = rw (same_effect t call, same-table t call) (call-told call (table_after s p.stays p.table call))

  pub step-answers : (call : Call) → (step_of c call).answer ≡ effect_answer (effect_after s p call)
  step-answers call = rw (same_effect t call) (same_answer c (unit_table c call) (effect_after s p call))

-- ---- any list of calls, the oldest first
unfoldable pub played : Unit → List Call → Unit
played c [] = c
played c (call ∷ l) = played (step_of c call).unit l

module _ (s : Settings) where
  play-told : (before : List Call) (c : Unit) → Tells s (past s before) c → (l : List Call) → Tells s (past s (reverse_aux l before)) (played c l)
  unfolding played past
  play-told before c t [] = t
  play-told before c t (call ∷ l) = play-told (call ∷ before) (step_of c call).unit (step-told t call) l

  -- from a fresh unit
  pub all_told : (calls : List Call) → Tells s (past s (reverse calls)) (played (fresh_unit s) calls)
  unfolding past
  all_told calls = play-told [] (fresh_unit s) (start-told s) calls

  pub all-answers : (calls : List Call) (call : Call) → (step_of (played (fresh_unit s) calls) call).answer ≡ answer_after s (reverse calls) call
  unfolding answer_after
  all-answers calls call = step-answers (all_told calls) call
