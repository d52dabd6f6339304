-- No line is given before enough pulses have come after a wipe, whatever came before it.
use Rattle.std.specs.Prelude.{Ok, Err}
use mathlib.Core.Path.{◌≡◌, refl, sym, ap, subst, ◌∙◌}
use mathlib.Core.Logic.{◌⊎◌, inl, inr}
use mathlib.Core.Bool.{Bool, true, false, cond, ◌&&◌}
use mathlib.Core.List.{List, [], ◌∷◌, map}
use Prim.Native.Nat.{ℕ, suc, ◌+◌, ◌≤◌, ◌<◌}
use native.Mathlib.Omega.{arith}
use borrow.Author.Tests.{lt-leb}
use lib.Dec.{leb}
use lib.IntN.{pos}
use lib.ListN.{length, length-drop, length-append}
use Rattle.numbers.specs.declared.refusal.Refusal.TheVariants.{NotReady, Settings as Outside}
use Rattle.numbers.specs.Grounds.{Ruling, answer_by, first_of}
use Rattle.wire_layout.specs.Reading.{Read}
use Rattle.rules_watch.specs.Rules.{Outcome, Drift}
use Rattle.unit_handing.specs.Handing.{Asked}
use Rattle.numbers.specs.declared.stamp.Stamp.{Stamp}
use Rattle.numbers.specs.Orders.{none_due, due_with, of_handing, of_time}
use Rattle.wire_layout.specs.Reading.{read_of}
use Rattle.rules_masters.specs.declared.table.Table.{Table as Masters}
use Rattle.rules_watch.specs.declared.settings.WatchSettings.{WatchSettings}
use Rattle.rules_watch.specs.declared.window.Sample.{Sample}
use Rattle.rules_watch.specs.declared.Watch.{Watch}
use Rattle.rules_watch.specs.declared.judging.Judged.TheVariants.{Wipe, Take}
use Rattle.rules_watch.specs.Settings.{size_of, least_of, wait_of}
use Rattle.rules_watch.specs.Window.{last_n}
use Rattle.rules_watch.specs.Totals.{points, positions, points_of, line_through}
use Rattle.rules_watch.specs.Rules.{Since, fresh_since, since_by, outcome, window_of}
use Rattle.rules_watch.specs.Watch.{fresh_watch, since_of, taken_by, taken_of, next_watch, watch_line}
use Rattle.rules_settings.specs.declared.Settings.{Settings}
use Rattle.rules_watch.proofs.Outcomes.{line-is}
use Rattle.rules_watch.proofs.Story.{Good, fresh-good, same_outcome, good-keeps, next-taken, good-line}
use Rattle.unit_core.specs.declared.calls.Call.{Call}
use Rattle.unit_core.specs.declared.calls.Call.TheVariants.{Receive, Request, Sent, Time, Reset, Tick, Line, Show}
use Rattle.unit_core.specs.declared.calls.Answer.TheVariants as answers
use Rattle.unit_core.specs.Effects.{Stays, Effect, keeps, goes, takes, wipes, stays_of}
use Rattle.unit_ticking.specs.Ticking.{ticks, line_by}
use Rattle.unit.specs.declared.Unit.{Unit}
use Rattle.unit.specs.Calls.{watch_by, applied, unit_effect, unit_table, step_of}
use Rattle.unit_handing.specs.Handing.{Handed, receive, request, sent, time, reset, tick, line, show, is_delay_req, is_stray, message_asked, read_asked, time_asked, asked_of, stepped_by, served_of, served_all}
use Rattle.unit.proofs.Fair.{Fair}
use Rattle.unit.proofs.Fairly.{most, fair}
use Rattle.door_loop.specs.Loop.{Table, counted_in}
use Rattle.demands.specs.Words.{counting, pulses_in, TooFew}

-- of at most k samples since the wipe the watch w tells
pub record Few (t : WatchSettings) (k : ℕ) (w : Watch) : Type 0 where
  pub since : Since
  pub good : Good t since w
  pub few : length since.samples ≤ k

pub few-fresh : (t : WatchSettings) (k : ℕ) → Few t k fresh_watch
few-fresh t k = record { since = fresh_since; good = fresh-good t; few = omega arith }

few-more : {t : WatchSettings} {k : ℕ} {w : Watch} → Few t k w → (n : ℕ) → k ≤ n → Few t n w
few-more f n h = record { since = f.since; good = f.good; few = omega (arith, f.few) }

module _ (t : WatchSettings) (k : ℕ) (w : Watch) (f : Few t k w) where
  few-effect : (n : ℕ) (e : Effect) → Fair n e → Few t k (watch_by t w e)
  few-effect n (keeps a) h = f
  few-effect n (goes a m r) h = f
  few-effect n (takes origin x) h = absurd h
  few-effect n (wipes a m) h = few-fresh t k

  few-outcome : (m : Stays) (o : Outcome) → Good t (since_by f.since o) (next_watch (taken_by t w o)) → Few t (suc k) (watch_by t w (ticks m o))
  few-outcome m (Err n) g = few-more f (suc k) (omega arith)
  few-outcome m (Ok (Wipe p)) g = few-fresh t (suc k)
  few-outcome m (Ok (Take origin x)) g =
      record {
        since = since_by f.since (Ok (Take origin x));
        good = subst (λ (v : Watch). Good t (since_by f.since (Ok (Take origin x))) v) (next-taken t w origin x) g;
        few = omega (arith, f.few, length-append f.since.samples (x ∷ []));
      }

-- ---- one call
abbrev pulsing : Call → ℕ → ℕ
pulsing (Receive now arrival m) n = n
pulsing (Request now room) n = n
pulsing (Sent now sequence t3) n = n
pulsing (Time now) n = n
pulsing Reset n = n
pulsing (Tick reference clock) n = suc n
pulsing Line n = n
pulsing Show n = n

module _ (c : Unit) (k : ℕ) (f : Few c.core.settings.watch k c.watch) where
  abbrev t : WatchSettings
  t = c.core.settings.watch

  few-by : (call : Call) → Fair (most c) (unit_effect c call) → Few t k (step_of c call).unit.watch
  few-by call h = few-effect t k c.watch f (most c) (unit_effect c call) h

  few-call : (call : Call) → Few t (pulsing call k) (step_of c call).unit.watch
  few-call (Receive now arrival m) = few-by (Receive now arrival m) (fair c (Receive now arrival m))
  few-call (Request now room) = few-by (Request now room) (fair c (Request now room))
  few-call (Sent now sequence t3) = few-by (Sent now sequence t3) (fair c (Sent now sequence t3))
  few-call (Time now) = few-by (Time now) (fair c (Time now))
  few-call Reset = few-by Reset (fair c Reset)
  few-call (Tick reference clock) =
      few-outcome t k c.watch f (stays_of c.core) (outcome t (since_of c.watch) reference clock)
      (subst (λ (o : Outcome). Good t (since_by f.since o) (next_watch (taken_of t c.watch reference clock))) (sym (same_outcome f.good reference clock)) (good-keeps f.good reference clock))
  few-call Line = few-by Line (fair c Line)
  few-call Show = few-by Show (fair c Show)

  -- what is barred before the unit is asked changes nothing
  few-ruled : (v : Ruling) (call : Call) → Few t k (step_of c call).unit.watch → Few t k (stepped_by c (answer_by Err (Ok call) v)).unit.watch
  few-ruled (Ok _) call g = g
  few-ruled (Err r) call g = f

  few-read : (lent : ℕ) (r : Read) (now : ℕ) (arrival : Stamp) → Few t k (stepped_by c (read_asked lent r now arrival)).unit.watch
  unfolding message_asked
  few-read lent (Err r) now arrival = f
  few-read lent (Ok (m, part)) now arrival = few-ruled (first_of (of_handing (is_delay_req m.body) (is_stray lent))) (Receive now arrival m) (few-call (Receive now arrival m))

  few-served : (call : Handed ℕ) → Few t (counting call k) (served_of c call).unit.watch
  unfolding served_of asked_of time_asked
  few-served (receive lent octets now arrival) = few-read lent (read_of octets) now arrival
  few-served (request frame now) = few-call (Request now (length frame))
  few-served (sent now sequence t3) = few-call (Sent now sequence t3)
  few-served (time lent now) = few-ruled (first_of (of_time (due_with Outside (is_stray lent) none_due))) (Time now) (few-call (Time now))
  few-served reset = few-call Reset
  few-served (tick reference clock) = few-call (Tick reference clock)
  few-served line = few-call Line
  few-served show = few-call Show

-- the settings are those that were set
settings-by : (c : Unit) (x : Masters) (e : Effect) → (applied c x e).unit.core.settings ≡ c.core.settings
settings-by c x (keeps a) = refl
settings-by c x (goes a k r) = refl
settings-by c x (takes origin y) = refl
settings-by c x (wipes a k) = refl

settings-asked : (c : Unit) (a : Asked) → (stepped_by c a).unit.core.settings ≡ c.core.settings
settings-asked c (Err r) = refl
settings-asked c (Ok call) = settings-by c (unit_table c call) (unit_effect c call)

pub settings-stay : (c : Unit) (call : Handed ℕ) → (served_of c call).unit.core.settings ≡ c.core.settings
unfolding served_of
settings-stay c call = settings-asked c (asked_of call)

settings-all : (c : Unit) (l : List (Handed ℕ)) → (served_all c l).core.settings ≡ c.core.settings
unfolding served_all
settings-all c [] = refl
settings-all c (call ∷ l) = settings-all (served_of c call).unit l ∙ settings-stay c call

-- ---- any list of calls
counting-onto : (call : Handed ℕ) (k n : ℕ) → counting call k + n ≡ k + counting call n
counting-onto (receive lent octets now arrival) k n = refl
counting-onto (request frame now) k n = refl
counting-onto (sent now sequence t3) k n = refl
counting-onto (time lent now) k n = refl
counting-onto reset k n = refl
counting-onto (tick reference clock) k n = omega arith
counting-onto line k n = refl
counting-onto show k n = refl

few-all : (t : WatchSettings) (c : Unit) (k : ℕ) → c.core.settings.watch ≡ t → Few t k c.watch → (l : List (Handed ℕ)) → Few t (k + pulses_in l) (served_all c l).watch
unfolding served_all pulses_in
few-all t c k e f [] = few-more f (k + 0) (omega arith)
few-all t c k e f (call ∷ l) =
    few-more
    (few-all t (served_of c call).unit (counting call k) (ap (λ (s : Settings). s.watch) (settings-stay c call) ∙ e)
    (subst (λ (x : WatchSettings). Few x (counting call k) (served_of c call).unit.watch) e (few-served c k (subst (λ (x : WatchSettings). Few x k c.watch) (sym e) f) call)) l)
    (k + counting call (pulses_in l)) (omega (arith, counting-onto call k (pulses_in l)))

-- ---- and the line
points-few : (xs : List ℕ) (l : List Sample) → length (points xs l) ≤ length l
unfolding points
points-few [] l = omega arith
points-few (x ∷ xs) [] = omega arith
points-few (x ∷ xs) (s ∷ l) = go s.valid (points-few xs l)
  where
    go : (b : Bool) → length (points xs l) ≤ length l → length (cond b (record { x = pos x; y = s.y } ∷ points xs l) (points xs l)) ≤ suc (length l)
    go true h = omega (arith, h)
    go false h = omega (arith, h)

last-few : (n : ℕ) (l : List Sample) → length (last_n n l) ≤ length l
unfolding last_n
last-few n l = simp length-drop (omega arith)

not-due : (a b : Bool) → (a ≡ false) ⊎ (b ≡ false) → (a && b) ≡ false
not-due true true (inl h) = h
not-due true true (inr h) = h
not-due true false h = refl
not-due false b h = refl

module _ (t : WatchSettings) (k : ℕ) (w : Watch) (f : Few t k w) where
  abbrev n : ℕ
  n = length f.since.samples

  abbrev window : List Sample
  window = window_of t f.since.samples

  early : (k < wait_of t) ⊎ (k < least_of t) → (leb (wait_of t) n ≡ false) ⊎ (leb (least_of t) (length (points_of window)) ≡ false)
  early (inl h) = inl (lt-leb (wait_of t) n (omega (arith, f.few, h)))
  early (inr h) =
      inr
      (lt-leb (least_of t) (length (points_of window)) (omega (arith, f.few, h, points-few (positions window) window, last-few (size_of t) f.since.samples)))

  line-early : (k < wait_of t) ⊎ (k < least_of t) → watch_line t w ≡ Err NotReady
  line-early h =
      good-line f.good ∙ line-is t n window
      ∙ ap (λ (b : Bool). cond b (Ok (line_through (points_of window))) (Err NotReady)) (not-due (leb (wait_of t) n) (leb (least_of t) (length (points_of window))) (early h))

-- from a fresh watch, whatever the unit is beside it
waits : (c : Unit) → c.watch ≡ fresh_watch → (l : List (Handed ℕ)) → Few c.core.settings.watch (pulses_in l) (served_all c l).watch
waits c e l =
    few-more (few-all c.core.settings.watch c 0 refl (subst (λ (w : Watch). Few c.core.settings.watch 0 w) (sym e) (few-fresh c.core.settings.watch 0)) l) (pulses_in l) (omega arith)

early-by : (d : Drift) (n : ℕ) → d ≡ Err NotReady → line_by d n ≡ answers.Refused NotReady
early-by d n h = rw h

pub waiting : (c : Unit) → c.watch ≡ fresh_watch → (later : List (Handed ℕ)) → TooFew c.core.settings later
    → (served_of (served_all c later) line).answer ≡ answers.Refused NotReady
unfolding served_of asked_of
waiting c h later k =
    let d = served_all c later in
    early-by (watch_line d.core.settings.watch d.watch) d.core.domain.wipes
    (subst (λ (s : Settings). watch_line s.watch d.watch ≡ Err NotReady) (sym (settings-all c later))
    (line-early c.core.settings.watch (pulses_in later) d.watch (waits c h later) k))

-- the pulses of a list for C
counted-pulse : (call : Handed Table) (n : ℕ) → counting (counted_in call) n ≡ counting call n
counted-pulse (receive t octets now arrival) n = refl
counted-pulse (request frame now) n = refl
counted-pulse (sent now sequence t3) n = refl
counted-pulse (time t now) n = refl
counted-pulse reset n = refl
counted-pulse (tick reference clock) n = refl
counted-pulse line n = refl
counted-pulse show n = refl

pub pulses-counted : (l : List (Handed Table)) → pulses_in (map counted_in l) ≡ pulses_in l
unfolding pulses_in
pulses-counted [] = refl
pulses-counted (call ∷ l) = counted-pulse call (pulses_in (map counted_in l)) ∙ ap (counting call) (pulses-counted l)
