-- The two calls by their tests, without the list of refusals; and the outcome of a pulse asks for the last sample held alone.
use Rattle.std.specs.Prelude.{Ok, Err, Some, None}
use mathlib.Core.Path.{◌≡◌, refl}
use mathlib.Core.Bool.{Bool, true, false, cond, not, ◌||◌}
use mathlib.Core.List.{List}
use Prim.Native.Nat.{ℕ}
use native.Mathlib.Nat.{pos_of_ne-zero}
use borrow.Author.Tests.{eqb-true, eqb-false}
use lib.Dec.{eqb}
use lib.IntN.{ℤ}
use Rattle.numbers.specs.declared.refusal.Refusal.TheVariants.{Tick, NotReady}
use Rattle.numbers.specs.Grounds.{first_of, answer_by}
use Rattle.numbers.specs.Orders.{of_tick, of_line}
use Rattle.rules_watch.specs.declared.settings.WatchSettings.{WatchSettings}
use Rattle.rules_watch.specs.declared.window.Sample.{Sample}
use Rattle.rules_watch.specs.declared.totals.Line as lines
use Rattle.rules_watch.specs.declared.judging.Judged.{Judged}
use Rattle.rules_watch.specs.declared.Watch.{Watch}
use Rattle.rules_watch.specs.Totals.{points_of, line_through}
use Rattle.rules_watch.specs.Rules.{Since, on_last, outside_of, inside, outcome, due, line_if_due}
use Rattle.rules_watch.specs.Watch.{since_of}
use Rattle.rules_watch.specs.Inner.{newest_in, latest_of, latest}
use Rattle.rules_watch.proofs.Ring.{on-last}
use Rattle.rules_watch.proofs.Places.{watch-none, watch-last}

pub tick-order : (outside : Bool) (j : Judged) → answer_by Err (Ok j) (first_of (of_tick outside)) ≡ cond outside (Err Tick) (Ok j)
unfolding first_of
tick-order true j = refl
tick-order false j = refl

pub line-order : (ready : Bool) (q : lines.Line) → answer_by Err (Ok q) (first_of (of_line (not ready))) ≡ cond ready (Ok q) (Err NotReady)
unfolding first_of
line-order true q = refl
line-order false q = refl

pub outcome-is : (t : WatchSettings) (h : Since) (reference clock : ℤ)
    → outcome t h reference clock ≡ cond (outside_of reference || outside_of clock) (Err Tick) (Ok (inside t h reference clock))
outcome-is t h reference clock = tick-order (outside_of reference || outside_of clock) (inside t h reference clock)

pub line-is : (t : WatchSettings) (taken : ℕ) (window : List Sample) → line_if_due t taken window ≡ cond (due t taken window) (Ok (line_through (points_of window))) (Err NotReady)
line-is t taken window = line-order (due t taken window) (line_through (points_of window))

pub told-latest : (t : WatchSettings) (w : Watch) (reference clock : ℤ) → outcome t (since_of w) reference clock ≡ outcome t (latest w.head.origin (latest_of w)) reference clock
unfolding on_last
told-latest t w reference clock = go (eqb w.head.len 0) refl
  where
    go : (b : Bool) → eqb w.head.len 0 ≡ b → outcome t (since_of w) reference clock ≡ outcome t (latest w.head.origin (cond b None (Some (newest_in w)))) reference clock
    go true e = rw (watch-none w (eqb-true w.head.len 0 e))
    go false e =
        let h = watch-last w (pos_of_ne-zero (eqb-false w.head.len 0 e)) in
        rw (h.1, on-last _ _ h.0 (newest_in w))
