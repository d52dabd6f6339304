-- What the line is: its denominator is above 0, no other line is nearer to the samples, and no f64 is nearer to its slope.
use Rattle.std.specs.Prelude.{Ok, Err}
use mathlib.Core.Path.{◌≡◌, refl, sym, subst, ◌∙◌}
use mathlib.Core.Bool.{Bool, true, false, cond, ◌&&◌}
use mathlib.Core.List.{List, [], ◌∷◌}
use Prim.Native.Nat.{ℕ, suc, ◌+◌, ◌≤◌}
use native.Mathlib.Omega.{arith}
use native.Mathlib.Numerals.{add-one}
use borrow.Author.Tests.{leb-true}
use lib.Dec.{leb}
use Rattle.numbers.specs.declared.refusal.Refusal.TheVariants.{NotReady}
use lib.IntN.{pos, ◌*ℤ◌}
use lib.ListN.{length, length-drop}
use Rattle.rules_fit.specs.Points.{over, slope}
use Rattle.rules_fit.proofs.Least.{count-is, over-above, least-apart}
use Rattle.rules_fit.proofs.Quotient.{rounded-nearest}
use Rattle.rules_watch.specs.declared.settings.WatchSettings.{WatchSettings}
use Rattle.rules_watch.specs.declared.window.Sample.{Sample}
use Rattle.rules_watch.specs.declared.totals.Totals.{Totals}
use Rattle.rules_watch.specs.declared.totals.Line.{Line}
use Rattle.rules_watch.specs.declared.Watch.{Watch}
use Rattle.rules_watch.specs.Settings.{size_of, least_of, wait_of}
use Rattle.rules_watch.specs.Window.{last_n}
use Rattle.rules_watch.specs.Totals.{points_of, line_through}
use Rattle.rules_watch.specs.Lines.{Right}
use Rattle.rules_watch.specs.Inner.{no_totals, with_sample, Over, totals_of}
use Rattle.rules_watch.specs.Rules.{Since, window_of, line_if_due}
use Rattle.rules_watch.specs.Watch.{watch_line}
use Rattle.rules_watch.proofs.Bounds.{second_fits, over_none, over-room, over-sample, slope-below, thousand-above}
use Rattle.rules_watch.proofs.Sums.{sum_from, sum-all}
use Rattle.rules_watch.proofs.Points.{two}
use Rattle.rules_watch.proofs.Outcomes.{line-is}
use Rattle.rules_watch.proofs.Story.{Small, more, small-last, Good}

-- ---- every window's totals lie within their bounds
sum_over : (k : ℕ) (u : Totals) (l : List Sample) → Over k u → Small l → k + length l ≤ 128 → Over 128 (sum_from k u l)
unfolding sum_from
sum_over k u [] o m h = over-room (omega arith) o
sum_over k u (s ∷ l) o (more y m) h = sum_over (suc k) (with_sample k s u) l (rw add-one at (over-sample {x = k} s o (omega arith) (second_fits s.y y))) m (omega arith)

pub window-over : (l : List Sample) → Small l → length l ≤ 128 → Over 128 (totals_of (points_of l))
window-over l m h = rw sum-all at (sum_over 0 no_totals l over_none m (omega arith))

-- ---- the line
through-right : (l : List Sample) → Small l → length l ≤ 128 → 2 ≤ length (points_of l) → Right l (line_through (points_of l))
unfolding over slope
through-right l m h e =
    let w = two l e in
    let a = over-above (points_of l) w in
    record {
      counted = count-is (points_of l);
      above = a;
      nearer = least-apart (points_of l) w;
      nearest = rounded-nearest (slope (points_of l)) (pos 1000 *ℤ over (points_of l)) (slope-below (totals_of (points_of l)) (window-over l m h)) (thousand-above (over (points_of l)) a);
    }

-- whenever a line is given it is right
pub line-right : (t : WatchSettings) (taken : ℕ) (window : List Sample) → Small window → length window ≤ 128 → (q : Line) → line_if_due t taken window ≡ Ok q → Right window q
line-right t taken window m h q e = go (leb (wait_of t) taken) (leb (least_of t) (length (points_of window))) refl (sym (line-is t taken window) ∙ e)
  where
    go : (a b : Bool) → leb (least_of t) (length (points_of window)) ≡ b → cond (a && b) (Ok (line_through (points_of window))) (Err NotReady) ≡ Ok q → Right window q
    go true true p e =
        let f : line_through (points_of window) ≡ q = cc in
        subst (Right window) f (through-right window m h (omega (arith, leb-true (least_of t) (length (points_of window)) p)))
    go true false p e = let z : ◌≡◌ {A = ℕ} 0 1 = cc in absurd (omega arith)
    go false b p e = let z : ◌≡◌ {A = ℕ} 0 1 = cc in absurd (omega arith)

last-length : (n : ℕ) (l : List Sample) → n ≤ 128 → length (last_n n l) ≤ 128
unfolding last_n
last-length n l h = simp length-drop (omega arith)

-- of any watch that a fresh one can become
pub drift-right : {t : WatchSettings} {h : Since} {w : Watch} → Good t h w → (q : Line) → watch_line t w ≡ Ok q → Right (window_of t h.samples) q
drift-right {t} {h} {w} g q e = line-right t w.head.taken (window_of t h.samples) (small-last (size_of t) g.small) (last-length (size_of t) h.samples (omega arith)) q (rw g.holds at e)
