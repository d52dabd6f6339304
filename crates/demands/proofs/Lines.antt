-- The line that is answered: when it is given, and that it is that of the samples in the window.
use Rattle.std.specs.Prelude.{Ok, Err}
use mathlib.Core.Path.{◌≡◌, sym, ap, subst, ◌∙◌}
use mathlib.Core.Bool.{cond}
use mathlib.Core.List.{List, reverse}
use Prim.Native.Nat.{ℕ}
use native.Mathlib.Omega.{arith}
use lib.ListN.{length}
use Rattle.numbers.specs.declared.refusal.Refusal.TheVariants.{NotReady}
use Rattle.rules_watch.specs.declared.totals.Line.{Line as DriftLine}
use Rattle.rules_watch.specs.Rules.{Drift}
use Rattle.rules_watch.specs.Window.{last_n}
use Rattle.rules_watch.specs.Totals.{points_of, line_through}
use Rattle.rules_watch.specs.Lines.{Right}
use Rattle.rules_watch.specs.Rules.{Since, window_of, line_since}
use Rattle.rules_watch.specs.Watch.{samples_in}
use Rattle.rules_watch.proofs.Outcomes.{line-is}
use Rattle.rules_watch.proofs.Lines.{drift-right}
use Rattle.rules_watch.proofs.Story.{good-line}
use Rattle.rules_settings.specs.declared.Settings.{Settings}
use Rattle.rules_settings.specs.declared.Given.{Given}
use Rattle.rules_settings.specs.Ranges.{as_given, settings_of}
use Rattle.rules_settings.proofs.Accepting.{accepted-size, accepted-least, accepted-wait}
use Rattle.unit_core.specs.declared.calls.Answer.TheVariants.{Line}
use Rattle.unit_ticking.specs.Ticking.{line_by}
use Rattle.unit_handing.specs.Handing.{Handed, line, asked_of, served_of}
use Rattle.story.specs.Book.{samples}
use Rattle.story.specs.Saying.{answer}
use Rattle.story.specs.Tale.{book, answer_by_history}
use Rattle.story.proofs.Refines.{past-tells, unit-refines}
use Rattle.demands.specs.Words.{unit_after, taken, window, is_due, wipes_counted}
use Rattle.demands.proofs.Requests.{memory}

line-parts : (d : Drift) (m n : ℕ) (q : DriftLine) → line_by d m ≡ Line q n → (d ≡ Ok q) × (m ≡ n)
line-parts (Err r) m n q e = let z : ◌≡◌ {A = ℕ} 0 1 = cc in absurd (omega arith)
line-parts (Ok l) m n q e = (cc, cc)

module _ (g : Given) (set : settings_of g ≡ Ok (as_given g)) (list : List (Handed ℕ)) where
  abbrev s : Settings
  s = as_given g

  abbrev since : Since
  since = samples s (book s (reverse list))

  abbrev drifts : Drift
  drifts = cond (is_due g list) (Ok (line_through (points_of (window g list)))) (Err NotReady)

  -- what the book answers
  since-told : line_since s.watch since ≡ drifts
  since-told =
      line-is s.watch (length (taken g list)) (window_of s.watch (taken g list))
      ∙ rw (accepted-size g s set, accepted-least g s set, accepted-wait g s set)

  by-book : (served_of (unit_after s list) line).answer ≡ line_by (line_since s.watch since) (wipes_counted g list)
  unfolding answer_by_history asked_of answer
  by-book = unit-refines s list line

  pub line-told : (served_of (unit_after s list) line).answer ≡ line_by drifts (wipes_counted g list)
  line-told = by-book ∙ ap (λ (d : Drift). line_by d (wipes_counted g list)) since-told

  pub right : (q : DriftLine) (n : ℕ) → (served_of (unit_after s list) line).answer ≡ Line q n → Right (window g list) q × (n ≡ wipes_counted g list)
  right q n e =
      let f = line-parts (line_since s.watch since) (wipes_counted g list) n q (sym by-book ∙ e) in
      let m = memory s list in
      let h = (past-tells s list).since in (
        subst (λ (k : ℕ). Right (last_n k (taken g list)) q) (accepted-size g s set)
            (subst (λ (x : Since). Right (window_of s.watch x.samples) q) h (drift-right m.watch q (good-line m.watch ∙ ap (λ (x : Since). line_since s.watch x) h ∙ f.0))),
        sym f.1,
      )

  pub held : samples_in (unit_after s list).watch ≡ window g list
  held =
      (memory s list).watch.holds ∙ ap (λ (x : Since). window_of s.watch x.samples) (past-tells s list).since
      ∙ ap (λ (k : ℕ). last_n k (taken g list)) (accepted-size g s set)
