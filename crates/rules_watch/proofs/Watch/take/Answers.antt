-- `take` meets its contract: it does what the outcome says.
use Rattle.std.specs.Prelude.{Ok}
use Rattle.std.proofs.Common.{rules, ◌≡◌, sym, ap, ◌∙◌, ℤ, w64}
use mir.Val.{SFits}
use Rattle.numbers.proofs.Integers.{back}
use Rattle.rules_watch.specs.declared.settings.WatchSettings.{WatchSettings}
use Rattle.rules_watch.specs.declared.Watch.{Watch}
use Rattle.rules_watch.specs.declared.judging.Judged.TheVariants.{Wipe, Take}
use Rattle.rules_watch.specs.Rules.{Outcome, outcome}
use Rattle.rules_watch.specs.Watch.{taken_by, taken_of}
use Rattle.rules_watch.specs.Inner.{latest, latest_of}
use Rattle.rules_watch.proofs.Outcomes.{told-latest}
use Rattle.rules_watch.proofs.Watch.take.Goals as goal

-- the outcome that `judge` says, of the sample taken last, is that of what is held
judged : (t : WatchSettings) (w : Watch) (reference clock : ℤ) (o : Outcome) → o ≡ outcome t (latest w.head.origin (latest_of w)) reference clock → taken_by t w o ≡ taken_of t w reference clock
judged t w reference clock o e = ap (taken_by t w) (e ∙ sym (told-latest t w reference clock))

pub returns-in-Wipe : goal.returns-in-Wipe
returns-in-Wipe c =
    let a = c.args in
    let f : SFits w64 a.self.now.head.origin = search rules in
    let e = rw (back c.ranges.reference, back c.ranges.clock, back f, c.latest-last.ensures) at c.judge.ensures in
    let x = judged a.settings a.self.now a.reference a.clock (Ok (Wipe c.in-Wipe.pulse)) (sym (c.in_ok-pulse.was ∙ ap Ok c.in-Wipe.is) ∙ e) in
    record { answer = ap (λ y. y.answer) x; watch = ap (λ y. y.watch) x }

pub returns-in-Take : goal.returns-in-Take
returns-in-Take c =
    let a = c.args in
    let f : SFits w64 a.self.now.head.origin = search rules in
    let o : SFits w64 c.in-Take.origin = search rules in
    let e = rw (back c.ranges.reference, back c.ranges.clock, back f, c.latest-last.ensures) at c.judge.ensures in
    let x = judged a.settings a.self.now a.reference a.clock (Ok (Take c.in-Take.origin c.in-Take.s)) (sym (c.in_ok-pulse.was ∙ ap Ok c.in-Take.is) ∙ e) in
    record { answer = ap Ok c.take_sample.ensures.answer ∙ ap (λ y. y.answer) x; watch = (rw (back o) at c.take_sample.ensures.watch) ∙ ap (λ y. y.watch) x }
