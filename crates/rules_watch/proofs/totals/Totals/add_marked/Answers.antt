-- `Totals::add_marked` meets its contract: one sample more keeps the totals within their bounds.
use mathlib.Core.Path.{◌≡◌}
use borrow.Author.Tests.{ne_eqb}
use mir.Facts.{to_z-of_z}
use lib.IntN.{pos}
use Rattle.rules_watch.specs.Window.{is_valid}
use Rattle.rules_watch.specs.Inner.{with_marked}
use Rattle.rules_watch.proofs.Bounds.{over-sample}
use Rattle.rules_watch.proofs.totals.Totals.add_marked.Goals as goal

pub returns-else-mark-eq0-clause-over : goal.returns-else-mark-eq0-clause-over
returns-else-mark-eq0-clause-over c =
    let a = c.args in
    let e : c.add.result ≡ with_marked a.x.0 a.y a.mark a.self = rw (ne_eqb _ _ c.if-mark-eq0.false) (rw (to_z-of_z c.ranges.y) at c.add.ensures) in
    rw e (over-sample (record { reference = pos 0; y = a.y; valid = is_valid a.mark }) c.requires.1 c.requires.0 c.ranges.y)
