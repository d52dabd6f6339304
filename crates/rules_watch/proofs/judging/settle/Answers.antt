-- `settle` meets its contract: how far y and the interval have moved are read without a wrap.
use mathlib.Core.Path.{◌≡◌, ap, ◌∙◌}
use mathlib.Core.List.{[], ◌∷◌}
use native.Mathlib.Omega.{arith}
use borrow.Author.Rules.{rules}
use borrow.Author.Tests.{le-ltb}
use lib.IntN.{pos, nat_abs, ◌-ℤ◌}
use mir.Syntax.{w32, w64}
use mir.Val.{SFits}
use mir.Facts.{to_z-of_z}
use Rattle.numbers.proofs.Integers.{back, fits→, int}
use Rattle.numbers.proofs.Ring.{v, k, ◌⊖◌, ring, fits_by}
use Rattle.rules_watch.specs.Rules.{apart}
use Rattle.rules_watch.proofs.judging.settle.Goals as goal

pub returns : goal.returns
returns c =
    let y = c.ranges.y in
    let x : SFits w32 c.args.previous.y = search rules in
    let r : SFits w64 c.args.previous.reference = search rules in
    let h = c.requires in
    let earlier : SFits w64 (c.args.reference -ℤ pos 1_000_000_000) = fits_by (v 0 ⊖ k (pos 1_000_000_000)) (c.args.reference ∷ []) (omega (int, fits→ c.ranges.reference)) in
    let moved : c.abs_diff-moved.result ≡ apart c.args.y c.args.previous.y = rw (to_z-of_z y, to_z-of_z x) at c.abs_diff-moved.ensures in
    let late : c.abs_diff-late.result ≡ apart (c.args.reference -ℤ c.args.previous.reference) (pos 1_000_000_000) =
    (rw (back c.ranges.reference, back earlier, back r) at c.abs_diff-late.ensures)
    ∙ ap nat_abs (ring (v 0 ⊖ k (pos 1_000_000_000) ⊖ v 1) (v 0 ⊖ v 1 ⊖ k (pos 1_000_000_000)) (c.args.reference ∷ c.args.previous.reference ∷ []) tt) in
    rw (le-ltb c.args.settings.jump (apart c.args.y c.args.previous.y) (omega (arith, moved, c.if-settings-moved.false)), back c.ranges.origin, back c.ranges.reference, to_z-of_z y, c.calm-valid.ensures, late, moved)
