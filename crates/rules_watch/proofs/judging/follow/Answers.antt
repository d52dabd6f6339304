-- `follow` meets its contract: past RANGE y is below a second.
use mathlib.Core.Path.{◌≡◌}
use mathlib.Core.Bool.{false}
use native.Mathlib.Omega.{arith}
use borrow.Author.Rules.{rules}
use borrow.Author.Tests.{lt-leb}
use lib.IntN.{nat_abs, ◌-ℤ◌}
use lib.Signed.{le_z}
use mir.Syntax.{w32, w64}
use mir.Val.{SFits}
use mir.Facts.{to_z-of_z, sfits_widen}
use Rattle.numbers.proofs.Integers.{back}
use Rattle.rules_watch.proofs.Bounds.{second_fits}
use Rattle.rules_watch.proofs.judging.follow.Goals as goal

pub returns : goal.returns
returns c =
    let y = c.args.offset -ℤ c.args.origin in
    let r : SFits w64 c.args.previous.reference = search rules in
    let later : le_z c.args.reference c.args.previous.reference ≡ false = rw (back c.ranges.reference, back r) at c.if-reference-previous.false in
    let size : c.abs_diff.result ≡ nat_abs y = rw (back c.ranges.offset, back c.ranges.origin) at c.abs_diff.ensures in
    let f : SFits w32 y = second_fits y (omega (arith, size)) in
    rw (later, lt-leb 1_000_000_000 (nat_abs y) (omega (arith, size)))
    (rw (back c.ranges.reference, back c.ranges.offset, back c.ranges.origin, back (sfits_widen tt f), to_z-of_z f) at c.settle.ensures)
