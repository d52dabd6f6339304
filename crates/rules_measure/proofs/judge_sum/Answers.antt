-- NEG and LONG by the two tests; what is left is halved to a delay that fits 32 bits.
use mathlib.Core.Path.{◌≡◌}
use mathlib.Core.Bool.{false}
use borrow.Author.Rules.{rules, sfits_of}
use lib.IntN.{pos}
use lib.Signed.{lt_z}
use mir.Syntax.{w64}
use mir.Val.{SFits}
use Rattle.numbers.proofs.Integers.{back}
use Rattle.numbers.specs.Rounding.{half_to_even}
use Rattle.rules_measure.specs.Measure.{sum_of}
use Rattle.rules_measure.proofs.judge_sum.Goals as goal

pub returns-then-sum-lt0 : goal.returns-then-sum-lt0
unfolding sum_of
returns-then-sum-lt0 c =
    let f : SFits w64 c.args.sum.0 = search rules in
    rw (rw (back f) at c.if-sum-lt0.true)

pub returns-then-sum-gt-LONGEST : goal.returns-then-sum-gt-LONGEST
unfolding sum_of
returns-then-sum-gt-LONGEST c =
    let f : SFits w64 c.args.sum.0 = search rules in
    rw (rw (back f) at c.if-sum-lt0.false, rw (back f) at c.if-sum-gt-LONGEST.true)

pub returns-else-sum-gt-LONGEST : goal.returns-else-sum-gt-LONGEST
unfolding sum_of
returns-else-sum-gt-LONGEST c =
    let f : SFits w64 c.args.sum.0 = search rules in
    let g : SFits w64 c.half.result = sfits_of c.half.type_inv in
    let is : c.half.result ≡ half_to_even 2 c.args.sum.0 = rw (back f) at c.half.ensures.value in
    let not_neg : lt_z c.args.sum.0 (pos 0) ≡ false = rw (back f) at c.if-sum-lt0.false in
    let not_long : lt_z (pos 19999998) c.args.sum.0 ≡ false = rw (back f) at c.if-sum-gt-LONGEST.false in
    rw (back g, is, not_neg, not_long)
