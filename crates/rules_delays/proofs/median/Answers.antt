-- `median` takes the first that is in the lower middle.
use Rattle.std.proofs.Common.{rules, arith, ◌≡◌, sym, ◌∙◌, ap, take, length}
use Rattle.std.proofs.lemmas.List.{take_min}
use Rattle.rules_delays.specs.Median.{lower_middle}
use Rattle.rules_delays.proofs.Counts.{first-hit, first-miss, first-end}
use Rattle.rules_delays.proofs.median.Goals as goal

pub returns-then-is_middle : goal.returns-then-is_middle
returns-then-is_middle c =
    let held = take c.min.result c.args.five in
    let five : length c.args.five ≡ 5 = search rules in
    sym (first-hit held c.loop-x.x-index (omega arith) (sym c.is_middle.ensures ∙ c.if-is_middle.true)) ∙ c.loop-x.invariant
    ∙ ap lower_middle (rw (c.min.ensures, c.from.ensures) (rw five at (take_min c.args.count c.args.five)))

pub loop-x-preserved : goal.loop-x-preserved
loop-x-preserved c =
    let held = take c.min.result c.args.five in
    sym (first-miss held c.loop-x.x-index (omega arith) (sym c.is_middle.ensures ∙ c.if-is_middle.false)) ∙ c.loop-x.invariant

pub returns : goal.returns
returns c =
    let held = take c.min.result c.args.five in
    let five : length c.args.five ≡ 5 = search rules in
    sym (first-end held c.loop-x.x-index (omega arith)) ∙ c.loop-x.invariant
    ∙ ap lower_middle (rw (c.min.ensures, c.from.ensures) (rw five at (take_min c.args.count c.args.five)))
