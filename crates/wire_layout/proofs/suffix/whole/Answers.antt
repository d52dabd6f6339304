-- `whole` meets its contract: a whole TLV moves the walk on within the suffix, and anything else ends it.
use mathlib.Core.Path.{sym}
use native.Mathlib.Omega.{arith}
use Rattle.wire_layout.proofs.Walk.{start, ends, breaks, fits, next}
use Rattle.wire_layout.proofs.suffix.whole.Goals as goal

pub loop-n-init : goal.loop-n-init
loop-n-init c = (omega arith, start c.args.t.now)

pub overflow_add-at : goal.overflow_add-at
overflow_add-at c = let w = c.in-Whole in omega (arith, fits c.args.t.now c.loop-n.at w.field-0 w.n (sym w.ensures))

pub overflow_add-at-in-Whole : goal.overflow_add-at-in-Whole
overflow_add-at-in-Whole c = let w = c.in-Whole in omega (arith, fits c.args.t.now c.loop-n.at w.field-0 w.n (sym w.ensures))

pub loop-n-smaller : goal.loop-n-smaller
loop-n-smaller c = let w = c.in-Whole in omega (arith, fits c.args.t.now c.loop-n.at w.field-0 w.n (sym w.ensures))

pub loop-n-preserved : goal.loop-n-preserved
loop-n-preserved c =
    let t = c.args.t.now in
    let w = c.in-Whole in
    (fits t c.loop-n.at w.field-0 w.n (sym w.ensures), next t c.loop-n.at w.field-0 w.n c.loop-n.invariant.1 (sym w.ensures))

pub returns-in-End : goal.returns-in-End
returns-in-End c = sym (ends c.args.t.now c.loop-n.at c.loop-n.invariant.1 (sym c.in-End.ensures))

pub returns-in-Broken : goal.returns-in-Broken
returns-in-Broken c = sym (breaks c.args.t.now c.loop-n.at c.loop-n.invariant.1 (sym c.in-Broken.ensures))
