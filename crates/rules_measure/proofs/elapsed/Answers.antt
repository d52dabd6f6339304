-- The span is exact, and the correction is small, so that the nanoseconds stay in range.
use lib.Dec.{lit<}
use Rattle.numbers.proofs.Integers.{back, within-fits}
use Rattle.numbers.specs.Stamps.{lasting}
use Rattle.numbers.proofs.Straight.{var, sub, run, end, ◌▸◌}
use Rattle.rules_measure.proofs.Exact.{less_one}
use Rattle.rules_measure.proofs.elapsed.Goals as goal

pub returns : goal.returns
unfolding lasting
returns c =
    let span = c.difference-span.result in
    let d = c.difference-span.ensures.difference in
    rw (run (d.nanoseconds ▸ c.requires ▸ end) (sub (var 0) (var 1)) tt, back (within-fits d.seconds (lit< tt)))
    (less_one span.seconds span.nanoseconds c.args.correction d.seconds d.nanoseconds c.requires d.exact)
