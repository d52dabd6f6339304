-- The parts are added each for itself.
use Rattle.numbers.proofs.Straight.{var, add, run, end, ◌▸◌}
use Rattle.rules_measure.proofs.Exact.{both}
use Rattle.rules_measure.proofs.joined.Goals as goal

pub returns : goal.returns
returns c =
    let a = c.requires.0 in
    let b = c.requires.1 in
    rw (run (a.0 ▸ b.0 ▸ end) (add (var 0) (var 1)) tt, run (a.1 ▸ b.1 ▸ end) (add (var 0) (var 1)) tt)
    (both c.args.a c.args.b a.0 a.1 b.0 b.1)
