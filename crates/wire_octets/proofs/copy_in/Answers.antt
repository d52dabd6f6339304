-- One octet more is one step of the pasting.
use Rattle.std.proofs.Common.{add-one, arith}
use lib.Seq.{paste-suc}
use Rattle.wire_octets.proofs.copy_in.Goals as goal

pub loop-j-preserved : goal.loop-j-preserved
loop-j-preserved c =
    let l = c.loop-j in
    (rw (l.invariant.0, add-one) (paste-suc c.args.d.now c.args.at c.args.a.now l.j 0 (omega arith) (omega arith)), omega arith, l.invariant.2)
