-- At `at` the walk has still to find out what the rest is, and each TLV leaves less of it.
use Rattle.std.proofs.Common.{◌-◌, ◌≤◌, length}
use Rattle.wire_layout.proofs.Walk.{Rest}
use Rattle.wire_layout.proofs.suffix.whole.Given as goal

abbrev pub invariant-loop-n : goal.invariant-loop-n
invariant-loop-n l = (l.at ≤ length l.t) × Rest l.t l.at

abbrev pub decreases-loop-n : goal.decreases-loop-n
decreases-loop-n l = length l.t - l.at
