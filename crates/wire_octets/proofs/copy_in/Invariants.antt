-- So far the octets before place j of `a` are pasted into `d`, whose length stays.
use Rattle.std.proofs.Common.{length, ◌≡◌, ◌≤◌}
use lib.Seq.{paste}
use Rattle.wire_octets.proofs.copy_in.Given as goal

abbrev pub invariant-loop-j : goal.invariant-loop-j
invariant-loop-j l = (l.d ≡ paste l.fn.d l.at l.a l.j) × (l.j ≤ length l.a) × (l.j-end ≡ length l.a)
