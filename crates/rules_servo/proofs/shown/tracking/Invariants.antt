-- The offsets before x are passed.
use Rattle.rules_servo.proofs.Spreads.{Passed}
use Rattle.rules_servo.proofs.shown.tracking.Given as goal

abbrev pub invariant-loop-x : goal.invariant-loop-x
invariant-loop-x l = Passed l.x-items l.x-index l.sum l.squares
