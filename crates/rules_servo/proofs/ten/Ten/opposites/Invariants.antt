-- Those found and those among the offsets that are left are all.
use Rattle.std.proofs.Common.{◌≡◌, ◌+◌, ◌≤◌, drop}
use Rattle.rules_servo.specs.Offsets.{opposites_in}
use Rattle.rules_servo.proofs.ten.Ten.opposites.Given as goal

abbrev pub invariant-loop-i : goal.invariant-loop-i
invariant-loop-i l = (l.found ≤ l.i) × (l.found + opposites_in (drop l.i l.o) ≡ opposites_in l.o)
