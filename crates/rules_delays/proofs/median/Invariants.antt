-- Where `median` has come to a place, the search from there on finds the lower middle.
use Rattle.std.proofs.Common.{◌≡◌, drop}
use Rattle.rules_delays.specs.Median.{first_middling, lower_middle}
use Rattle.rules_delays.proofs.median.Given as goal

abbrev pub invariant-loop-x : goal.invariant-loop-x
invariant-loop-x l = first_middling l.held (drop l.x-index l.held) ≡ lower_middle l.held
