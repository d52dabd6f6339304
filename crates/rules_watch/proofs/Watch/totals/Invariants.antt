-- In a turn the totals so far with what is left of the window are those of the whole window.
use Rattle.std.proofs.Common.{◌≡◌, drop}
use Rattle.rules_watch.specs.Watch.{samples_in}
use Rattle.rules_watch.specs.Inner.{no_totals, Over}
use Rattle.rules_watch.proofs.Sums.{sum_from}
use Rattle.rules_watch.proofs.Watch.totals.Given as goal

abbrev pub invariant-loop-k : goal.invariant-loop-k
invariant-loop-k l =
    record {
      over : Over l.k l.sum;
      sums : sum_from l.k l.sum (drop l.k (samples_in l.self)) ≡ sum_from 0 no_totals (samples_in l.self);
    }
