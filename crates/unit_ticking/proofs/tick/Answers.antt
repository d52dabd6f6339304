-- `tick` meets its contract: the watch takes the pulse by the rules' outcome, and the unit goes by the watch's answer.
use Rattle.numbers.proofs.Integers.{back}
use Rattle.rules_watch.specs.Watch.{since_of}
use Rattle.unit_ticking.proofs.Pulses.{by-outcome}
use Rattle.unit_ticking.proofs.tick.Goals as goal

pub returns : goal.returns
returns c =
    let a = c.args in
    rw (c.pulsed-moved.ensures, c.take-answer.ensures.answer, c.take-answer.ensures.watch, back c.ranges.reference, back c.ranges.clock)
    (by-outcome a.core a.servo a.watch (since_of a.watch) a.reference a.clock)
