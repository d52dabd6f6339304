-- `sinezhab_tick` meets its contract: it is a pulse, and a stamp is its own number.
use Rattle.numbers.proofs.Integers.{back}
use Rattle.door.proofs.sinezhab_tick.Goals as goal

pub returns : goal.returns
returns c = rw (back c.ranges.reference, back c.ranges.clock) at c.pulse.ensures
