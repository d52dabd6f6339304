-- A pulse has left its watch already, and a wipe leaves it fresh.
use Rattle.std.proofs.Common.{◌∙◌}
use Rattle.numbers.proofs.Integers.{back}
use Rattle.unit_core.specs.declared.calls.Call.TheVariants.{Tick}
use Rattle.unit.specs.Calls.{unit_effect}
use Rattle.unit.proofs.Fairly.{put-pulse}
use Rattle.unit.proofs.Unit.pulse.Goals as goal

pub returns : goal.returns
returns c =
    let s = c.args.self in
    c.after.ensures ∙ rw (c.tick-ticked.ensures, back c.ranges.reference, back c.ranges.clock) (put-pulse s (unit_effect s (Tick c.args.reference c.args.clock)))
