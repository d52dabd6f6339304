-- `step` meets its contract: the servo with the offset, halved where its ten swing.
use mathlib.Core.Path.{sym, ◌∙◌}
use mathlib.Core.Bool.{true, false}
use Rattle.rules_servo.specs.Steps.{held_offset, limit_of}
use Rattle.rules_servo.proofs.Steering.{step_of}
use Rattle.rules_servo.proofs.Servo.step.Goals as goal

pub returns-then-swings : goal.returns-then-swings
returns-then-swings c =
    let a = c.args in
    c.halved.ensures ∙ step_of a.self (held_offset a.offset.0) a.k (limit_of a.limit.0) c.steered-steered.result true c.steered-steered.ensures (sym c.if-swings.true ∙ c.swings.ensures)

pub returns-else-swings : goal.returns-else-swings
returns-else-swings c =
    let a = c.args in
    step_of a.self (held_offset a.offset.0) a.k (limit_of a.limit.0) c.steered-steered.result false c.steered-steered.ensures (sym c.if-swings.false ∙ c.swings.ensures)
