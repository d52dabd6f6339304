-- A message of any kind: the unit's refusals come first, and then what the exchange answers.
use mathlib.Core.Path.{sym}
use Rattle.unit_core.specs.Effects.{stays_of, progress_of}
use Rattle.unit_measuring.proofs.Barring.{heard-by}
use Rattle.unit_measuring.proofs.hearing.heard.Goals as goal

pub returns-in-Err : goal.returns-in-Err
returns-in-Err c =
    let core = c.args.core in
    rw (sym (heard-by core.settings (stays_of core) (progress_of core c.args.servo) c.args.now c.args.t2 c.args.m.header c.args.m.body))
    (rw (sym c.in-Err.ensures) c.refuse.ensures)

pub returns-in-Ok : goal.returns-in-Ok
returns-in-Ok c =
    let core = c.args.core in
    rw (sym (heard-by core.settings (stays_of core) (progress_of core c.args.servo) c.args.now c.args.t2 c.args.m.header c.args.m.body))
    (rw (sym c.in-Ok.ensures) (rw (c.hand-answer.ensures.answer, c.hand-answer.ensures.exchange) at c.exchanged.ensures))
