-- The unit's refusals come first, and then the exchange's own.
use mathlib.Core.Path.{refl, sym}
use Rattle.rules_exchange.specs.Table.{sent}
use Rattle.rules_exchange.specs.Events.{field_of}
use Rattle.unit_core.specs.Effects.{stays_of, progress_of, with_now}
use Rattle.unit_measuring.specs.Asking.{sends}
use Rattle.unit_measuring.specs.Barring.{own_due}
use Rattle.unit_measuring.proofs.Barring.{unless-told}
use Rattle.unit_measuring.proofs.asking.sent.Goals as goal

pub returns-in-Err : goal.returns-in-Err
unfolding sends
returns-in-Err c =
    let core = c.args.core in
    rw
    (unless-told core.settings (with_now c.args.now (stays_of core)) (progress_of core c.args.servo) core.domain.run.exchange
    (sent c.args.sequence c.args.t3) (own_due (stays_of core) c.args.now (field_of c.args.t3)) refl refl refl)
    (rw (sym (rw c.field.ensures at c.in-Err.ensures)) c.refuse.ensures)

pub returns-in-Ok : goal.returns-in-Ok
unfolding sends
returns-in-Ok c =
    let core = c.args.core in
    rw
    (unless-told core.settings (with_now c.args.now (stays_of core)) (progress_of core c.args.servo) core.domain.run.exchange
    (sent c.args.sequence c.args.t3) (own_due (stays_of core) c.args.now (field_of c.args.t3)) refl refl refl)
    (rw (sym (rw c.field.ensures at c.in-Ok.ensures)) (rw (c.sent-answer.ensures.answer, c.sent-answer.ensures.exchange) at c.exchanged.ensures))
