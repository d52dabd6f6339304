-- A refusal keeps everything; else the exchange is told of the request.
use mathlib.Core.Path.{sym, ap, ◌∙◌}
use Rattle.rules_exchange.specs.Events.{Answered, tells_of, stamp_taken}
use Rattle.rules_exchange.specs.Table.{row_by}
use Rattle.rules_exchange.proofs.Told.{told-requested}
use Rattle.unit_measuring.specs.Measuring.{by_said}
use Rattle.unit_measuring.specs.Asking.{requests}
use Rattle.unit_measuring.proofs.asking.request.Goals as goal

pub returns-in-Err : goal.returns-in-Err
unfolding requests
returns-in-Err c = rw (sym c.in-Err.ensures) c.refuse.ensures

pub returns-in-Ok : goal.returns-in-Ok
unfolding requests tells_of row_by stamp_taken by_said
returns-in-Ok c =
    let domain = c.args.core.domain in
    let asked = c.request-said in
    let e = ap (λ (a : Answered). a.exchange) (asked.ensures.exchange ∙ told-requested domain.run.exchange domain.sequence) in
    rw (sym c.in-Ok.ensures) (rw (asked.ensures.answer, e) at c.follow.ensures)
