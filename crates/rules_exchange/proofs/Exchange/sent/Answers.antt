-- UNMATCHED, and then the table's row.
use mathlib.Core.Path.{refl, sym, ◌∙◌}
use Rattle.rules_exchange.specs.Events.{stamp_taken}
use Rattle.rules_exchange.specs.Halves.{request_half, sync_half}
use Rattle.rules_exchange.specs.Table.{sent}
use Rattle.rules_exchange.proofs.Told.{told-row, told-stamped, sent-none, clauses}
use Rattle.rules_exchange.proofs.Exchange.sent.Goals as goal

pub returns-then-not-waits_for : goal.returns-then-not-waits_for
returns-then-not-waits_for c =
    let x = c.args.self.now in
    clauses
    (sym
    (told-row x (sent c.args.sequence c.args.t3) _ refl
    (sent-none (sync_half x.sync) (request_half x.request) c.args.sequence c.args.t3 (sym c.waits_for.ensures ∙ c.if-not-waits_for.true))))

pub returns-then-is_above : goal.returns-then-is_above
unfolding stamp_taken
returns-then-is_above c =
    let e = told-stamped c.args.self.now c.args.sequence c.args.t3 (sym c.waits_for.ensures ∙ c.if-not-waits_for.false) in
    clauses (rw (sym c.is_above.ensures ∙ c.if-is_above.true) at e)

pub returns : goal.returns
unfolding stamp_taken
returns c =
    let e = told-stamped c.args.self.now c.args.sequence c.args.t3 (sym c.waits_for.ensures ∙ c.if-not-waits_for.false) in
    clauses (rw (sym c.is_above.ensures ∙ c.if-is_above.false) at e)
