-- CORRECTION, UNMATCHED, and then the table's row.
use Rattle.std.specs.Prelude.{Err}
use mathlib.Core.Path.{◌≡◌, sym, ◌∙◌}
use borrow.Author.Rules.{rules}
use Rattle.numbers.proofs.Integers.{back}
use Rattle.rules_exchange.specs.Halves.{request_half, sync_half}
use Rattle.rules_exchange.specs.Table.{follow_up}
use Rattle.rules_exchange.proofs.Told.{told-barred, told-row, told-paired, follow-none, passed, clauses}
use Rattle.rules_exchange.proofs.Exchange.follow_up.Goals as goal

pub returns-in_err-correction : goal.returns-in_err-correction
returns-in_err-correction c =
    let n = c.in_err-correction.field-0.0 in
    let e : c.from_residual.result ≡ Err n = search rules in
    let h = rw (back c.ranges.correction) at c.correction.ensures in
    rw e (clauses (told-barred c.args.self.now (follow_up c.args.sequence c.args.correction c.args.t1) n _ h c.in_err-correction.was))

pub returns-then-not-waits_for : goal.returns-then-not-waits_for
returns-then-not-waits_for c =
    let x = c.args.self.now in
    let h = rw (back c.ranges.correction) at c.correction.ensures in
    clauses
    (sym
    (told-row x (follow_up c.args.sequence c.args.correction c.args.t1) _ (passed _ _ h c.in_ok-correction.was)
    (follow-none (sync_half x.sync) (request_half x.request) c.args.sequence c.args.correction c.args.t1 (sym c.waits_for.ensures ∙ c.if-not-waits_for.true))))

pub returns : goal.returns
returns c =
    let h = rw (back c.ranges.correction) at c.correction.ensures in
    rw (back c.ranges.correction)
    (clauses
    (told-paired c.args.self.now c.args.sequence c.args.correction c.args.t1 (passed _ _ h c.in_ok-correction.was) (sym c.waits_for.ensures ∙ c.if-not-waits_for.false)))
