-- CORRECTION, and then the table's row.
use Rattle.std.specs.Prelude.{Err}
use mathlib.Core.Path.{◌≡◌, sym, ◌∙◌}
use borrow.Author.Rules.{rules}
use Rattle.numbers.proofs.Integers.{back}
use Rattle.rules_exchange.specs.Events.{stamp_taken}
use Rattle.rules_exchange.specs.Table.{sync}
use Rattle.rules_exchange.proofs.Told.{told-barred, told-sync, passed, clauses}
use Rattle.rules_exchange.proofs.Exchange.sync.Goals as goal

pub returns-in_err-correction : goal.returns-in_err-correction
returns-in_err-correction c =
    let n = c.in_err-correction.field-0.0 in
    let e : c.from_residual.result ≡ Err n = search rules in
    let h = rw (back c.ranges.correction) at c.correction.ensures in
    rw e (clauses (told-barred c.args.self.now (sync c.args.two_step c.args.sequence c.args.correction c.args.t1 c.args.t2) n _ h c.in_err-correction.was))

pub returns-then-is_above : goal.returns-then-is_above
unfolding stamp_taken
returns-then-is_above c =
    let h = rw (back c.ranges.correction) at c.correction.ensures in
    let e = told-sync c.args.self.now c.args.two_step c.args.sequence c.args.correction c.args.t1 c.args.t2 (passed _ _ h c.in_ok-correction.was) in
    clauses (sym (e ∙ rw (sym c.is_above.ensures ∙ c.if-is_above.true)))

pub returns : goal.returns
unfolding stamp_taken
returns c =
    let h = rw (back c.ranges.correction) at c.correction.ensures in
    let g = rw (back c.ranges.correction) at c.heard-self.ensures in
    let e = told-sync c.args.self.now c.args.two_step c.args.sequence c.args.correction c.args.t1 c.args.t2 (passed _ _ h c.in_ok-correction.was) in
    rw g (clauses (sym (e ∙ rw (sym c.is_above.ensures ∙ c.if-is_above.false))))
