-- CORRECTION, UNMATCHED, and then the table's row: the measurement, judged as the exact numbers are.
use Rattle.std.specs.Prelude.{Err}
use mathlib.Core.Path.{◌≡◌, sym, ◌∙◌}
use borrow.Author.Rules.{rules}
use mir.Syntax.{w64}
use mir.Val.{SFits}
use Rattle.numbers.proofs.Integers.{back}
use Rattle.rules_exchange.specs.Table.{delay_resp}
use Rattle.rules_exchange.proofs.Judged.{finish-times}
use Rattle.rules_exchange.proofs.Told.{told-barred, told-finished, told-stranger, passed, clauses}
use Rattle.rules_exchange.proofs.Exchange.delay_resp.Goals as goal

pub returns-in_err-correction : goal.returns-in_err-correction
returns-in_err-correction c =
    let n = c.in_err-correction.field-0.0 in
    let e : c.from_residual.result ≡ Err n = search rules in
    let h = rw (back c.ranges.correction) at c.correction.ensures in
    rw e (clauses (told-barred c.args.self.now (delay_resp c.args.sequence c.args.correction c.args.t4 c.args.requester c.args.own) n _ h c.in_err-correction.was))

pub returns-then-not-partners : goal.returns-then-not-partners
returns-then-not-partners c =
    let h = rw (back c.ranges.correction) at c.correction.ensures in
    clauses
    (sym
    (told-stranger c.args.self.now c.args.sequence c.args.correction c.args.t4 c.args.requester c.args.own (passed _ _ h c.in_ok-correction.was)
    (sym c.partners.ensures ∙ c.if-not-partners.true)))

pub returns : goal.returns
returns c =
    let x = c.args.self.now in
    let h = rw (back c.ranges.correction) at c.correction.ensures in
    let f : SFits w64 x.sync.correction = search rules in
    let g : SFits w64 x.sync.follow = search rules in
    let times = rw (back f, back g, back c.ranges.correction) at c.measured-times.ensures in
    clauses
    (c.finish.ensures
    ∙ finish-times x c.measured-times.result x.sync.t1 x.sync.t2 x.sync.correction x.sync.follow x.request.t3 c.args.t4 c.args.correction times
    ∙ sym
    (told-finished x c.args.sequence c.args.correction c.args.t4 c.args.requester c.args.own (passed _ _ h c.in_ok-correction.was)
    (sym c.partners.ensures ∙ c.if-not-partners.false)))
