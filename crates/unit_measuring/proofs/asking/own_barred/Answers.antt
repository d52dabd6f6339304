-- What bars any call comes first, and then NOT_MASTER.
use Rattle.std.specs.Prelude.{Ok, Err}
use mathlib.Core.Path.{◌≡◌, sym, ◌∙◌}
use borrow.Author.Rules.{rules}
use Rattle.unit_core.specs.Effects.{stays_of}
use Rattle.unit_measuring.proofs.Barring.{own-bars}
use Rattle.unit_measuring.proofs.asking.own_barred.Goals as goal

pub returns-in_err-barred : goal.returns-in_err-barred
returns-in_err-barred c =
    let n = c.in_err-barred.field-0.0 in
    let e : c.from_residual.result ≡ Err n = search rules in
    e ∙ sym (own-bars (stays_of c.args.core) c.args.now c.args.field (Err n) (sym c.in_err-barred.was ∙ c.barred.ensures))

pub returns : goal.returns
returns c = sym (own-bars (stays_of c.args.core) c.args.now c.args.field (Ok tt) (sym c.in_ok-barred.was ∙ c.barred.ensures) ∙ rw c.if-core.false)
