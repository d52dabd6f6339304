-- What bars any call comes first, then DOMAIN, then NOT_MASTER.
use Rattle.std.specs.Prelude.{Ok, Err}
use mathlib.Core.Path.{◌≡◌, sym, ◌∙◌}
use borrow.Author.Rules.{rules}
use borrow.Author.Tests.{eq-eqb, ne_eqb}
use Rattle.unit_core.specs.Effects.{stays_of}
use Rattle.unit_measuring.proofs.Barring.{master-bars}
use Rattle.unit_measuring.proofs.hearing.from_master.Goals as goal

pub returns-in_err-barred : goal.returns-in_err-barred
returns-in_err-barred c =
    let core = c.args.core in
    let n = c.in_err-barred.field-0.0 in
    let e : c.from_residual.result ≡ Err n = search rules in
    e ∙ sym (master-bars core.settings (stays_of core) c.args.now c.args.header c.args.field (Err n) (sym c.in_err-barred.was ∙ c.barred.ensures))

pub returns-then-header-core : goal.returns-then-header-core
returns-then-header-core c =
    let core = c.args.core in
    sym
    (master-bars core.settings (stays_of core) c.args.now c.args.header c.args.field (Ok tt) (sym c.in_ok-barred.was ∙ c.barred.ensures)
    ∙ rw (ne_eqb _ _ c.if-header-core.true))

pub returns : goal.returns
returns c =
    let core = c.args.core in
    sym
    (master-bars core.settings (stays_of core) c.args.now c.args.header c.args.field (Ok tt) (sym c.in_ok-barred.was ∙ c.barred.ensures)
    ∙ rw (eq-eqb _ _ c.if-header-core.false, sym c.is_master.ensures ∙ c.if-is_master.false))
