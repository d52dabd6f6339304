-- First what needs no table, then the seat.
use Rattle.std.proofs.Common.{◌∙◌, sym, ap}
use Rattle.std.proofs.lemmas.Result.{err_from_is_err_and}
use Rattle.rules_masters.specs.Admitting.{Admitted}
use Rattle.rules_masters.proofs.Standings.{way-barred, way-seated}
use Rattle.rules_masters.proofs.table.Table.admit.Goals as goal

pub returns-in_err-barred-clause-value : goal.returns-in_err-barred-clause-value
returns-in_err-barred-clause-value c =
    let a = c.args in
    let e = way-barred a.self.now a.announce a.domain a.own a.a a.last a.now c.in_err-barred.field-0.0 (sym c.barred.ensures ∙ c.in_err-barred.was) in
    let p = err_from_is_err_and c.from_residual.result c.from_residual.ensures.1 in
    rw (e, p.1, p.2)

pub returns-in_err-barred-clause-after : goal.returns-in_err-barred-clause-after
returns-in_err-barred-clause-after c =
    let a = c.args in
    rw (way-barred a.self.now a.announce a.domain a.own a.a a.last a.now c.in_err-barred.field-0.0 (sym c.barred.ensures ∙ c.in_err-barred.was))

pub returns-in_err-entry-clause-value : goal.returns-in_err-entry-clause-value
returns-in_err-entry-clause-value c =
    let a = c.args in
    let k = rw (c.standings.ensures, c.of-at.ensures) at c.seat.ensures.value in
    let e = way-seated a.self.now a.announce a.domain a.own a.a a.last a.now _ (sym c.barred.ensures ∙ c.in_ok-barred.was) (sym c.in_err-entry.was ∙ k) in
    let p = err_from_is_err_and c.from_residual-in_err-entry.result c.from_residual-in_err-entry.ensures.1 in
    rw (e, p.1, p.2)

pub returns-in_err-entry-clause-after : goal.returns-in_err-entry-clause-after
returns-in_err-entry-clause-after c =
    let a = c.args in
    let k = rw (c.standings.ensures, c.of-at.ensures) at c.seat.ensures.value in
    rw (way-seated a.self.now a.announce a.domain a.own a.a a.last a.now _ (sym c.barred.ensures ∙ c.in_ok-barred.was) (sym c.in_err-entry.was ∙ k))

pub returns-in-Renewed-clause-value : goal.returns-in-Renewed-clause-value
returns-in-Renewed-clause-value c =
    let a = c.args in
    let k = rw (c.standings.ensures, c.of-at.ensures) at c.seat.ensures.value in
    let e = way-seated a.self.now a.announce a.domain a.own a.a a.last a.now _ (sym c.barred.ensures ∙ c.in_ok-barred.was) (sym c.in_ok-entry.was ∙ k) in
    let f = rw c.in-Renewed.is at e in
    sym (ap (λ (x : Admitted). x.answer) f)

pub returns-in-Renewed-clause-after : goal.returns-in-Renewed-clause-after
returns-in-Renewed-clause-after c =
    let a = c.args in
    let k = rw (c.standings.ensures, c.of-at.ensures) at c.seat.ensures.value in
    let e = way-seated a.self.now a.announce a.domain a.own a.a a.last a.now _ (sym c.barred.ensures ∙ c.in_ok-barred.was) (sym c.in_ok-entry.was ∙ k) in
    let f = rw c.in-Renewed.is at e in
    rw c.renewed.ensures (sym (ap (λ (x : Admitted). x.table) f))

pub returns-in-Entered-clause-value : goal.returns-in-Entered-clause-value
returns-in-Entered-clause-value c =
    let a = c.args in
    let k = rw (c.standings.ensures, c.of-at.ensures) at c.seat.ensures.value in
    let e = way-seated a.self.now a.announce a.domain a.own a.a a.last a.now _ (sym c.barred.ensures ∙ c.in_ok-barred.was) (sym c.in_ok-entry.was ∙ k) in
    let f = rw c.in-Entered.is at e in
    sym (ap (λ (x : Admitted). x.answer) f)

pub returns-in-Entered-clause-after : goal.returns-in-Entered-clause-after
returns-in-Entered-clause-after c =
    let a = c.args in
    let k = rw (c.standings.ensures, c.of-at.ensures) at c.seat.ensures.value in
    let e = way-seated a.self.now a.announce a.domain a.own a.a a.last a.now _ (sym c.barred.ensures ∙ c.in_ok-barred.was) (sym c.in_ok-entry.was ∙ k) in
    let f = rw c.in-Entered.is at e in
    rw c.entered.ensures (sym (ap (λ (x : Admitted). x.table) f))
