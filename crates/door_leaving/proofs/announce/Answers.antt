-- `announce` meets its contract: what is stored and chosen is what an Announce leaves.
use Rattle.std.proofs.Common.{◌∙◌, sym, ap, set}
use Rattle.door_loop.specs.Lending.{Lent}
use Rattle.door_loop.proofs.Ways.{held-left, announce-seated, announce-refused}
use Rattle.door_leaving.proofs.announce.Goals as goal

pub returns-in-Ok : goal.returns-in-Ok
returns-in-Ok c =
    let w = c.args.unit.now in
    let v = c.args.servo.now in
    let t = c.args.table.now in
    let y = c.args.watch.now in
    let q = c.in-Ok.seated in
    let h = c.hold.ensures in
    let e =
    held-left w v (set t q.at q.stored) y q.held (h.1, h.2, h.3, h.0)
    ∙ announce-seated w v t y c.args.m c.args.time q (sym c.in-Ok.is ∙ c.announce.ensures.value)
    in
    (ap (λ (l : Lent). l.answer) e, ap (λ (l : Lent). l.unit) e, ap (λ (l : Lent). l.servo) e, ap (λ (l : Lent). l.table) e, ap (λ (l : Lent). l.watch) e)

pub returns-in-Err : goal.returns-in-Err
returns-in-Err c =
    let w = c.args.unit.now in
    let e =
    announce-refused w c.args.servo.now c.args.table.now c.args.watch.now c.args.m c.args.time
    c.in-Err.refusal (sym c.in-Err.is ∙ c.announce.ensures.value)
    in
    (c.into.ensures ∙ ap (λ (l : Lent). l.answer) e, ap (λ (l : Lent). l.unit) e, ap (λ (l : Lent). l.servo) e, ap (λ (l : Lent). l.table) e, ap (λ (l : Lent). l.watch) e)
