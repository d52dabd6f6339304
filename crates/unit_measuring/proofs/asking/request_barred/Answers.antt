-- What bars a call of the unit's own comes first, and then ROOM.
use Rattle.std.specs.Prelude.{Ok, Err}
use mathlib.Core.Path.{◌≡◌, sym, ◌∙◌}
use borrow.Author.Rules.{rules}
use Rattle.unit_core.specs.Effects.{stays_of}
use Rattle.unit_measuring.specs.Asking.{narrow}
use Rattle.unit_measuring.proofs.Room.{short, long-enough, room-bars}
use Rattle.unit_measuring.proofs.asking.request_barred.Goals as goal

pub returns-in_err-own_barred : goal.returns-in_err-own_barred
returns-in_err-own_barred c =
    let n = c.in_err-own_barred.field-0.0 in
    let e : c.from_residual.result ≡ Err n = search rules in
    e ∙ sym (room-bars (stays_of c.args.core) c.args.now (narrow c.args.room) (Err n) (sym c.in_err-own_barred.was ∙ c.own_barred.ensures))

pub returns-then-room-lt58 : goal.returns-then-room-lt58
returns-then-room-lt58 c =
    sym
    (room-bars (stays_of c.args.core) c.args.now (narrow c.args.room) (Ok tt) (sym c.in_ok-own_barred.was ∙ c.own_barred.ensures)
    ∙ rw (short c.args.room c.if-room-lt58.true))

pub returns : goal.returns
returns c =
    sym
    (room-bars (stays_of c.args.core) c.args.now (narrow c.args.room) (Ok tt) (sym c.in_ok-own_barred.was ∙ c.own_barred.ensures)
    ∙ rw (long-enough c.args.room c.if-room-lt58.false))
