-- What `after` puts in place is what the message's effect says: of an Announce with its table, of any other without.
use Rattle.std.proofs.Common.{◌∙◌}
use Rattle.wire_layout.specs.declared.message.Body.TheVariants.{Announce}
use Rattle.unit_core.specs.declared.calls.Call.TheVariants.{Receive}
use Rattle.unit.proofs.Fairly.{fair, put-call, put-heard}
use Rattle.unit.proofs.Unit.receive.Goals as goal

pub returns-in-Announce : goal.returns-in-Announce
returns-in-Announce c =
    let a = c.args in
    let call = Receive a.now a.arrival (record { header = a.m.header; body = Announce c.in-Announce.stamp c.in-Announce.offer }) in
    rw c.in-Announce.is (c.after.ensures ∙ rw c.announce-seated.ensures (put-call a.self call (fair a.self call)))

pub returns-in_default : goal.returns-in_default
returns-in_default c =
    let a = c.args in
    c.after-in_default.ensures ∙ rw c.heard.ensures (put-heard a.self a.now a.arrival a.m.header a.m.body c.in_default.not-Announce)
