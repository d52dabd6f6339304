-- What `after` puts in place is what the call's effect says.
use Rattle.std.proofs.Common.{◌∙◌, rules}
use mir.Syntax.{w64}
use mir.Val.{SFits}
use Rattle.numbers.proofs.Integers.{back}
use Rattle.unit_core.specs.declared.calls.Call.TheVariants.{Request, Sent, Time}
use Rattle.unit.proofs.Fairly.{fair, put-call}
use Rattle.unit.proofs.Unit.step.Goals as goal

pub returns-in-Request : goal.returns-in-Request
returns-in-Request c =
    let s = c.args.self in
    let call = Request c.in-Request.now c.in-Request.room in
    rw c.in-Request.is (c.after.ensures ∙ rw c.request.ensures (put-call s call (fair s call)))

pub returns-in-Sent : goal.returns-in-Sent
returns-in-Sent c =
    let s = c.args.self in
    let call = Sent c.in-Sent.now c.in-Sent.sequence c.in-Sent.t3 in
    rw c.in-Sent.is (c.after-in-Sent.ensures ∙ rw c.sent.ensures (put-call s call (fair s call)))

pub returns-in-Time : goal.returns-in-Time
returns-in-Time c =
    let s = c.args.self in
    let call = Time c.in-Time.now in
    rw c.in-Time.is (c.after-in-Time.ensures ∙ rw c.time.ensures (put-call s call (fair s call)))

pub returns-in-Tick : goal.returns-in-Tick
returns-in-Tick c =
    let reference : SFits w64 c.in-Tick.reference = search rules in
    let clock : SFits w64 c.in-Tick.clock = search rules in
    rw c.in-Tick.is (rw (back reference, back clock) at c.pulse.ensures)
