-- What `after` puts in place is what the call's effect says.
use Rattle.std.proofs.Common.{◌∙◌, length}
use Rattle.unit_core.specs.declared.calls.Call.TheVariants.{Request}
use Rattle.unit.proofs.Fairly.{fair, put-call}
use Rattle.unit.proofs.request_into.Goals as goal

pub returns-clause-value : goal.returns-clause-value
returns-clause-value c =
    let call = Request c.args.time (length c.args.frame.now) in
    c.after.ensures ∙ rw c.request_into.ensures.value (put-call c.args.unit call (fair c.args.unit call))
