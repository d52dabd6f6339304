-- The one held after the last step is the choice over all.
use Rattle.std.proofs.Common.{◌≡◌, ◌∙◌, None, arith}
use Rattle.std.proofs.lemmas.Grind.{common_steps}
use Rattle.std.specs.List.{fold}
use Rattle.rules_masters.specs.Inner.{kept_of}
use Rattle.rules_masters.proofs.Candidates.{last-best}
use Rattle.rules_masters.proofs.choice.best.Goals as goal

pub returns : goal.returns
returns c =
    let e : c.fold.result ≡ fold kept_of None c.args.candidates.now = grind (arith, common_steps) in
    c.chosen.ensures ∙ rw e (last-best c.args.candidates.now)
