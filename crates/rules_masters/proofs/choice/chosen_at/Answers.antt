-- The best of the candidates is the master of the records.
use Rattle.std.proofs.Common.{◌≡◌, ◌∙◌, length, rules}
use Rattle.rules_masters.proofs.Candidates.{best-at}
use Rattle.rules_masters.proofs.choice.chosen_at.Goals as goal

pub returns : goal.returns
returns c =
    let five : length c.args.table.now.records ≡ 5 = search rules in
    c.best.ensures ∙ rw (c.candidates.ensures, c.of.ensures) (best-at c.args.table.now.records c.args.now c.args.a five)
