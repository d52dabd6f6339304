-- The five are met in their order.
use Rattle.std.proofs.Common.{◌≡◌, ◌∙◌, sym, ap, length, rules}
use Rattle.rules_masters.specs.Inner.{best_of}
use Rattle.door_choosing.specs.Choosing.{candidates_of}
use Rattle.door_choosing.proofs.Five.{five-in, met}
use Rattle.door_choosing.proofs.best_over.Goals as goal

pub returns : goal.returns
returns c =
    let t = c.args.table.now in
    let five : length t ≡ 5 = search rules in
    rw (c.chosen.ensures, c.meet-5.ensures, c.meet-4.ensures, c.meet-3.ensures, c.meet-2.ensures, c.meet.ensures, c.candidate-5.ensures, c.candidate-4.ensures, c.candidate-3.ensures, c.candidate-2.ensures, c.candidate.ensures)
    (met _ _ _ _ _ ∙ ap (λ l. best_of (candidates_of l c.args.at.now c.args.at.interval)) (sym (five-in t _ five)))
