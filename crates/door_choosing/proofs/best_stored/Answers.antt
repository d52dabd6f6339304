-- The five are met in their order, the new one at its place.
use Rattle.std.proofs.Common.{◌∙◌, ap}
use Rattle.rules_masters.specs.Inner.{best_of}
use Rattle.door_choosing.proofs.Five.{met, put}
use Rattle.door_choosing.proofs.best_stored.Goals as goal

pub returns : goal.returns
returns c =
    rw (c.chosen.ensures, c.meet-5.ensures, c.meet-4.ensures, c.meet-3.ensures, c.meet-2.ensures, c.meet.ensures, c.pick-5.ensures, c.pick-4.ensures, c.pick-3.ensures, c.pick-2.ensures, c.pick.ensures)
    (met _ _ _ _ _ ∙ ap best_of (put _ _ _ _ _ c.args.at c.args.new c.requires))
