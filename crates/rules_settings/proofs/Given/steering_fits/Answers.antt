-- `Given::steering_fits` meets its contract.
use borrow.Author.Rules.{rules}
use mir.Val.{SFits}
use mir.Syntax.{w64}
use Rattle.numbers.proofs.Integers.{back}
use Rattle.rules_settings.specs.Ranges.{steering_fits}
use Rattle.rules_settings.proofs.Given.steering_fits.Goals as goal

pub returns : goal.returns
unfolding steering_fits
returns c =
    let g = c.args.self in
    let announce : SFits w64 g.announce = search rules in
    let sync : SFits w64 g.sync = search rules in
    let kp : SFits w64 g.kp = search rules in
    let ki : SFits w64 g.ki = search rules in
    let limit : SFits w64 g.limit = search rules in
    rw (
      c.both-2.ensures,
      c.both.ensures,
      c.both-gains.ensures,
      c.both-exponents.ensures,
      rw (back announce) at c.between.ensures,
      rw (back sync) at c.between-2.ensures,
      rw (back kp) at c.between-3.ensures,
      rw (back ki) at c.between-4.ensures,
      rw (back limit) at c.between-5.ensures,
    )
