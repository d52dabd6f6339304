-- `Given::watch_fits` meets its contract.
use borrow.Author.Rules.{rules}
use mir.Val.{SFits}
use mir.Syntax.{w64}
use Rattle.numbers.proofs.Integers.{back}
use Rattle.rules_settings.specs.Ranges.{watch_fits}
use Rattle.rules_settings.proofs.Given.watch_fits.Goals as goal

pub returns : goal.returns
unfolding watch_fits
returns c =
    let g = c.args.self in
    let window : SFits w64 g.window = search rules in
    let minimum : SFits w64 g.minimum = search rules in
    let holdoff : SFits w64 g.holdoff = search rules in
    let tolerance : SFits w64 g.tolerance = search rules in
    let spike : SFits w64 g.spike = search rules in
    let jump : SFits w64 g.jump = search rules in
    rw (
      c.both-3.ensures,
      c.both-2.ensures,
      c.both.ensures,
      rw (back spike, back jump) at c.both-jump.ensures,
      rw (back spike) at c.between-spike.ensures,
      c.both-times.ensures,
      rw (back tolerance) at c.between-4.ensures,
      rw (back holdoff) at c.between-3.ensures,
      c.both-samples.ensures,
      rw (back minimum, back window) at c.between-2.ensures,
      rw (back window) at c.between.ensures,
    )
