-- `Given::settings` meets its contract: settings in their ranges are held as given.
use Rattle.std.specs.Prelude.{Ok}
use mathlib.Core.Path.{sym, ap, ◌∙◌}
use Rattle.numbers.specs.Grounds.{first_of}
use Rattle.rules_settings.proofs.Narrowing.{as-set}
use Rattle.rules_settings.proofs.Given.settings.Goals as goal

pub returns-then-watch_fits : goal.returns-then-watch_fits
unfolding first_of
returns-then-watch_fits c =
    let s = sym c.steering_fits.ensures ∙ c.if-steering_fits.true in
    let w = sym c.watch_fits.ensures ∙ c.if-watch_fits.true in
    rw (c.narrowed.ensures, s, w) (ap Ok (as-set c.args.self s w))

pub returns-else-watch_fits : goal.returns-else-watch_fits
unfolding first_of
returns-else-watch_fits c = rw (sym c.steering_fits.ensures ∙ c.if-steering_fits.true, sym c.watch_fits.ensures ∙ c.if-watch_fits.false)

pub returns-else-steering_fits : goal.returns-else-steering_fits
unfolding first_of
returns-else-steering_fits c = rw (sym c.steering_fits.ensures ∙ c.if-steering_fits.false)
