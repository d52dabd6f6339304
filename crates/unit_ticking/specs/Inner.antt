-- What only inner contracts cite: nobody needs to believe it.
use Rattle.std.specs.Prelude.{cond, Ok, Err}
use Rattle.rules_watch.specs.Rules.{Answer}
use Rattle.rules_watch.specs.Rules.{wipes_of}
use Rattle.unit_core.specs.declared.calls.Answer.TheVariants.{Refused, Watch as Watched}
use Rattle.unit_core.specs.Effects.{Stays, Effect, keeps, wipes}

-- what the unit sees of a pulse in the watch's answer: a sample taken changes the watch alone
abbrev pub pulses : Stays → Answer → Effect
pulses k (Err n) = keeps (Refused n)
pulses k (Ok p) = cond (wipes_of p) (wipes (Watched p) k) (keeps (Watched p))
