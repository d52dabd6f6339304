-- A request has no refusal here, and its row is always there.
use mathlib.Core.Path.{sym, ap}
use Rattle.rules_exchange.specs.Events.{Answered}
use Rattle.rules_exchange.proofs.Told.{told-requested}
use Rattle.rules_exchange.proofs.Exchange.request.Goals as goal

pub returns-clause-exchange : goal.returns-clause-exchange
returns-clause-exchange c = rw c.fresh.ensures (sym (told-requested c.args.self.now c.args.sequence))

pub returns-clause-after : goal.returns-clause-after
returns-clause-after c = rw c.fresh.ensures (sym (ap (λ (a : Answered). a.exchange) (told-requested c.args.self.now c.args.sequence)))
