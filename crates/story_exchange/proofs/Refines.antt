-- From fresh, after any history, the machine of the code gives the answer that the history gives, and its memory tells the log.
use Rattle.std.specs.Prelude.{Ok, Err}
use mathlib.Core.Path.{◌≡◌}
use mathlib.Core.List.{List, [], ◌∷◌}
use mathlib.Core.Bool.{Bool, true, false, cond}
use Rattle.numbers.specs.declared.refusal.Refusal.TheVariants.{Correction}
use Rattle.numbers.specs.Grounds.{first_of, answer_by}
use Rattle.rules_exchange.specs.declared.Exchange.{Exchange}
use Rattle.rules_exchange.specs.Table.{Event, sync, follow_up, requested, sent, delay_resp}
use Rattle.rules_exchange.specs.Events.{refused, correction_in, tells_of, told}
use Rattle.rules_exchange.proofs.Told.{told_is}
use Rattle.story_exchange.specs.Log.{Log}
use Rattle.story_exchange.specs.Rules.{answer_unbarred, answer}
use Rattle.story_exchange.specs.History.{Happening, happens, wiped, log, answer_by_history, machine}
use Rattle.story_exchange.proofs.Tells.{Tells, fresh-tells, Agrees}
use Rattle.story_exchange.proofs.Halves.{refusing, come, request, follow, send}
use Rattle.story_exchange.proofs.Ends.{respond}

module _ (l : Log) (x : Exchange) (h : Tells l x) where
  by-event : (e : Event) → Agrees l e (answer_unbarred l e) (tells_of x e)
  unfolding tells_of
  by-event (sync two n c t1 t2) = come l x h two n c t1 t2 _ _
  by-event (follow_up n c t1) = follow l x h n c t1 _
  by-event (requested n) = request l x h n _ _
  by-event (sent n t3) = send l x h n t3 _
  by-event (delay_resp n c t4 p own) = respond l x h n c t4 p own

  -- one event
  pub step : (e : Event) → Agrees l e (answer l e) (told x e)
  unfolding answer first_of
  step e = rw (told_is x e) (go (correction_in e))
    where
      go : (b : Bool) → Agrees l e (answer_by Err (answer_unbarred l e) (cond b (Err Correction) (Ok tt))) (cond b (refused Correction x) (tells_of x e))
      go true = refusing l x h e Correction
      go false = by-event e

-- any history
pub tells : (happened : List Happening) → Tells (log happened) (machine happened)
unfolding log machine
tells [] = fresh-tells
tells (happens e ∷ before) = (step (log before) (machine before) (tells before) e).tells
tells (wiped ∷ before) = fresh-tells

-- the theorem
pub refines : (before : List Happening) (e : Event) → (told (machine before) e).answer ≡ answer_by_history before e
unfolding answer_by_history
refines before e = (step (log before) (machine before) (tells before) e).says
