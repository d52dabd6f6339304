-- What an Announce and the bare time call do.
use Rattle.std.specs.Prelude.{ℕ, cond, ltb, Ok, Err}
use Rattle.numbers.specs.declared.refusal.Refusal.TheVariants.{Now}
use Rattle.numbers.specs.Grounds.{first_of}
use Rattle.numbers.specs.Orders.{Due, none_due, due_with, of_time}
use Rattle.rules_masters.specs.declared.record.Announce.{Announce}
use Rattle.rules_masters.specs.declared.table.Table.{Table}
use Rattle.rules_masters.specs.declared.chosen.Chosen.{Chosen}
use Rattle.rules_masters.specs.Admitting.{Admitted}
use Rattle.rules_masters.specs.Admitting.{Answer as Admission}
use Rattle.rules_masters.specs.declared.admission.Entry.TheVariants.{Renewed, Entered}
use Rattle.rules_masters.specs.declared.chosen.Decision.{Decision}
use Rattle.rules_masters.specs.Holding.{chosen_at, decision_of, wipes_of}
use Rattle.rules_masters.specs.Admitting.{admitted_of}
use Rattle.rules_settings.specs.declared.Settings.{Settings}
use Rattle.unit_core.specs.declared.calls.Answer.TheVariants.{Refused, Choice}
use Rattle.unit_core.specs.Effects.{Stays, Progress, Effect, keeps, goes, wipes, unless}

abbrev pub with_chosen : Stays → ℕ → Chosen → Stays
with_chosen k now c = record { now = now; chosen = c; faulty = k.faulty; sequence = k.sequence }

-- what bars the bare time call, where `last` is the unit's now; its table is of five
abbrev pub time_due : (last now : ℕ) → Due
time_due last now = due_with Now (ltb now last) none_due

-- the table's answer to an Announce, and the table after it, which a refusal leaves as it was
abbrev pub admission : Settings → Stays → Table → ℕ → Announce → Admitted
admission s k t now m = admitted_of t m s.domain s.own s.announce k.now now

-- this master, or none, is chosen: by what the choice says of it, it wipes or not
abbrev pub holds_by : Stays → Progress → ℕ → Chosen → Decision → Effect
holds_by k r now c d = cond (wipes_of d) (wipes (Choice d) (with_chosen k now c)) (goes (Choice d) (with_chosen k now c) r)

abbrev pub holds : Stays → Progress → ℕ → Chosen → Effect
holds k r now c = holds_by k r now c (decision_of k.chosen c)

module _ (s : Settings) (k : Stays) (r : Progress) (t : Table) (now : ℕ) where
  -- the choice is made anew over the table, and held until the next
  unfoldable pub chooses : Effect
  chooses = holds k r now (chosen_at t.records now s.announce)

  -- by the table's answer, where this is the table after it
  abbrev pub admits : Admission → Effect
  admits (Err n) = keeps (Refused n)
  admits (Ok (Renewed place)) = chooses
  admits (Ok (Entered place)) = chooses

  -- the bare time call
  unfoldable pub time_passes : Effect
  time_passes = unless (first_of (of_time (time_due k.now now))) chooses

-- an Announce: the choice is made over the table after it
unfoldable pub announces : Settings → Stays → Progress → Table → ℕ → Announce → Effect
announces s k r t now m = admits s k r (admission s k t now m).table now (admission s k t now m).answer
