-- The parts that C lends are the unit: what is proved of the unit's answers, in numbers.
use mathlib.Core.Path.{◌≡◌, sym, ap, subst, ◌∙◌}
use mathlib.Core.Logic.{◌⊎◌}
use mathlib.Core.Bool.{true}
use mathlib.Core.List.{List, map}
use Prim.Native.Nat.{ℕ, ◌<◌}
use lib.ListN.{length}
use Rattle.numbers.specs.declared.refusal.Refusal.{Refusal}
use Rattle.numbers.specs.declared.refusal.Refusal.TheVariants.{NotReady}
use Rattle.numbers.specs.Orders.{number_of}
use Rattle.rules_watch.specs.Settings.{least_of, wait_of}
use Rattle.rules_settings.specs.declared.Settings.{Settings}
use Rattle.unit_core.specs.declared.calls.Answer.{Answer}
use Rattle.unit_core.specs.Answers.{wipes_of}
use Rattle.unit.specs.declared.Unit.{Unit}
use Rattle.unit_handing.specs.Handing.{Handed, line, asked_of, served_of, served_all}
use Rattle.door_records.specs.Unit.{core_in}
use Rattle.door_words.specs.Answers.{refusing, answer_words}
use Rattle.door_loop.specs.Loop.{Parts, unit_in, Table, counted_in, lends, looped, Meant, means}
use Rattle.door_loop.proofs.Loop.{same, five-after, five-looped, loop-is-unit}
use Rattle.demands.specs.Words.{TooFew, is_refused, says_wiped}
use Rattle.demands.proofs.Refusing.{reason}
use Rattle.demands.proofs.Waiting.{pulses-counted, waiting, settings-stay}
use Rattle.demands.proofs.Wiping.{words-refused, wiped-words, wiped-by}

counted-few : (s : Settings) (list : List (Handed Table)) → TooFew s list → TooFew s (map counted_in list)
counted-few s list k = subst (λ (n : ℕ). (n < wait_of s.watch) ⊎ (n < least_of s.watch)) (sym (pulses-counted list)) k

module _ (p : Parts) (five : length p.table ≡ 5) (call : Handed Table) where
  abbrev said : Answer
  said = (served_of (unit_in p) (counted_in call)).answer

  pub means-unit : (unit_in (lends p call).parts ≡ (served_of (unit_in p) (counted_in call)).unit) × ((lends p call).answer ≡ answer_words said)
  unfolding means
  means-unit = let e = same p five call in (ap (λ (m : Meant). m.unit) e, ap (λ (m : Meant). m.answer) e)

  -- what the unit's answer says, by what the numbers say
  pub unit-wiped : says_wiped (lends p call).answer ≡ wipes_of said
  unit-wiped = ap says_wiped means-unit.1 ∙ wiped-words said

  pub number-told : is_refused (lends p call).answer ≡ true → (r : Refusal) × ((lends p call).answer ≡ refusing (number_of r))
  number-told h = let e = reason said (sym (words-refused said) ∙ ap is_refused (sym means-unit.1) ∙ h) in (e.0, means-unit.1 ∙ ap answer_words e.1)

  pub waiting-lent : says_wiped (lends p call).answer ≡ true → (later : List (Handed Table)) → TooFew (core_in p.unit).settings later
      → (lends (looped (lends p call).parts later) line).answer ≡ refusing (number_of NotReady)
  unfolding means served_of
  waiting-lent h later k =
      let q = (lends p call).parts in
      let c = (served_of (unit_in p) (counted_in call)).unit in
      ap (λ (m : Meant). m.answer) (same (looped q later) (five-looped q (five-after p five call) later) line)
      ∙ ap (λ (x : Unit). answer_words (served_of x line).answer) (loop-is-unit q (five-after p five call) later ∙ ap (λ (x : Unit). served_all x (map counted_in later)) means-unit.0)
      ∙ ap answer_words
      (waiting c (wiped-by (unit_in p) (asked_of (counted_in call)) (sym unit-wiped ∙ h)).0.watch (map counted_in later)
      (subst (λ (s : Settings). TooFew s (map counted_in later)) (sym (settings-stay (unit_in p) (counted_in call))) (counted-few (core_in p.unit).settings later k)))
