-- The choice of the master (rules 5.11 and 5.12).
use Rattle.std.specs.Prelude.{ℕ, Bool, cond, List, [], ◌∷◌, map, get_or}
use Rattle.std.proofs.Math.Option.{Option, none, some}
use Rattle.rules_masters.specs.declared.record.Record.{Record}
use Rattle.rules_masters.specs.Records.{interval_of, qualified_of, fresh_record}
use Rattle.rules_masters.specs.Comparison.{better_of}

module _ {A : Type 0} where
  -- those of which p holds, in their order
  unfoldable pub those : (A → Bool) → List A → List A
  those p [] = []
  those p (x ∷ l) = cond (p x) (x ∷ those p l) (those p l)

  -- each that is better than the one held takes over from it
  unfoldable pub kept_among : (A → A → Bool) → A → List A → A
  kept_among better held [] = held
  kept_among better held (next ∷ rest) = kept_among better (cond (better next held) next held) rest

  -- the first is held at the start; there is none only where the list is empty
  unfoldable pub choice_among : (A → A → Bool) → List A → Option A
  choice_among better [] = none
  choice_among better (first ∷ rest) = some (kept_among better first rest)

-- the places, in the order in which the choice goes through them
abbrev pub order : List ℕ
order = 0 ∷ 1 ∷ 2 ∷ 3 ∷ 4 ∷ []

-- the records at these places
abbrev pub in_order : List Record → List Record
in_order t = map (λ place. get_or t place fresh_record) order

-- among the qualified, place by place; none is NONE
unfoldable pub choice_of : List Record → ℕ → ℕ → Option Record
choice_of t now a = choice_among better_of (those (qualified_of now (interval_of a)) (in_order t))
