-- Places side by side: what is found among the records is found among the places of the log, and the choice is the same.
use mathlib.Core.Path.{◌≡◌, refl, ap, ◌∙◌}
use mathlib.Core.List.{List, [], ◌∷◌, map}
use mathlib.Core.Option.{none, some}
use mathlib.Core.Bool.{Bool, true, false, cond}
use Prim.Native.Nat.{ℕ, ◌≤◌}
use Rattle.rules_masters.specs.declared.record.Announce.{Announce}
use Rattle.rules_masters.specs.declared.record.Record.{Record}
use Rattle.rules_masters.specs.Records.{qualified_of}
use Rattle.rules_masters.specs.Comparison.{better_of}
use Rattle.rules_masters.specs.Choosing.{those, kept_among, choice_among}
use Rattle.rules_masters.specs.Holding.{chosen_of}
use Rattle.rules_masters.specs.Places.{place_of, count_of}
use Rattle.story_lists.specs.Reading.{all, with_it}
use Rattle.story_masters.specs.Announces.{Arrival, a_qualified, better_announce}
use Rattle.story_masters.specs.Places.{as_master}
use Rattle.story_masters.proofs.Seats.{Seat, qualified-same}

module _ (last interval : ℕ) where
  abbrev pub Alike : List (List Arrival) → List Record → Type 0
  Alike [] [] = Unit
  Alike [] (r ∷ t) = ⊥
  Alike (x ∷ l) [] = ⊥
  Alike (x ∷ l) (r ∷ t) = Seat last interval x r × Alike l t

  module _ (f : List Arrival → Bool) (g : Record → Bool) (same : (x : List Arrival) (r : Record) → Seat last interval x r → g r ≡ f x) where
    pub place_same : (l : List (List Arrival)) (t : List Record) → Alike l t → place_of g t ≡ place_of f l
    unfolding place_of
    place_same [] [] h = refl
    place_same [] (r ∷ t) h = absurd h
    place_same (x ∷ l) [] h = absurd h
    place_same (x ∷ l) (r ∷ t) h = rw (same x r h.0, place_same l t h.1)

    pub count_same : (l : List (List Arrival)) (t : List Record) → Alike l t → count_of g t ≡ count_of f l
    unfolding count_of
    count_same [] [] h = refl
    count_same [] (r ∷ t) h = absurd h
    count_same (x ∷ l) [] h = absurd h
    count_same (x ∷ l) (r ∷ t) h = rw (same x r h.0, count_same l t h.1)

  -- those that are qualified, in table order
  pub those-same : (now : ℕ) → last ≤ now → (l : List (List Arrival)) (t : List Record) → Alike l t
      → all (a_qualified now interval) l ≡ map (λ (r : Record). r.announce) (those (qualified_of now interval) t)
  unfolding all those
  those-same now k [] [] h = refl
  those-same now k [] (r ∷ t) h = absurd h
  those-same now k (x ∷ l) [] h = absurd h
  those-same now k (x ∷ l) (r ∷ t) h = rw (qualified-same last interval now k x r h.0, those-same now k l t h.1) (go (qualified_of now interval r))
    where
      go : (b : Bool)
          → with_it (cond b (some r.announce) none) (map (λ (s : Record). s.announce) (those (qualified_of now interval) t))
          ≡ map (λ (s : Record). s.announce) (cond b (r ∷ those (qualified_of now interval) t) (those (qualified_of now interval) t))
      go true = refl
      go false = refl

-- the one that is kept
abbrev announces : List Record → List Announce
announces t = map (λ (r : Record). r.announce) t

kept_same : (r : Record) (t : List Record) → (kept_among better_of r t).announce ≡ kept_among better_announce r.announce (announces t)
unfolding kept_among better_of
kept_same r [] = refl
kept_same r (n ∷ t) =
    kept_same (cond (better_of n r) n r) t ∙ ap (λ (m : Announce). kept_among better_announce m (announces t)) (go (better_of n r))
  where
    go : (b : Bool) → (cond b n r).announce ≡ cond b n.announce r.announce
    go true = refl
    go false = refl

pub choice-same : (t : List Record) → chosen_of (choice_among better_of t) ≡ as_master (choice_among better_announce (announces t))
unfolding choice_among
choice-same [] = refl
choice-same (r ∷ t) = ap (λ (m : Announce). as_master (some m)) (kept_same r t)
