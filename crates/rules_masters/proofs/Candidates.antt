-- Candidates: the best of them is the master that the choice of specs/Choosing.antt gives over their records.
use Rattle.std.specs.Prelude.{Option, Some, None}
use Rattle.std.specs.List.{fold, filter_map}
use mathlib.Core.Path.{◌≡◌, refl, sym, ap, subst, ◌∙◌}
use mathlib.Core.Bool.{Bool, true, false, cond}
use mathlib.Core.List.{List, [], ◌∷◌, map}
use mathlib.Core.Option.{Option as Chance, none, some}
use Prim.Native.Nat.{ℕ}
use lib.ListN.{length}
use Rattle.rules_masters.specs.declared.record.Record.{Record}
use Rattle.rules_masters.specs.declared.candidate.Candidate.{Candidate}
use Rattle.rules_masters.specs.declared.chosen.Chosen.{Chosen}
use Rattle.rules_masters.specs.Records.{interval_of, qualified_of}
use Rattle.rules_masters.specs.Comparison.{better_of}
use Rattle.rules_masters.specs.Choosing.{those, kept_among, choice_among, choice_of}
use Rattle.rules_masters.specs.Holding.{fresh_chosen, chosen_of, chosen_at}
use Rattle.rules_masters.specs.Inner.{candidate_of, beats_of, kept_of, last_in, sender_in, best_of}
use Rattle.rules_masters.proofs.Order.{in-order}

-- ---- the choice step by step, as the code makes it, is the choice among those that are there
abbrev there : List (Option Candidate) → List Candidate
there l = filter_map (λ c. c) l

steps-held : (held : Candidate) (l : List (Option Candidate)) → fold kept_of (Some held) l ≡ Some (kept_among beats_of held (there l))
unfolding kept_of kept_among
steps-held held [] = refl
steps-held held (None ∷ l) = steps-held held l
steps-held held (Some next ∷ l) = steps-held (cond (beats_of next held) next held) l

abbrev as_option : Chance Candidate → Option Candidate
as_option none = None
as_option (some c) = Some c

steps : (l : List (Option Candidate)) → fold kept_of None l ≡ as_option (choice_among beats_of (there l))
unfolding kept_of choice_among
steps [] = refl
steps (None ∷ l) = steps l
steps (Some first ∷ l) = steps-held first l

-- by what the last step leaves
by-some : (k : Chance Candidate) (c : Candidate) → as_option k ≡ Some c → k ≡ some c
by-some none c e = cc
by-some (some d) c e = cc

by-none : (k : Chance Candidate) → as_option k ≡ None → k ≡ none
by-none none e = refl
by-none (some d) e = cc

module _ (l : List (Option Candidate)) (r : Option Candidate) (e : r ≡ fold kept_of None l) where
  pub best-some : (c : Candidate) → r ≡ Some c → ◌≡◌ {A = Chosen} (record { some = true; sender = c.nearness.sender }) (best_of l)
  unfolding best_of
  best-some c h = rw (by-some (choice_among beats_of (there l)) c (sym (steps l) ∙ sym e ∙ h))

  pub best_none : r ≡ None → fresh_chosen ≡ best_of l
  unfolding best_of
  best_none h = rw (by-none (choice_among beats_of (there l)) (sym (steps l) ∙ sym e ∙ h))

-- so the one held after the last step is the best
pub last-best : (l : List (Option Candidate)) → last_in (fold kept_of None l) ≡ best_of l
unfolding best_of
last-best l = rw (steps l) (by (choice_among beats_of (there l)))
  where
    by : (k : Chance Candidate) → last_in (as_option k) ≡ sender_in k
    by none = refl
    by (some c) = refl

-- ---- the choice over the records
module _ (now interval : ℕ) where
  abbrev asked : List Record → List Candidate
  asked l = filter_map (candidate_of now interval) l

  -- what is asked of a record, whether it is qualified or not
  abbrev C : Record → Candidate
  C r =
      record {
        merits = record {
          priority1 = r.announce.offer.priority1;
          class = r.announce.offer.class;
          accuracy = r.announce.offer.accuracy;
          variance = r.announce.offer.variance;
          priority2 = r.announce.offer.priority2;
          grandmaster = r.announce.offer.grandmaster;
        };
        nearness = record { steps = r.announce.offer.steps; sender = r.announce.header.source };
      }

  -- comparing candidates is comparing their records
  beats-same : (a b : Record) → beats_of (C a) (C b) ≡ better_of a b
  unfolding beats_of better_of
  beats-same a b = refl

  those-same : (l : List Record) → there (map (candidate_of now interval) l) ≡ map C (those (qualified_of now interval) l)
  unfolding those candidate_of
  those-same [] = refl
  those-same (r ∷ l) = by (qualified_of now interval r) (those-same l)
    where
      by : (b : Bool) → there (map (candidate_of now interval) l) ≡ map C (those (qualified_of now interval) l)
          → there (cond b (Some (C r)) None ∷ map (candidate_of now interval) l)
          ≡ map C (cond b (r ∷ those (qualified_of now interval) l) (those (qualified_of now interval) l))
      by true e = ap (λ k. C r ∷ k) e
      by false e = e

  kept_same : (held : Record) (l : List Record) → kept_among beats_of (C held) (map C l) ≡ C (kept_among better_of held l)
  unfolding kept_among
  kept_same held [] = refl
  kept_same held (next ∷ l) =
      subst (λ (b : Bool). kept_among beats_of (cond b (C next) (C held)) (map C l) ≡ C (kept_among better_of (cond (better_of next held) next held) l))
      (sym (beats-same next held))
      (by (better_of next held) (kept_same next l) (kept_same held l))
    where
      by : (b : Bool) → kept_among beats_of (C next) (map C l) ≡ C (kept_among better_of next l) → kept_among beats_of (C held) (map C l) ≡ C (kept_among better_of held l)
          → kept_among beats_of (cond b (C next) (C held)) (map C l) ≡ C (kept_among better_of (cond b next held) l)
      by true e f = e
      by false e f = f

  choice-same : (l : List Record) → sender_in (choice_among beats_of (map C l)) ≡ chosen_of (choice_among better_of l)
  unfolding choice_among
  choice-same [] = refl
  choice-same (r ∷ l) = rw (kept_same r l)

-- THEOREM. The best of the five candidates is the master chosen.
pub best-at : (t : List Record) (now a : ℕ) → length t ≡ 5 → best_of (map (candidate_of now (interval_of a)) t) ≡ chosen_at t now a
unfolding best_of choice_of
best-at t now a five =
    subst (λ k. best_of (map (candidate_of now (interval_of a)) t) ≡ chosen_of (choice_among better_of (those (qualified_of now (interval_of a)) k))) (sym (in-order t five))
    (ap (λ l. sender_in (choice_among beats_of l)) (those-same now (interval_of a) t) ∙ choice-same now (interval_of a) (those (qualified_of now (interval_of a)) t))
