-- The example of rule 5.15, by computation: the choice need not be the best of all.
use mathlib.Core.Path.{◌≡◌, refl}
use mathlib.Core.Bool.{true}
use mathlib.Core.List.{[], ◌∷◌}
use mathlib.Core.Option.{some}
use Prim.Native.Nat.{ℕ}
use lib.IntN.{pos}
use Rattle.rules_masters.specs.declared.record.Record.{Record}
use Rattle.rules_masters.specs.Records.{fresh_record, qualified_of}
use Rattle.rules_masters.specs.Comparison.{smaller, better_of}
use Rattle.rules_masters.specs.Choosing.{those, kept_among, choice_among, choice_of}

-- a master with two arrivals at 0 ms
abbrev pub master : (sender grandmaster priority1 steps : ℕ) → Record
master sender grandmaster priority1 steps =
    record {
      announce = record {
        header = record {
          sdo = 0;
          minor = 0;
          domain = 0;
          minorsdo = 0;
          flags = 0;
          correction = pos 0;
          specific = 0;
          source = record { clock = sender; number = 1 };
          sequence = 0;
          control = 0;
          interval = pos 0;
        };
        stamp = record { seconds = 0; nanoseconds = 0 };
        offer = record {
          utc = pos 0;
          reserved = 0;
          priority1 = priority1;
          class = 0;
          accuracy = 0;
          variance = 0;
          priority2 = 0;
          grandmaster = grandmaster;
          steps = steps;
          time = 0;
        };
      };
      held = 2;
      newer = 0;
      older = 0;
    }

-- the three of the rule; its X is 24 here, its Y 25
abbrev pub A : Record
A = master 1 24 10 3

abbrev pub B : Record
B = master 2 24 200 1

abbrev pub C : Record
C = master 3 25 100 0

-- in two orders of the table
pub no-maximum : (choice_of (A ∷ B ∷ C ∷ fresh_record ∷ fresh_record ∷ []) 0 0 ≡ some C) × (choice_of (A ∷ C ∷ B ∷ fresh_record ∷ fresh_record ∷ []) 0 0 ≡ some B)
unfolding choice_of choice_among those kept_among qualified_of better_of smaller
no-maximum = (refl, refl)

-- the comparison is not transitive where records of one grandmaster do not agree: B beats A, A beats C, and C beats B
pub round-about : (better_of B A ≡ true) × (better_of A C ≡ true) × (better_of C B ≡ true)
unfolding better_of smaller
round-about = (refl, refl, refl)
