-- What the choice chooses, when it is NONE, and when it wipes.
use mathlib.Core.Path.{◌≡◌, refl}
use mathlib.Core.Bool.{Bool, true, false, cond, not}
use mathlib.Core.List.{List, [], ◌∷◌}
use mathlib.Core.Logic.{◌↔◌}
use mathlib.Core.Option.{none, some}
use Prim.Native.Nat.{ℕ, ◌<◌}
use native.Mathlib.Omega.{arith}
use lib.ListN.{get_or}
use Rattle.rules_masters.specs.declared.record.Record.{Record}
use Rattle.rules_masters.specs.declared.chosen.Chosen.{Chosen}
use Rattle.rules_masters.specs.declared.chosen.Decision.TheVariants.{Same, Changed}
use Rattle.rules_masters.specs.Holding.{same_master_of, decision_of, master_of, wipes_of}
use Rattle.rules_masters.specs.Records.{interval_of, qualified_of, fresh_record}
use Rattle.rules_masters.specs.Places.{fresh_table}
use Rattle.rules_masters.specs.Comparison.{better_of}
use Rattle.rules_masters.specs.Choosing.{those, kept_among, choice_among, in_order, choice_of}
use Rattle.rules_masters.proofs.Order.{At, stands_at, at-stands}
use Rattle.rules_masters.proofs.Keeping.{kept_in, those-in, those-none, none-those}

-- THEOREM. The master chosen is at a place of the table, and is qualified.
pub chosen-qualified : (t : List Record) (now a : ℕ) (r : Record) → choice_of t now a ≡ some r
    → At t r × (qualified_of now (interval_of a) r ≡ true)
unfolding choice_of choice_among
chosen-qualified t now a r h = by (those (qualified_of now (interval_of a)) (in_order t)) refl h
  where
    by : (l : List Record) → those (qualified_of now (interval_of a)) (in_order t) ≡ l → choice_among better_of l ≡ some r
        → At t r × (qualified_of now (interval_of a) r ≡ true)
    by [] e k = let z : ◌≡◌ {A = ℕ} 0 1 = cc in absurd (omega arith)
    by (first ∷ rest) e k =
        let q : r ≡ kept_among better_of first rest = cc in
        let m = those-in (qualified_of now (interval_of a)) (in_order t) r (rw (e, q) (kept_in better_of first rest)) in
        (stands_at t r m.0, m.1)

-- THEOREM. The choice is NONE exactly when no record is qualified.
pub none-exactly : (t : List Record) (now a : ℕ)
    → (choice_of t now a ≡ none) ↔ ((place : ℕ) → place < 5 → qualified_of now (interval_of a) (get_or t place fresh_record) ≡ false)
unfolding choice_of choice_among
none-exactly t now a = (λ h. only (those q (in_order t)) refl h, λ unmet. rw (none-those q (in_order t) (λ x m. spread unmet x (stands_at t x m))))
  where
    q : Record → Bool
    q = qualified_of now (interval_of a)

    only : (l : List Record) → those q (in_order t) ≡ l → choice_among better_of l ≡ none
        → (place : ℕ) → place < 5 → q (get_or t place fresh_record) ≡ false
    only [] e k place h = those-none q (in_order t) e (get_or t place fresh_record) (at-stands t place h)
    only (first ∷ rest) e k place h = let z : ◌≡◌ {A = ℕ} 0 1 = cc in absurd (omega arith)

    spread : ((place : ℕ) → place < 5 → q (get_or t place fresh_record) ≡ false) → (x : Record) → At t x → q x ≡ false
    spread unmet x s = rw s.stands (unmet s.place s.inside)

-- an empty table has no master
pub fresh-none : (now a : ℕ) → choice_of fresh_table.records now a ≡ none
unfolding choice_of choice_among those qualified_of
fresh-none now a = refl

-- THEOREM. A choice wipes exactly where its master is another than the one held (rule 10.1), and it names that master.
pub another-wipes : (before after : Chosen) → (wipes_of (decision_of before after) ≡ not (same_master_of before after)) × (master_of (decision_of before after) ≡ after)
another-wipes before after = by (same_master_of before after)
  where
    by : (b : Bool) → (wipes_of (cond b (Same after) (Changed after)) ≡ not b) × (master_of (cond b (Same after) (Changed after)) ≡ after)
    by true = (refl, refl)
    by false = (refl, refl)
