-- The refusals of an Announce: as the code asks them, in two parts; and that none is due where none is given.
use Rattle.std.specs.Prelude.{Ok}
use mathlib.Core.Path.{◌≡◌, refl}
use mathlib.Core.Bool.{Bool, true, false}
use mathlib.Core.List.{List}
use Rattle.numbers.specs.declared.refusal.Refusal.TheVariants.{Now, Domain, Own, Alternate, Steps}
use Rattle.numbers.specs.Grounds.{Ground, first_of}
use Rattle.numbers.specs.Orders.{Due, none_due, due_with, of_announce}
use Rattle.numbers.proofs.Grounds.{or_else, clear-cons}
use Rattle.rules_masters.specs.declared.standing.Standing.{Standing}
use Rattle.rules_masters.specs.Admitting.{is_repeat, is_full, table_due}

-- the five that need no table, each by its truth value, and what is held
abbrev grounds : (now domain own alternate steps : Bool) (held : Due) → List Ground
grounds now domain own alternate steps held =
    of_announce (due_with Now now (due_with Domain domain (due_with Own own (due_with Alternate alternate (due_with Steps steps held)))))

-- first the five that need no table, then those that look into it
pub two-parts : (now domain own alternate steps : Bool) (l : List Standing)
    → first_of (grounds now domain own alternate steps (table_due l))
    ≡ or_else (first_of (grounds now domain own alternate steps none_due)) (first_of (of_announce (table_due l)))
unfolding first_of
two-parts true domain own alternate steps l = refl
two-parts false true own alternate steps l = refl
two-parts false false true alternate steps l = refl
two-parts false false false true steps l = refl
two-parts false false false false true l = refl
two-parts false false false false false l = refl

-- of those that a caller asks about: NOW, REPEAT and FULL
pub clear-announce : (now domain own alternate steps : Bool) (l : List Standing) → first_of (grounds now domain own alternate steps (table_due l)) ≡ Ok tt
    → (now ≡ false) × (is_repeat l ≡ false) × (is_full l ≡ false)
clear-announce now domain own alternate steps l e =
    let first = clear-cons _ _ e in
    let sixth = clear-cons _ _ (clear-cons _ _ (clear-cons _ _ (clear-cons _ _ (clear-cons _ _ first.1).1).1).1).1 in
    (first.0, sixth.0, (clear-cons _ _ sixth.1).0)

pub clear-table : (l : List Standing) → first_of (of_announce (table_due l)) ≡ Ok tt → (is_repeat l ≡ false) × (is_full l ≡ false)
clear-table l e = let n = clear-announce false false false false false l e in (n.1, n.2)
