-- The first refusal that is due: ground by ground, where the grounds come in two parts, and where none is due.
use Rattle.std.specs.Prelude.{Ok, Err}
use mathlib.Core.Path.{◌≡◌, refl}
use mathlib.Core.Bool.{Bool, true, false, cond}
use mathlib.Core.List.{List, [], ◌∷◌, ◌++◌}
use Prim.Native.Nat.{ℕ}
use native.Mathlib.Omega.{arith}
use borrow.Author.Tests.{lt-ltb, le-ltb, le-leb, lt-leb, eq-eqb, ne_eqb}
use Rattle.numbers.specs.declared.refusal.Refusal.{Refusal}
use Rattle.numbers.specs.Grounds.{Ruling}
use Rattle.numbers.specs.Grounds.{Ground, first_of}

-- what a test of the code says of the same test in a definition
pub ruleset tested = (lt-ltb, le-ltb, le-leb, lt-leb, eq-eqb, ne_eqb)

-- a ground that is due decides; one that is not leaves it to the rest
pub bars : (g : Ground) (l : List Ground) → g.due ≡ true → first_of (g ∷ l) ≡ Err g.refusal
unfolding first_of
bars g l e = rw e

pub passes : (g : Ground) (l : List Ground) → g.due ≡ false → first_of (g ∷ l) ≡ first_of l
unfolding first_of
passes g l e = rw e

-- of two parts the second counts where the first gives none
abbrev pub or_else : Ruling → Ruling → Ruling
or_else (Ok _) v = v
or_else (Err r) v = Err r

pub first-append : (a b : List Ground) → first_of (a ++ b) ≡ or_else (first_of a) (first_of b)
unfolding first_of
first-append [] b = refl
first-append (g ∷ a) b = by g.due (first-append a b)
  where
    by : (t : Bool) → first_of (a ++ b) ≡ or_else (first_of a) (first_of b)
        → cond t (Err g.refusal) (first_of (a ++ b)) ≡ or_else (cond t (Err g.refusal) (first_of a)) (first_of b)
    by true h = refl
    by false h = h

-- where none is due, the first is not and neither is any of the rest
clear-by : (t : Bool) (r : Refusal) (v : Ruling) → cond t (Err r) v ≡ Ok tt → (t ≡ false) × (v ≡ Ok tt)
clear-by true r v e = let z : ◌≡◌ {A = ℕ} 0 1 = cc in absurd (omega arith)
clear-by false r v e = (refl, e)

pub clear-cons : (g : Ground) (rest : List Ground) → first_of (g ∷ rest) ≡ Ok tt → (g.due ≡ false) × (first_of rest ≡ Ok tt)
unfolding first_of
clear-cons g rest e = clear-by g.due g.refusal (first_of rest) e

pub clear-append : (a b : List Ground) → first_of (a ++ b) ≡ Ok tt → first_of b ≡ Ok tt
clear-append [] b e = e
clear-append (g ∷ a) b e = clear-append a b (clear-cons g (a ++ b) e).1
