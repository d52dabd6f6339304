-- A list of signed numbers by its elements.
use mathlib.Core.Path.{◌≡◌, refl, sym, ap}
use mathlib.Core.List.{List, [], ◌∷◌}
use Prim.Native.Nat.{ℕ, zero, suc, ◌≤◌}
use native.Mathlib.Omega.{arith}
use lib.IntN.{ℤ, pos}
use lib.ListN.{length, take, get_or}

-- past the end of a list there is 0
abbrev pub at : List ℤ → ℕ → ℤ
at l i = get_or l i (pos 0)

-- a list by its elements
abbrev pub listed : ℕ → (ℕ → ℤ) → List ℤ
listed zero f = []
listed (suc n) f = f 0 ∷ listed n (λ i. f (suc i))

pub listed-take : (n : ℕ) (l : List ℤ) → n ≤ length l → listed n (at l) ≡ take n l
listed-take zero l h = refl
listed-take (suc n) [] h = absurd (omega arith)
listed-take (suc n) (x ∷ l) h = ap (λ (m : List ℤ). x ∷ m) (listed-take n l (omega arith))

-- the nine that stay when one more comes
pub first_nine : (l : List ℤ) → length l ≡ 10 → take 9 l ≡ at l 0 ∷ at l 1 ∷ at l 2 ∷ at l 3 ∷ at l 4 ∷ at l 5 ∷ at l 6 ∷ at l 7 ∷ at l 8 ∷ []
first_nine l h = sym (listed-take 9 l (omega arith))
