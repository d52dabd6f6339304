-- What is asked of the last ten offsets, the newest first.
use Rattle.std.specs.Prelude.{Bool, cond, ◌&&◌, ◌||◌, List, [], ◌∷◌, ℕ, ◌+◌, leb, eqb, length, take, ℤ, pos}
use Rattle.std.specs.Int.Signed.{lt_z}

-- the last ten (rule 8.5): this one before the others
abbrev pub last_ten : ℤ → List ℤ → List ℤ
last_ten x l = take 10 (x ∷ l)

-- of strictly opposite sign: one is below 0 and the other above. Zero has no sign
abbrev pub opposite_signs : ℤ → ℤ → Bool
opposite_signs x y = (lt_z x (pos 0) && lt_z (pos 0) y) || (lt_z (pos 0) x && lt_z y (pos 0))

-- how many neighbours are of strictly opposite sign
unfoldable pub opposites_in : List ℤ → ℕ
opposites_in [] = 0
opposites_in (x ∷ []) = 0
opposites_in (x ∷ y ∷ l) = cond (opposite_signs x y) 1 0 + opposites_in (y ∷ l)

-- a swing (rule 8.6)
abbrev pub swings_of : List ℤ → Bool
swings_of l = eqb (length l) 10 && leb 6 (opposites_in l)
