-- The median: the middle one by size, the lower of the middle two where the count is even (rule 7.22).
use Rattle.std.specs.Prelude.{Bool, cond, ◌&&◌, List, [], ◌∷◌, ℕ, suc, ◌-◌, ◌/◌, leb, ltb, length}

-- how many are below x
unfoldable pub count_below : ℕ → List ℕ → ℕ
count_below x [] = 0
count_below x (a ∷ l) = cond (ltb a x) (suc (count_below x l)) (count_below x l)

-- the place of the lower middle among n in order, the least at place 0
abbrev pub middle : ℕ → ℕ
middle n = (n - 1) / 2

-- x is the lower middle of l: at most so many are smaller, and more are smaller or equal
unfoldable pub middling : List ℕ → ℕ → Bool
middling l x = leb (count_below x l) (middle (length l)) && ltb (middle (length l)) (count_below (suc x) l)

-- the first that is so, of those that are left to look at
unfoldable pub first_middling : List ℕ → List ℕ → ℕ
first_middling l [] = 0
first_middling l (a ∷ r) = cond (middling l a) a (first_middling l r)

-- the lower middle of l, and 0 where l is empty
abbrev pub lower_middle : List ℕ → ℕ
lower_middle l = first_middling l l
