-- The lower middle, as the code counts it out: one place after the other.
use Rattle.std.proofs.Common.{◌≡◌, refl, sym, Bool, true, false, List, ℕ, suc, ◌+◌, ◌<◌, ◌≤◌, length, drop, get_or, add-one, drop-cons, count_by, nat_lt, cond, arith}
use Rattle.std.proofs.lemmas.List.Recursion.{is_count_by}
use lib.ListN.{drop_of_length-le}
use Rattle.rules_delays.specs.Median.{count_below, middling, first_middling}

-- what the library counts
pub counted : (x : ℕ) (l : List ℕ) → count_by (λ (a : ℕ). nat_lt a x) l ≡ count_below x l
unfolding count_below
counted x l = sym (is_count_by (count_below x) (λ a. nat_lt a x) refl (λ a r. one (nat_lt a x) (count_below x r)) l)
  where
    one : (b : Bool) (n : ℕ) → cond b (suc n) n ≡ cond b (1 + n) n
    one true n = omega arith
    one false n = refl

-- the search, from place i on
pub first-hit : (l : List ℕ) (i : ℕ) → i < length l → middling l (get_or l i 0) ≡ true → first_middling l (drop i l) ≡ get_or l i 0
unfolding first_middling
first-hit l i h e = rw (drop-cons l i 0 h, e)

pub first-miss : (l : List ℕ) (i : ℕ) → i < length l → middling l (get_or l i 0) ≡ false → first_middling l (drop i l) ≡ first_middling l (drop (i + 1) l)
unfolding first_middling
first-miss l i h e = rw (drop-cons l i 0 h, e, add-one)

pub first-end : (l : List ℕ) (i : ℕ) → length l ≤ i → first_middling l (drop i l) ≡ 0
unfolding first_middling
first-end l i h = rw (drop_of_length-le l h)
