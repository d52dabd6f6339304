-- The window as a list of samples, oldest first, and the ring that holds it: a small head, and a column for each number of a sample.
use Rattle.std.specs.Prelude.{Bool, cond, not, List, [], ◌∷◌, ◌++◌, map, ℕ, zero, suc, ◌+◌, ◌-◌, ◌%◌, min, eqb, ℤ, pos, length, get_or, take, drop}
use Rattle.rules_watch.specs.declared.window.Sample.{Sample}
use Rattle.rules_watch.specs.declared.window.Head.{Head}

module _ {A : Type 0} where
  -- the last n of a list
  unfoldable pub last_n : ℕ → List A → List A
  last_n n l = drop (length l - n) l

  -- the places of a ring from the place n on, round to it
  unfoldable pub rot : ℕ → List A → List A
  rot n l = drop n l ++ take n l

-- a mark of 0 is an invalid sample, any other a valid one; 1 is written for a valid one
abbrev pub is_valid : ℕ → Bool
is_valid mark = not (eqb mark 0)

abbrev pub mark_of : Bool → ℕ
mark_of valid = cond valid 1 0

-- the sample at the place i, made of the three numbers that the columns have there
abbrev pub sample_at : List ℤ → List ℤ → List ℕ → ℕ → Sample
sample_at references ys marks i = record { reference = get_or references i (pos 0); y = get_or ys i (pos 0); valid = is_valid (get_or marks i 0) }

-- n numbers, k and up
unfoldable pub numbers_from : ℕ → ℕ → List ℕ
numbers_from k zero = []
numbers_from k (suc n) = k ∷ numbers_from (suc k) n

-- three columns read as one ring of samples
unfoldable pub ring_of : List ℤ → List ℤ → List ℕ → List Sample
ring_of references ys marks = map (sample_at references ys marks) (numbers_from 0 128)

-- what is held of a ring, oldest first: of its places, read round from the one that is written next, the last `len`
unfoldable pub held_in : Head → List Sample → List Sample
held_in h ring = last_n (min h.len 128) (rot (h.next % 128) ring)

-- nothing held, nothing taken
abbrev pub fresh_head : Head
fresh_head = record { origin = pos 0; next = 0; len = 0; taken = 0 }

-- a sample was written over the place that is next, into a window of `size`; the holdoff asks for 10 of those taken at most
abbrev pub head_after : ℕ → ℤ → Head → Head
head_after size origin h = record { origin = origin; next = (h.next % 128 + 1) % 128; len = min (min h.len 128 + 1) size; taken = min (h.taken + 1) 10 }
