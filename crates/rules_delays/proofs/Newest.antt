-- The last five delays, newest first: what the array of five holds of them, and what is used.
use mathlib.Core.Path.{◌≡◌, refl, ap}
use mathlib.Core.Bool.{Bool, true, false}
use mathlib.Core.List.{List, [], ◌∷◌}
use Prim.Native.Nat.{ℕ, zero, suc, ◌+◌, ◌<◌, ◌≤◌, min}
use native.Mathlib.Omega.{arith}
use native.Mathlib.Numerals.{add-one}
use borrow.Author.Tests.{lt-ltb, le-ltb, ltb-true, ltb-false}
use lib.Dec.{leb, ltb}
use lib.ListN.{length, take, get_or, length-take}
use lib.Seq.{take-take, take_all}
use Rattle.rules_delays.specs.Median.{lower_middle}
use Rattle.rules_delays.specs.declared.Delays.{Delays}
use Rattle.numbers.specs.Integers.{distance_of}
use Rattle.rules_delays.specs.Delays.{accepted_before, path_by, used_by, used_of, filtered}

-- the first four, one by one
pub four : (l : List ℕ) → length l ≡ 5 → get_or l 0 0 ∷ get_or l 1 0 ∷ get_or l 2 0 ∷ get_or l 3 0 ∷ [] ≡ take 4 l
four [] e = absurd (omega arith)
four (a ∷ []) e = absurd (omega arith)
four (a ∷ b ∷ []) e = absurd (omega arith)
four (a ∷ b ∷ c ∷ []) e = absurd (omega arith)
four (a ∷ b ∷ c ∷ d ∷ l) e = refl

-- one in front of those that are held, and the oldest leaves
pub newest : (x n : ℕ) (l : List ℕ) → take (min 4 n + 1) (x ∷ take 4 l) ≡ take 5 (x ∷ take n l)
newest x n l = rw (add-one, take-take (min 4 n) 4 l (omega arith)) (ap (λ (r : List ℕ). x ∷ r) (go (ltb n 4) refl))
  where
    go : (b : Bool) → ltb n 4 ≡ b → take (min 4 n) l ≡ take 4 (take n l)
    go true t =
        let h = ltb-true n 4 t in
        let e : min 4 n ≡ n = omega arith in
        rw (e, take_all 4 (take n l) (omega (arith, length-take n l)))
    go false t =
        let h = ltb-false n 4 t in
        let e : min 4 n ≡ 4 = omega arith in
        rw (e, take-take 4 n l h)

-- PATH looks at the first of five where any is held
pub path-some : (l : List ℕ) (n delay : ℕ) → (n ≡ 0 → ⊥) → length l ≡ 5 → leb 1000000 (distance_of delay (get_or l 0 0)) ≡ path_by (take n l) delay
unfolding path_by
path-some [] n delay h e = absurd (omega arith)
path-some (a ∷ l) zero delay h e = absurd (h refl)
path-some (a ∷ l) (suc n) delay h e = refl

-- and so does the filter
module _ (used delay : ℕ) where
  pub used-near : (l : List ℕ) (n : ℕ) → distance_of delay used ≤ 1000 → delay ≡ used_by (take n l) used delay
  unfolding used_by
  used-near [] zero h = refl
  used-near [] (suc n) h = refl
  used-near (a ∷ l) zero h = refl
  used-near (a ∷ l) (suc n) h = rw (le-ltb 1000 (distance_of delay used) h)

  pub used-far : (l : List ℕ) (n : ℕ) → (n ≡ 0 → ⊥) → length l ≡ 5 → 1000 < distance_of delay used → lower_middle (take (min 4 n + 1) (delay ∷ take 4 l)) ≡ used_by (take n l) used delay
  unfolding used_by
  used-far [] n h e f = absurd (omega arith)
  used-far (a ∷ l) zero h e f = absurd (h refl)
  used-far (a ∷ l) (suc n) h e f = rw (lt-ltb 1000 (distance_of delay used) f) (ap lower_middle (newest delay (suc n) (a ∷ l)))

-- the five with the delay in front
pub made : (d : Delays) (delay n used : ℕ) → length d.five ≡ 5 → n ≡ min 4 d.count + 1 → used ≡ used_of d delay
    → record { five = delay ∷ get_or d.five 0 0 ∷ get_or d.five 1 0 ∷ get_or d.five 2 0 ∷ get_or d.five 3 0 ∷ []; count = n; used = used } ≡ filtered d delay
unfolding filtered
made d delay n used e f g = rw (four d.five e, f, g)

-- the newest five, with the one that comes
pub last-five : (d : Delays) (delay : ℕ) → accepted_before (filtered d delay) ≡ take 5 (delay ∷ accepted_before d)
unfolding filtered
last-five d delay = newest delay d.count d.five
