-- Laws of the last ten offsets.
use mathlib.Core.Path.{◌≡◌, sym, ap, ◌∙◌}
use mathlib.Core.Bool.{cond}
use mathlib.Core.List.{List, [], ◌∷◌}
use Prim.Native.Nat.{ℕ, zero, suc, ◌+◌, ◌≤◌, ◌<◌, min}
use native.Mathlib.Numerals.{add-one}
use native.Mathlib.Omega.{arith}
use lib.IntN.{ℤ, pos}
use lib.ListN.{length, take, drop, drop_of_length-le}
use lib.Seq.{drop-cons, take_all, length-take-le}
use Rattle.rules_servo.specs.Offsets.{last_ten, opposite_signs, opposites_in}
use Rattle.rules_servo.specs.Ten.{list_of, ten_with}
use Rattle.rules_servo.specs.declared.ten.Ten.{Ten}
use Rattle.rules_servo.proofs.Elements.{at}

-- a neighbourhood more
pub opposites-next : (l : List ℤ) (i : ℕ) → i + 1 < length l → opposites_in (drop i l) ≡ cond (opposite_signs (at l i) (at l (i + 1))) 1 0 + opposites_in (drop (i + 1) l)
unfolding opposites_in
opposites-next l i h =
    let j : suc i < length l = omega arith in
    let k : i < length l = omega arith in
    rw (add-one, drop-cons l i (pos 0), drop-cons l (suc i) (pos 0))

-- the last has no neighbour after it
pub opposites-last : (l : List ℤ) (i : ℕ) → length l ≡ i + 1 → opposites_in (drop i l) ≡ 0
unfolding opposites_in
opposites-last l i h =
    let k : i < length l = omega arith in
    let e : drop (suc i) l ≡ [] = drop_of_length-le l {i = suc i} (omega arith) in
    rw (drop-cons l i (pos 0), e)

-- all ten are held, or fewer
pub listed-all : (t : Ten) → length t.offsets ≡ 10 → 10 ≤ t.count → list_of t ≡ t.offsets
listed-all t h k =
    let e : min 10 t.count ≡ 10 = omega arith in
    rw e (take_all 10 t.offsets (omega arith))

pub listed-length : (t : Ten) → length t.offsets ≡ 10 → length (list_of t) ≡ min 10 t.count
listed-length t h = length-take-le (min 10 t.count) t.offsets (omega arith)

take_min : (m n : ℕ) (l : List ℤ) → take m (take n l) ≡ take (min m n) l
take_min zero n l = let e : min 0 n ≡ 0 = omega arith in rw e
take_min (suc m) zero l = let e : min (suc m) 0 ≡ 0 = omega arith in rw e
take_min (suc m) (suc n) [] = let e : min (suc m) (suc n) ≡ suc (min m n) = omega arith in rw e
take_min (suc m) (suc n) (x ∷ l) =
    let e : min (suc m) (suc n) ≡ suc (min m n) = omega arith in
    rw e (ap (λ (r : List ℤ). x ∷ r) (take_min m n l))

-- for any n in place of ten
noted-by : (n c : ℕ) (x : ℤ) (l : List ℤ) → take (min (suc n) (min (suc n) (c + 1))) (x ∷ take n l) ≡ x ∷ take n (take (min (suc n) c) l)
noted-by n c x l =
    let e : min (suc n) (min (suc n) (c + 1)) ≡ suc (min n c) = omega arith in
    let f : min (min n c) n ≡ min n (min (suc n) c) = omega arith in
    rw e (ap (λ (r : List ℤ). x ∷ r) (take_min (min n c) n l ∙ ap (λ (m : ℕ). take m l) f ∙ sym (take_min n (min (suc n) c) l)))

-- what is held with one more: the last ten of what was held, with it
pub noted-list : (t : Ten) (x : ℤ) → list_of (ten_with t x) ≡ last_ten x (list_of t)
noted-list t x = noted-by 9 t.count x t.offsets
