-- Valid samples never share a position, so that two of them fix a line.
use mathlib.Core.Path.{◌≡◌, refl, sym, ap, ◌∙◌}
use mathlib.Core.Bool.{Bool, true, false, cond}
use mathlib.Core.List.{List, [], ◌∷◌, Memᴰ}
use Prim.Native.Nat.{ℕ, suc, ◌≤◌, ◌<◌}
use native.Mathlib.Omega.{arith}
use lib.IntN.{pos, nat_abs, ◌-ℤ◌}
use lib.ListN.{length}
use Rattle.rules_fit.specs.Points.{Point}
use Rattle.rules_fit.proofs.Least.{Two, same}
use Rattle.rules_watch.specs.declared.window.Sample.{Sample}
use Rattle.rules_watch.specs.Totals.{up_from, points, points_of}

-- a point at k or later
record Later (k : ℕ) (l : List Point) : Type 0 where
  point : Point
  inside : Memᴰ point l
  at : ℕ
  at-is : point.x ≡ pos at
  from : k ≤ at

later : (k : ℕ) (l : List Sample) → 0 < length (points (up_from k l) l) → Later k (points (up_from k l) l)
unfolding up_from points
later k [] h = absurd (omega arith)
later k (s ∷ l) h = go s.valid (later (suc k) l) h
  where
    go : (b : Bool) → (0 < length (points (up_from (suc k) l) l) → Later (suc k) (points (up_from (suc k) l) l))
        → 0 < length (cond b (record { x = pos k; y = s.y } ∷ points (up_from (suc k) l) l) (points (up_from (suc k) l) l))
        → Later k (cond b (record { x = pos k; y = s.y } ∷ points (up_from (suc k) l) l) (points (up_from (suc k) l) l))
    go true ih h = record { point = record { x = pos k; y = s.y }; inside = Memᴰ.head refl; at = k; at-is = refl; from = omega arith }
    go false ih h = let f = ih h in record { point = f.point; inside = f.inside; at = f.at; at-is = f.at-is; from = omega (arith, f.from) }

two_from : (k : ℕ) (l : List Sample) → 2 ≤ length (points (up_from k l) l) → Two (points (up_from k l) l)
unfolding up_from points
two_from k [] h = absurd (omega arith)
two_from k (s ∷ l) h = go s.valid (two_from (suc k) l) h
  where
    go : (b : Bool) → (2 ≤ length (points (up_from (suc k) l) l) → Two (points (up_from (suc k) l) l))
        → 2 ≤ length (cond b (record { x = pos k; y = s.y } ∷ points (up_from (suc k) l) l) (points (up_from (suc k) l) l))
        → Two (cond b (record { x = pos k; y = s.y } ∷ points (up_from (suc k) l) l) (points (up_from (suc k) l) l))
    go true ih h =
        let f = later (suc k) l (omega arith) in
        record {
          one = record { x = pos k; y = s.y };
          two = f.point;
          in_one = Memᴰ.head refl;
          in_two = Memᴰ.tail f.inside;
          differ = λ (e : pos k -ℤ f.point.x ≡ pos 0). let g : f.at ≡ k = ap nat_abs (sym f.at-is ∙ same (pos k) f.point.x e) in omega (arith, f.from);
        }
    go false ih h = ih h

pub two : (l : List Sample) → 2 ≤ length (points_of l) → Two (points_of l)
two l h = two_from 0 l h
