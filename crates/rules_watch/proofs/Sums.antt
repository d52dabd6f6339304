-- The totals of a window, sample by sample.
use mathlib.Core.Path.{◌≡◌, ◌∙◌}
use mathlib.Core.Bool.{Bool, true, false, cond}
use mathlib.Core.List.{List, [], ◌∷◌}
use Prim.Native.Nat.{ℕ, suc, ◌+◌, ◌<◌}
use native.Mathlib.Numerals.{add-one}
use lib.IntN.{pos, ◌+ℤ◌, +ℤ_assoc, +ℤ_idl, +ℤ_idr}
use lib.ListN.{length, drop, get_or}
use lib.Seq.{drop-cons, drop-length}
use Rattle.rules_fit.specs.Points.{Point, total}
use Rattle.rules_watch.specs.declared.window.Sample.{Sample}
use Rattle.rules_watch.specs.declared.totals.Totals.{Totals}
use Rattle.rules_watch.specs.Totals.{up_from, points, points_of}
use Rattle.rules_watch.specs.Inner.{blank, no_totals, with_point, with_sample, totals_of}

-- the samples of a list, the first at the position k, added to t
unfoldable pub sum_from : ℕ → Totals → List Sample → Totals
sum_from k t [] = t
sum_from k t (s ∷ l) = sum_from (suc k) (with_sample k s t) l

abbrev plus : Totals → Totals → Totals
plus t u = record { n = t.n +ℤ u.n; x = t.x +ℤ u.x; xx = t.xx +ℤ u.xx; y = t.y +ℤ u.y; xy = t.xy +ℤ u.xy }

plus-point : (t : Totals) (p : Point) (l : List Point) → plus (with_point p.x p.y t) (totals_of l) ≡ plus t (totals_of (p ∷ l))
unfolding total
plus-point t p l = simp +ℤ_assoc

sum_is : (k : ℕ) (t : Totals) (l : List Sample) → sum_from k t l ≡ plus t (totals_of (points (up_from k l) l))
unfolding sum_from up_from points total
sum_is k t [] = simp +ℤ_idr
sum_is k t (s ∷ l) = go s.valid (λ (u : Totals). sum_is (suc k) u l)
  where
    go : (b : Bool) → ((u : Totals) → sum_from (suc k) u l ≡ plus u (totals_of (points (up_from (suc k) l) l)))
        → sum_from (suc k) (cond b (with_point (pos k) s.y t) t) l ≡ plus t (totals_of (cond b (record { x = pos k; y = s.y } ∷ points (up_from (suc k) l) l) (points (up_from (suc k) l) l)))
    go true ih = ih (with_point (pos k) s.y t) ∙ plus-point t (record { x = pos k; y = s.y }) (points (up_from (suc k) l) l)
    go false ih = ih t

pub sum-all : (l : List Sample) → sum_from 0 no_totals l ≡ totals_of (points_of l)
sum-all l = sum_is 0 no_totals l ∙ simp +ℤ_idl

-- a turn of the walk, and its end
pub sum-turn : (k : ℕ) (t : Totals) (l : List Sample) → k < length l → sum_from k t (drop k l) ≡ sum_from (k + 1) (with_sample k (get_or l k blank) t) (drop (k + 1) l)
unfolding sum_from
sum-turn k t l h = rw (add-one, drop-cons l k blank)

pub sum-end : (t : Totals) (l : List Sample) → sum_from (length l) t (drop (length l) l) ≡ t
unfolding sum_from
sum-end t l = rw drop-length
