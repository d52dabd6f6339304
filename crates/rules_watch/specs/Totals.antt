-- The points that the line is laid through, and the line.
use Rattle.std.specs.Prelude.{cond, List, [], ◌∷◌, ℕ, suc, pos, ◌*ℤ◌}
use Rattle.rules_fit.specs.Points.{Point, count, over, level, slope}
use Rattle.rules_fit.specs.Nearest.{nearest_float}
use Rattle.rules_watch.specs.declared.window.Sample.{Sample}
use Rattle.rules_watch.specs.declared.totals.Line.{Line}

-- k, k + 1, and so on: one for each sample
unfoldable pub up_from : ℕ → List Sample → List ℕ
up_from k [] = []
up_from k (s ∷ l) = k ∷ up_from (suc k) l

-- a sample's position is its place in the window (rule 9.12)
abbrev pub positions : List Sample → List ℕ
positions l = up_from 0 l

-- the valid samples, each at its position
unfoldable pub points : List ℕ → List Sample → List Point
points [] l = []
points (x ∷ xs) [] = []
points (x ∷ xs) (s ∷ l) = cond s.valid (record { x = pos x; y = s.y } ∷ points xs l) (points xs l)

-- the points of a window
abbrev pub points_of : List Sample → List Point
points_of l = points (positions l) l

-- level, slope and denominator over all valid samples, their number (rules 9.14 and 9.16), and the slope in ppm (rule 9.17): a y in ns for each second
-- of x is 1/1000 ppm
abbrev pub line_through : List Point → Line
line_through l = record { level = level l; slope = slope l; over = over l; n = count l; ppm = nearest_float (slope l) (pos 1000 *ℤ over l) }
