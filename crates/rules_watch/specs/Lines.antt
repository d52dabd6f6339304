-- What a drift line owes to the samples of the window that it is given for (rules 9.14 to 9.17).
use Rattle.std.specs.Prelude.{◌≡◌, ◌≢◌, List, ◌*◌, ◌<◌, ℤ, pos, ◌*ℤ◌, length, ◌<ℤ◌}
use Rattle.rules_fit.specs.Points.{sq, cost}
use Rattle.rules_fit.specs.Nearest.{Nearest}
use Rattle.rules_watch.specs.declared.window.Sample.{Sample}
use Rattle.rules_watch.specs.declared.totals.Line.{Line}
use Rattle.rules_watch.specs.Totals.{points_of}

-- q is the line of a window
pub record Right (window : List Sample) (q : Line) : Type 0 where
  -- n counts the valid samples
  pub counted : q.n ≡ pos (length (points_of window))
  pub above : pos 0 <ℤ q.over
  -- any other line, of level p / d and slope r / e in ns, has a larger sum of squared differences at these samples. Both sums are brought to whole
  -- numbers: that of q is `cost ..` over over², that of the other line, whose fractions have the denominator d · e in common, over (d · e)²
  pub nearer : (d p e r : ℤ) → d ≢ pos 0 → e ≢ pos 0 → ¬ ((q.over *ℤ p ≡ d *ℤ q.level) × (q.over *ℤ r ≡ e *ℤ q.slope))
      → sq (d *ℤ e) * cost q.over q.level q.slope (points_of window) < cost (d *ℤ e) (p *ℤ e) (r *ℤ d) (points_of window) * sq q.over
  -- the slope in ppm is slope / (1,000 · over), and no f64 is nearer to it
  pub nearest : Nearest q.slope (pos 1000 *ℤ q.over) q.ppm
