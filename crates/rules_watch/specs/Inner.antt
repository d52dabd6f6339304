-- What only inner contracts cite: nobody needs to believe it.
use Rattle.std.specs.Prelude.{false, cond, List, [], ◌∷◌, Option, Some, None, ℕ, ◌+◌, ◌*◌, ◌%◌, eqb, ℤ, pos, ◌+ℤ◌, ◌-ℤ◌, ◌*ℤ◌}
use Rattle.numbers.specs.Integers.{Within}
use Rattle.rules_fit.specs.Points.{Point, count, sum_x, sum_xx, sum_y, sum_xy}
use Rattle.rules_fit.specs.Nearest.{nearest_float}
use Rattle.rules_watch.specs.declared.window.Sample.{Sample}
use Rattle.rules_watch.specs.declared.totals.Totals.{Totals}
use Rattle.rules_watch.specs.declared.totals.Line.{Line}
use Rattle.rules_watch.specs.declared.Watch.{Watch}
use Rattle.rules_watch.specs.Window.{is_valid, sample_at}
use Rattle.rules_watch.specs.Rules.{Since}

-- a cleared place
abbrev pub blank : Sample
blank = record { reference = pos 0; y = pos 0; valid = false }

-- the sample taken last, where any is held
abbrev pub newest_in : Watch → Sample
newest_in w = sample_at w.references w.ys w.marks ((w.head.next % 128 + 127) % 128)

abbrev pub latest_of : Watch → Option Sample
latest_of w = cond (eqb w.head.len 0) None (Some (newest_in w))

-- of the samples since the wipe the last one, or none: the rules ask for no more
abbrev pub latest : ℤ → Option Sample → Since
latest origin None = record { origin = origin; samples = [] }
latest origin (Some s) = record { origin = origin; samples = s ∷ [] }

-- ---- the totals over points
abbrev pub totals_of : List Point → Totals
totals_of l = record { n = count l; x = sum_x l; xx = sum_xx l; y = sum_y l; xy = sum_xy l }

abbrev pub no_totals : Totals
no_totals = record { n = pos 0; x = pos 0; xx = pos 0; y = pos 0; xy = pos 0 }

-- one point more
abbrev pub with_point : ℤ → ℤ → Totals → Totals
with_point x y t = record { n = t.n +ℤ pos 1; x = t.x +ℤ x; xx = t.xx +ℤ x *ℤ x; y = t.y +ℤ y; xy = t.xy +ℤ x *ℤ y }

-- one sample more, at the position x: an invalid one adds nothing
abbrev pub with_sample : ℕ → Sample → Totals → Totals
with_sample x s t = cond s.valid (with_point (pos x) s.y t) t

-- the same of its y and its mark
abbrev pub with_marked : ℕ → ℤ → ℕ → Totals → Totals
with_marked x y mark t = with_sample x (record { reference = pos 0; y = y; valid = is_valid mark }) t

-- what totals over k samples, at positions below 128 and with any i32 for y, lie within
pub record Over (k : ℕ) (t : Totals) : Type 0 where
  pub n : Within k t.n
  pub x : Within (127 * k) t.x
  pub xx : Within (16_129 * k) t.xx
  pub y : Within (2_147_483_648 * k) t.y
  pub xy : Within (272_730_423_296 * k) t.xy

-- the line that totals give
abbrev pub over_of : Totals → ℤ
over_of t = t.n *ℤ t.xx -ℤ t.x *ℤ t.x

abbrev pub slope_of : Totals → ℤ
slope_of t = t.n *ℤ t.xy -ℤ t.x *ℤ t.y

abbrev pub line_of : Totals → Line
line_of t = record { level = t.xx *ℤ t.y -ℤ t.x *ℤ t.xy; slope = slope_of t; over = over_of t; n = t.n; ppm = nearest_float (slope_of t) (pos 1000 *ℤ over_of t) }
