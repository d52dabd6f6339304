-- P11 and P12 by computation (rules 11.11 and 11.12): a fresh watch is handed the pulses and asked for the line.
use Rattle.std.specs.Prelude.{Ok}
use mathlib.Core.Path.{◌≡◌, refl}
use mathlib.Core.List.{[], ◌∷◌}
use Prim.Native.Nat.{ℕ, ◌+◌}
use lib.IntN.{pos}
use Rattle.numbers.specs.Grounds.{first_of}
use Rattle.rules_fit.specs.Points.{total, over, level, slope}
use Rattle.rules_fit.specs.Nearest.{nearest_float}
use Rattle.rules_watch.specs.declared.settings.WatchSettings.{WatchSettings}
use Rattle.rules_watch.specs.Window.{last_n, rot, numbers_from, ring_of, held_in}
use Rattle.rules_watch.specs.Totals.{up_from, points}
use Rattle.rules_watch.specs.Rules.{on_last, Stamps}
use Rattle.rules_watch.specs.Watch.{samples_in, fresh_watch, watch_after, watch_line}

-- the bench's values (rule 4.14), but for minimum and holdoff
abbrev pub bench : WatchSettings
bench = record { window = 120; minimum = 3; holdoff = 0; tolerance = 2_000_000; spike = 1_000_000; jump = 2_000_000 }

-- a pulse by its reference and its y
abbrev pulse : ℕ → ℕ → Stamps
pulse r y = record { reference = pos r; clock = pos (r + y) }

pub p11 : watch_line bench (watch_after bench fresh_watch (pulse 0 0 ∷ pulse 1_000_000_000 50 ∷ pulse 2_000_000_000 100 ∷ []))
    ≡ Ok (record { level = pos 0; slope = pos 300; over = pos 6; n = pos 3; ppm = nearest_float (pos 300) (pos 6000) })
unfolding first_of samples_in held_in ring_of numbers_from last_n rot on_last up_from points total over level slope
p11 = refl

-- the third is invalid: its interval is off by 3,000,000
pub p12 : watch_line bench (watch_after bench fresh_watch (pulse 0 0 ∷ pulse 1_000_000_000 50 ∷ pulse 2_003_000_000 100 ∷ pulse 3_003_000_000 150 ∷ []))
    ≡ Ok (record { level = pos 0; slope = pos 700; over = pos 14; n = pos 3; ppm = nearest_float (pos 700) (pos 14_000) })
unfolding first_of samples_in held_in ring_of numbers_from last_n rot on_last up_from points total over level slope
p12 = refl
