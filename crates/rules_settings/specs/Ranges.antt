-- The thirteen settings and their ranges, over words of any size (rules 4.1 to 4.13). No range is stated anywhere else.
use Rattle.std.specs.Prelude.{Bool, not, ◌&&◌, ℤ, pos, Ok, Err, Result}
use Rattle.std.specs.Int.Signed.{le_z, lt_z}
use Rattle.numbers.specs.Integers.{up}
use Rattle.numbers.specs.Grounds.{answer_by, first_of}
use Rattle.numbers.specs.Orders.{of_making}
use Rattle.rules_settings.specs.declared.Settings.{Settings}
use Rattle.rules_settings.specs.declared.Given.{Given}
use Rattle.numbers.specs.declared.refusal.Refusal.{Refusal}

-- what making answers: the settings, or the refusal
abbrev pub Set : Type 0
Set = Result Settings Refusal

-- not below low, and at most high
abbrev pub is_between : ℤ → ℤ → ℤ → Bool
is_between low x high = not (lt_z x low) && le_z x high

-- rules 4.3 to 4.7; domain and own port have no range
unfoldable pub steering_fits : Given → Bool
steering_fits g =
    ((is_between (pos 0) g.announce (pos 4) && is_between (pos 0) g.sync (pos 7)) && (is_between (pos 100) g.kp (pos 1000) && is_between (pos 10) g.ki (pos 500)))
    && is_between (pos 1) g.limit (pos 100_000)

-- rules 4.8 to 4.13
unfoldable pub watch_fits : Given → Bool
watch_fits g =
    ((is_between (pos 2) g.window (pos 128) && is_between (pos 2) g.minimum g.window) && (is_between (pos 0) g.holdoff (pos 10) && is_between (pos 0) g.tolerance (pos 100_000_000)))
    && (is_between (pos 1) g.spike (pos 999_999_998) && (lt_z g.spike g.jump && le_z g.jump (pos 999_999_999)))

-- the settings as given: `up z` is z where z is no less than 0
abbrev pub as_given : Given → Settings
as_given g =
    record {
      domain = g.domain;
      own = g.own;
      announce = up g.announce;
      sync = up g.sync;
      kp = up g.kp;
      ki = up g.ki;
      limit = record { 0 = pos (up g.limit) };
      watch = record { window = up g.window; minimum = up g.minimum; holdoff = up g.holdoff; tolerance = up g.tolerance; spike = up g.spike; jump = up g.jump };
    }

-- the settings, unless one is out of its range (rule 3.54)
abbrev pub settings_of : Given → Set
settings_of g = answer_by Err (Ok (as_given g)) (first_of (of_making (not (steering_fits g && watch_fits g))))

-- the settings of no unit
abbrev pub bare_settings : Settings
bare_settings =
    record {
      domain = 0;
      own = record { clock = 0; number = 0 };
      announce = 0;
      sync = 0;
      kp = 0;
      ki = 0;
      limit = record { 0 = pos 0 };
      watch = record { window = 0; minimum = 0; holdoff = 0; tolerance = 0; spike = 0; jump = 0 };
    }
