-- What is made of a second pulse and of the samples taken since the wipe (rules 9.1 to 9.13).
use Rattle.std.specs.Prelude.{Bool, true, false, cond, not, ◌&&◌, ◌||◌, List, [], ◌∷◌, ◌++◌, ℕ, ◌^◌, leb, ltb, ℤ, pos, nat_abs, ◌-ℤ◌, length, Ok, Err, Result}
use Rattle.std.specs.Int.Signed.{le_z, lt_z}
use Rattle.numbers.specs.Grounds.{answer_by, first_of}
use Rattle.numbers.specs.Orders.{of_tick, of_line}
use Rattle.rules_watch.specs.declared.settings.WatchSettings.{WatchSettings}
use Rattle.rules_watch.specs.declared.window.Sample.{Sample}
use Rattle.rules_watch.specs.declared.totals.Line as lines
use Rattle.rules_watch.specs.declared.Pulse.{Pulse}
use Rattle.rules_watch.specs.declared.Pulse.TheVariants.{Valid, Invalid, Back, Range, Jump}
use Rattle.rules_watch.specs.declared.judging.Judged.{Judged}
use Rattle.rules_watch.specs.declared.judging.Judged.TheVariants.{Wipe, Take}
use Rattle.rules_watch.specs.Settings.{size_of, least_of, wait_of}
use Rattle.rules_watch.specs.Window.{last_n}
use Rattle.rules_watch.specs.Totals.{points_of, line_through}
use Rattle.numbers.specs.declared.refusal.Refusal.{Refusal}

-- what is answered to a pulse, and for the line: or the refusal
abbrev pub Answer : Type 0
Answer = Result Pulse Refusal

abbrev pub Drift : Type 0
Drift = Result lines.Line Refusal

-- what is made of a pulse: or the refusal
abbrev pub Outcome : Type 0
Outcome = Result Judged Refusal

-- the samples taken since the wipe, oldest first, and clock - reference of the first of them
pub record Since : Type 0 where
  pub origin : ℤ
  pub samples : List Sample

abbrev pub fresh_since : Since
fresh_since = record { origin = pos 0; samples = [] }

-- what is said of a sample that was taken
abbrev pub pulse_of : Bool → Pulse
pulse_of valid = cond valid Valid Invalid

-- which pulses wipe (rule 10.5). Whoever asks for it asks here
abbrev pub wipes_of : Pulse → Bool
wipes_of Valid = false
wipes_of Invalid = false
wipes_of Back = true
wipes_of Range = true
wipes_of Jump = true

-- its code at the door
abbrev pub code_of : Pulse → ℕ
code_of Valid = 17
code_of Invalid = 18
code_of Back = 19
code_of Range = 20
code_of Jump = 21

-- a stamp out of range (rule 3.20)
abbrev pub outside_of : ℤ → Bool
outside_of z = lt_z z (pos 0) || le_z (pos (2 ^ 62)) z

-- how far a is from b
abbrev pub apart : ℤ → ℤ → ℕ
apart a b = nat_abs (a -ℤ b)

-- a sample after another, and whether it is valid (rule 9.9)
abbrev pub sample_after : WatchSettings → Sample → ℤ → ℤ → Sample
sample_after t previous reference y =
    record {
      reference = reference;
      y = y;
      valid = leb (apart (reference -ℤ previous.reference) (pos 1_000_000_000)) t.tolerance && leb (apart y previous.y) t.spike;
    }

-- JUMP (rule 9.6), or taken
abbrev pub settled : WatchSettings → ℤ → Sample → ℤ → ℤ → Judged
settled t origin previous reference y = cond (ltb t.jump (apart y previous.y)) (Wipe Jump) (Take origin (sample_after t previous reference y))

-- BACK (rule 9.4), RANGE (rule 9.5), and then as above
abbrev pub followed : WatchSettings → ℤ → Sample → ℤ → ℤ → Judged
followed t origin previous reference y =
    cond (le_z reference previous.reference) (Wipe Back)
    (cond (leb 1_000_000_000 (nat_abs y)) (Wipe Range)
    (settled t origin previous reference y))

-- f of the last of a list, or none where the list is empty
unfoldable pub on_last : {A : Type 0} → A → (Sample → A) → List Sample → A
on_last none f [] = none
on_last none f (s ∷ []) = f s
on_last none f (s ∷ r ∷ l) = on_last none f (r ∷ l)

-- what is made of stamps in range: the first is taken and valid, with y 0 (rule 9.3); any other is judged by the one before, y counted from the
-- first (rule 9.2)
abbrev pub inside : WatchSettings → Since → ℤ → ℤ → Judged
inside t h reference clock =
    on_last (Take (clock -ℤ reference) (record { reference = reference; y = pos 0; valid = true }))
    (λ previous. followed t h.origin previous reference (clock -ℤ reference -ℤ h.origin))
    h.samples

-- what is made of a pulse (rule 3.63)
abbrev pub outcome : WatchSettings → Since → ℤ → ℤ → Outcome
outcome t h reference clock = answer_by Err (Ok (inside t h reference clock)) (first_of (of_tick (outside_of reference || outside_of clock)))

-- the samples taken since the wipe, after one pulse more (rule 9.7)
abbrev pub since_by : Since → Outcome → Since
since_by h (Err r) = h
since_by h (Ok (Wipe p)) = fresh_since
since_by h (Ok (Take origin s)) = record { origin = origin; samples = h.samples ++ (s ∷ []) }

-- the two stamps of a pulse, and the samples after a list of them, first to last
pub record Stamps : Type 0 where
  pub reference : ℤ
  pub clock : ℤ

abbrev pub since_after : WatchSettings → Since → List Stamps → Since
since_after t h [] = h
since_after t h (p ∷ l) = since_after t (since_by h (outcome t h p.reference p.clock)) l

-- the window (rule 9.11)
abbrev pub window_of : WatchSettings → List Sample → List Sample
window_of t l = last_n (size_of t) l

-- when a line is due (rule 9.13)
abbrev pub due : WatchSettings → ℕ → List Sample → Bool
due t taken window = leb (wait_of t) taken && leb (least_of t) (length (points_of window))

-- the line through a window, unless it is refused (rule 3.64)
abbrev pub line_if_due : WatchSettings → ℕ → List Sample → Drift
line_if_due t taken window = answer_by Err (Ok (line_through (points_of window))) (first_of (of_line (not (due t taken window))))

abbrev pub line_since : WatchSettings → Since → Drift
line_since t h = line_if_due t (length h.samples) (window_of t h.samples)
