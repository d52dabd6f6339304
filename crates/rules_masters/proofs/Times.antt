-- Times: a difference compared in the place of a sum; live and qualified at their edges; and how they go with now.
use mathlib.Core.Path.{◌≡◌, refl}
use mathlib.Core.Bool.{Bool, true, false, and-eq-true_iff}
use mathlib.Core.Logic.{◌↔◌}
use Prim.Native.Nat.{ℕ, ◌+◌, ◌*◌, ◌-◌, ◌≤◌}
use native.Mathlib.Omega.{arith}
use lib.Dec.{leb}
use borrow.Author.Tests.{le-leb, lt-leb, leb-true, leb-false}
use Rattle.rules_masters.specs.declared.record.Record.{Record}
use Rattle.rules_masters.specs.Records.{live_of, qualified_of}

at-most-by : (t : Bool) (now arrival span : ℕ) → leb now (arrival + span) ≡ t → arrival ≤ now → leb (now - arrival) span ≡ t
at-most-by true now arrival span e h = le-leb (now - arrival) span (omega (arith, leb-true now (arrival + span) e))
at-most-by false now arrival span e h = lt-leb (now - arrival) span (omega (arith, leb-false now (arrival + span) e))

pub at_most : (now arrival span : ℕ) → arrival ≤ now → leb (now - arrival) span ≡ leb now (arrival + span)
at_most now arrival span = at-most-by (leb now (arrival + span)) now arrival span refl

refuted : (t : Bool) → (t ≡ true → ⊥) → t ≡ false
refuted true f = absurd (f refl)
refuted false f = refl

module _ (interval : ℕ) (r : Record) where
  -- THEOREMS. Live and qualified, as facts on numbers, ..
  pub live-exactly : (now : ℕ) → (live_of now interval r ≡ true) ↔ ((1 ≤ r.held) × (now ≤ r.newer + 4 * interval))
  unfolding live_of
  live-exactly now =
      (λ e. let s = (and-eq-true_iff _ _).0 e in (leb-true _ _ s.0, leb-true _ _ s.1), λ h. rw (le-leb _ _ h.0, le-leb _ _ h.1))

  pub qualified-exactly : (now : ℕ)
      → (qualified_of now interval r ≡ true) ↔ ((2 ≤ r.held) × (now ≤ r.older + 4 * interval) × (now ≤ r.newer + 3 * interval))
  unfolding qualified_of
  qualified-exactly now = (
    λ e. let s = (and-eq-true_iff _ _).0 e in let q = (and-eq-true_iff _ _).0 s.0 in (leb-true _ _ q.0, leb-true _ _ q.1, leb-true _ _ s.1),
    λ h. rw (le-leb _ _ h.0, le-leb _ _ h.1, le-leb _ _ h.2),
  )

  -- .. so that each holds at its edge, and not one ms later: 4 intervals past the newer arrival; 3 past the newer; 4 past the older
  pub live-edge : 1 ≤ r.held
      → (live_of (r.newer + 4 * interval) interval r ≡ true) × (live_of (r.newer + 4 * interval + 1) interval r ≡ false)
  live-edge h = ((live-exactly _).1 (h, omega arith), refuted _ (λ e. let s = (live-exactly _).0 e in omega arith))

  pub newer-edge : 2 ≤ r.held → r.newer + 3 * interval ≤ r.older + 4 * interval
      → (qualified_of (r.newer + 3 * interval) interval r ≡ true) × (qualified_of (r.newer + 3 * interval + 1) interval r ≡ false)
  newer-edge h k = ((qualified-exactly _).1 (h, k, omega arith), refuted _ (λ e. let s = (qualified-exactly _).0 e in omega arith))

  pub older-edge : 2 ≤ r.held → r.older + 4 * interval ≤ r.newer + 3 * interval
      → (qualified_of (r.older + 4 * interval) interval r ≡ true) × (qualified_of (r.older + 4 * interval + 1) interval r ≡ false)
  older-edge h k = ((qualified-exactly _).1 (h, omega arith, k), refuted _ (λ e. let s = (qualified-exactly _).0 e in omega arith))

  -- a qualified record is live, and what is live was so before
  pub qualified-live : (now : ℕ) → qualified_of now interval r ≡ true → live_of now interval r ≡ true
  qualified-live now e = let s = (qualified-exactly now).0 e in (live-exactly now).1 (omega arith)

  pub live-before : (earlier now : ℕ) → earlier ≤ now → live_of now interval r ≡ true → live_of earlier interval r ≡ true
  live-before earlier now h e = let s = (live-exactly now).0 e in (live-exactly earlier).1 (omega arith)
