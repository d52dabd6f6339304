-- The verdicts: what is given as 10^18 ns for more is judged as the exact number is.
use mathlib.Core.Path.{◌≡◌, refl, ap, ◌∙◌}
use mathlib.Core.Bool.{true, false}
use Prim.Native.Nat.{ℕ, ◌≤◌}
use native.Mathlib.Omega.{arith}
use lib.IntN.{ℤ, pos, ◌+ℤ◌, ◌-ℤ◌}
use Rattle.numbers.specs.Rounding.{held_within}
use Rattle.numbers.specs.declared.stamp.Stamp.{Stamp}
use Rattle.rules_delays.specs.declared.Delays.{Delays}
use Rattle.rules_delays.specs.Delays.{filtered}
use Rattle.rules_measure.specs.declared.Times.{Times}
use Rattle.rules_measure.specs.declared.Sum.{Sum}
use Rattle.rules_measure.specs.declared.Sum.TheVariants.{Neg, Long, Delay}
use Rattle.rules_measure.specs.Measure.{horizon, ns, forward_of, back_of, times_of, sum_of, is_step}
use Rattle.rules_measure.proofs.Far.{Least, sum-range, Reach, near, over, under, reach, sum-held, far-over, far-under}
use Rattle.rules_exchange.specs.declared.halves.Sync.{Sync}
use Rattle.rules_exchange.specs.declared.halves.Request.{Request}
use Rattle.rules_exchange.specs.declared.Exchange.{Exchange}
use Rattle.rules_exchange.specs.declared.said.Said.TheVariants.{Step, Measured}
use Rattle.rules_exchange.specs.Halves.{fresh_sync, fresh_request}
use Rattle.rules_exchange.specs.Events.{said_with, accepted, judged, by_sum, finished, spent}

-- ---- what is held within 10^18 is judged as the exact number
module _ (x : Exchange) where
  judged-held : (z : ℤ) (d : ℕ) → d ≤ 9999999 → judged x (held_within horizon z) d ≡ judged x z d
  unfolding judged
  judged-held z d h = go (reach z)
    where
      go : Reach z → judged x (held_within horizon z) d ≡ judged x z d
      go (near e) = rw e
      go (over n e f k) = rw (f, e, far-over horizon d (omega arith) h, far-over n d (omega arith) h)
      go (under n e f k) = rw (f, e, far-under 999999999999999999 d (omega arith), far-under n d (omega arith))

  by-held : (z : ℤ) (s : Sum) → Least s → by_sum x (held_within horizon z) s ≡ by_sum x z s
  by-held z Neg h = refl
  by-held z Long h = refl
  by-held z (Delay d) h = judged-held z d h

-- a measurement is judged by what the code has as by the exact numbers
pub finished-held : (x : Exchange) (forward sum : ℤ) → finished x (held_within horizon forward) (held_within horizon sum) ≡ finished x forward sum
finished-held x forward sum =
    ap (by_sum (spent x) (held_within horizon forward)) (sum-held sum) ∙ by-held (spent x) forward (sum_of sum) (sum-range sum)

-- ---- what the code's steps come to
module _ (x : Exchange) (forward : ℤ) (delay : ℕ) (d : Delays) (e : d ≡ filtered x.delays delay) where
  pub accept-step : is_step (forward -ℤ pos d.used) ≡ true → said_with (Step (ns (forward -ℤ pos d.used))) x ≡ accepted x forward delay
  unfolding accepted filtered
  accept-step h = let g = rw e at h in rw (e, g)

  pub accept-measured : is_step (forward -ℤ pos d.used) ≡ false
      → said_with (Measured (record { delay = ns (pos delay); used = ns (pos d.used); offset = ns (forward -ℤ pos d.used) }))
      (record { sync = x.sync; request = x.request; last = x.last; delays = d; huge = 0; path = 0 })
      ≡ accepted x forward delay
  unfolding accepted filtered
  accept-measured h = let g = rw e at h in rw (e, g)

-- the halves are spent first
module _ (x : Exchange) (forward sum : ℤ) (s : Sync) (r : Request) (e : s ≡ fresh_sync) (f : r ≡ fresh_request) where
  abbrev Spent : Exchange
  Spent = record { sync = s; request = r; last = x.last; delays = x.delays; huge = x.huge; path = x.path }

  pub finish-by : (z : Sum) → sum_of sum ≡ z → by_sum Spent forward z ≡ finished x forward sum
  finish-by z h = rw (e, f, h)

-- what `measured` told is finished as the exact numbers are
pub finish-times : (x : Exchange) (t : Times) (t1 t2 : Stamp) (sync follow : ℤ) (t3 t4 : Stamp) (response : ℤ) → t ≡ times_of t1 t2 sync follow t3 t4 response
    → finished x t.forward.0 t.sum.0 ≡ finished x (forward_of t1 t2 sync follow) (forward_of t1 t2 sync follow +ℤ back_of t3 t4 response)
finish-times x t t1 t2 sync follow t3 t4 response e = ap (λ (u : Times). finished x u.forward.0 u.sum.0) e ∙ finished-held x _ _
