-- Settings in their ranges: one fact for each end, and the types hold them as given.
use mathlib.Core.Path.{◌≡◌, refl, sym, subst}
use mathlib.Core.Bool.{Bool, true, false, ◌&&◌, not}
use Prim.Native.Nat.{ℕ, ◌≤◌, ◌<◌, min}
use native.Mathlib.Omega.{arith}
use lib.Dec.{T}
use lib.IntN.{ℤ, pos}
use lib.Signed.{le_z, lt_z}
use Rattle.numbers.specs.Integers.{up}
use Rattle.numbers.proofs.Integers.{one_side, le_z-true, lt_z-true, lt_z-false}
use Rattle.rules_settings.specs.declared.Settings.{Settings}
use Rattle.rules_settings.specs.declared.Given.{Given}
use Rattle.rules_settings.specs.Ranges.{is_between, steering_fits, watch_fits, as_given}
use Rattle.rules_settings.specs.Inner.{narrowed_of}

-- each end of each range
pub record Ranges (s : Settings) : Type 0 where
  pub announce-to : s.announce ≤ 4
  pub sync-to : s.sync ≤ 7
  pub kp-from : 100 ≤ s.kp
  pub kp-to : s.kp ≤ 1000
  pub ki-from : 10 ≤ s.ki
  pub ki-to : s.ki ≤ 500
  pub limit-from : 1 ≤ up s.limit.0
  pub limit-to : up s.limit.0 ≤ 100_000
  pub window-from : 2 ≤ s.watch.window
  pub window-to : s.watch.window ≤ 128
  pub minimum-from : 2 ≤ s.watch.minimum
  pub minimum-to : s.watch.minimum ≤ s.watch.window
  pub holdoff-to : s.watch.holdoff ≤ 10
  pub tolerance-to : s.watch.tolerance ≤ 100_000_000
  pub spike-from : 1 ≤ s.watch.spike
  pub spike-to : s.watch.spike ≤ 999_999_998
  pub jump-from : s.watch.spike < s.watch.jump
  pub jump_to : s.watch.jump ≤ 999_999_999

-- both hold
pub split : (a b : Bool) → (a && b) ≡ true → (a ≡ true) × (b ≡ true)
split true b e = (refl, e)
split false b e = absurd (subst T (sym e) tt)

isnt : (b : Bool) → not b ≡ true → b ≡ false
isnt true e = sym e
isnt false e = refl

-- a word between two ends
ends : (low : ℕ) (x high : ℤ) → is_between (pos low) x high ≡ true → (low ≤ up x) × (up x ≤ up high)
ends low x high e =
    let h = split (not (lt_z x (pos low))) (le_z x high) e in
    let from = lt_z-false x (pos low) (isnt (lt_z x (pos low)) h.0) in
    let to = le_z-true x high h.1 in
    (omega (arith, one_side x), omega (arith, one_side x, one_side high))

-- a word above another, which is not below 1
over : (x y : ℤ) → 1 ≤ up x → lt_z x y ≡ true → up x < up y
over x y h e = let k = lt_z-true x y e in omega (arith, one_side x, one_side y)

-- a word that a type holds is not cut
as-given : (x : ℤ) (most : ℕ) → up x ≤ most → min most (up x) ≡ up x
as-given x most h = omega arith

module _ (g : Given) where
  abbrev announce : Bool
  announce = is_between (pos 0) g.announce (pos 4)

  abbrev sync : Bool
  sync = is_between (pos 0) g.sync (pos 7)

  abbrev kp : Bool
  kp = is_between (pos 100) g.kp (pos 1000)

  abbrev ki : Bool
  ki = is_between (pos 10) g.ki (pos 500)

  abbrev limit : Bool
  limit = is_between (pos 1) g.limit (pos 100_000)

  abbrev window : Bool
  window = is_between (pos 2) g.window (pos 128)

  abbrev minimum : Bool
  minimum = is_between (pos 2) g.minimum g.window

  abbrev holdoff : Bool
  holdoff = is_between (pos 0) g.holdoff (pos 10)

  abbrev tolerance : Bool
  tolerance = is_between (pos 0) g.tolerance (pos 100_000_000)

  abbrev spike : Bool
  spike = is_between (pos 1) g.spike (pos 999_999_998)

  abbrev above : Bool
  above = lt_z g.spike g.jump

  abbrev jump : Bool
  jump = le_z g.jump (pos 999_999_999)

  pub in-ranges : steering_fits g ≡ true → watch_fits g ≡ true → Ranges (as_given g)
  unfolding steering_fits watch_fits
  in-ranges e f =
      let steers = split ((announce && sync) && (kp && ki)) limit e in
      let few = split (announce && sync) (kp && ki) steers.0 in
      let exponents = split announce sync few.0 in
      let gains = split kp ki few.1 in
      let watches = split ((window && minimum) && (holdoff && tolerance)) (spike && (above && jump)) f in
      let rest = split (window && minimum) (holdoff && tolerance) watches.0 in
      let samples = split window minimum rest.0 in
      let times = split holdoff tolerance rest.1 in
      let leaps = split spike (above && jump) watches.1 in
      let jumps = split above jump leaps.1 in
      let spikes = ends 1 g.spike (pos 999_999_998) leaps.0 in
      record {
        announce-to = (ends 0 g.announce (pos 4) exponents.0).1;
        sync-to = (ends 0 g.sync (pos 7) exponents.1).1;
        kp-from = (ends 100 g.kp (pos 1000) gains.0).0;
        kp-to = (ends 100 g.kp (pos 1000) gains.0).1;
        ki-from = (ends 10 g.ki (pos 500) gains.1).0;
        ki-to = (ends 10 g.ki (pos 500) gains.1).1;
        limit-from = (ends 1 g.limit (pos 100_000) steers.1).0;
        limit-to = (ends 1 g.limit (pos 100_000) steers.1).1;
        window-from = (ends 2 g.window (pos 128) samples.0).0;
        window-to = (ends 2 g.window (pos 128) samples.0).1;
        minimum-from = (ends 2 g.minimum g.window samples.1).0;
        minimum-to = (ends 2 g.minimum g.window samples.1).1;
        holdoff-to = (ends 0 g.holdoff (pos 10) times.0).1;
        tolerance-to = (ends 0 g.tolerance (pos 100_000_000) times.1).1;
        spike-from = spikes.0;
        spike-to = spikes.1;
        jump-from = over g.spike g.jump spikes.0 jumps.0;
        jump_to = let h = le_z-true g.jump (pos 999_999_999) jumps.1 in omega (arith, one_side g.jump);
      }

  -- and so the types hold them
  pub as-set : steering_fits g ≡ true → watch_fits g ≡ true → narrowed_of g ≡ as_given g
  as-set e f =
      let r = in-ranges e f in
      rw (
        as-given g.announce 255 (omega (arith, r.announce-to)),
        as-given g.sync 255 (omega (arith, r.sync-to)),
        as-given g.kp 65_535 (omega (arith, r.kp-to)),
        as-given g.ki 65_535 (omega (arith, r.ki-to)),
        as-given g.limit 2_147_483_647 (omega (arith, r.limit-to)),
        as-given g.window 255 (omega (arith, r.window-to)),
        as-given g.minimum 255 (omega (arith, r.window-to, r.minimum-to)),
        as-given g.holdoff 255 (omega (arith, r.holdoff-to)),
        as-given g.tolerance 4_294_967_295 (omega (arith, r.tolerance-to)),
        as-given g.spike 4_294_967_295 (omega (arith, r.spike-to)),
        as-given g.jump 4_294_967_295 (omega (arith, r.jump_to)),
      )
