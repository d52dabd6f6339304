-- Accepted settings: they are those given, each in its range, and so whatever clamps a setting leaves them as they were set.
use Rattle.std.specs.Prelude.{Ok, Err}
use mathlib.Core.Path.{◌≡◌, refl, sym, subst, ◌∙◌}
use mathlib.Core.Bool.{Bool, true, false, cond, ◌&&◌, not}
use Prim.Native.Nat.{ℕ, ◌≤◌, min}
use native.Mathlib.Omega.{arith}
use Rattle.numbers.specs.Integers.{up}
use Rattle.numbers.specs.declared.refusal.Refusal.TheVariants.{Settings as Outside}
use Rattle.numbers.specs.Grounds.{first_of, answer_by}
use Rattle.numbers.specs.Orders.{of_making}
use Rattle.rules_watch.specs.Settings.{size_of, least_of, wait_of}
use Rattle.rules_settings.specs.declared.Settings.{Settings}
use Rattle.rules_settings.specs.declared.Given.{Given}
use Rattle.rules_settings.specs.Ranges.{steering_fits, watch_fits, as_given, settings_of}
use Rattle.rules_settings.proofs.Narrowing.{Ranges, split, in-ranges}

-- the answer by its test, without the list of refusals
making-order : (b : Bool) (s : Settings) → answer_by Err (Ok s) (first_of (of_making (not b))) ≡ cond b (Ok s) (Err Outside)
unfolding first_of
making-order true s = refl
making-order false s = refl

pub settings-is : (g : Given) → settings_of g ≡ cond (steering_fits g && watch_fits g) (Ok (as_given g)) (Err Outside)
settings-is g = making-order (steering_fits g && watch_fits g) (as_given g)

module _ (g : Given) (s : Settings) (e : settings_of g ≡ Ok s) where
  pub accepted-ranges : Ranges s
  accepted-ranges = go (steering_fits g && watch_fits g) refl (sym (settings-is g) ∙ e)
    where
      go : (b : Bool) → (steering_fits g && watch_fits g) ≡ b → cond b (Ok (as_given g)) (Err Outside) ≡ Ok s → Ranges s
      go true p f =
          let q : as_given g ≡ s = cc in
          let h = split (steering_fits g) (watch_fits g) p in
          subst Ranges q (in-ranges g h.0 h.1)
      go false p f = let z : ◌≡◌ {A = ℕ} 0 1 = cc in absurd (omega arith)

  -- window, minimum and holdoff of the watch
  pub accepted-size : size_of s.watch ≡ s.watch.window
  accepted-size = let r = accepted-ranges in omega (arith, r.window-from, r.window-to)

  pub accepted-least : least_of s.watch ≡ s.watch.minimum
  accepted-least = let r = accepted-ranges in omega (arith, r.minimum-from)

  pub accepted-wait : wait_of s.watch ≡ s.watch.holdoff
  accepted-wait = let r = accepted-ranges in omega (arith, r.holdoff-to)

  -- the servo's limit in ppb: rules_servo's limit_of has this `min`
  pub accepted-limit : min 100_000 (up s.limit.0) ≡ up s.limit.0
  accepted-limit = let r = accepted-ranges in omega (arith, r.limit-to)

  -- the announce exponent: rules_masters' interval_of has this `min`; and the sync exponent, which rules_servo takes from 7
  pub accepted-announce : min s.announce 4 ≡ s.announce
  accepted-announce = let r = accepted-ranges in omega (arith, r.announce-to)

  pub accepted-exponent : s.sync ≤ 7
  accepted-exponent = accepted-ranges.sync-to
