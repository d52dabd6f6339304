-- After any offsets the servo's memory is what they say.
use mathlib.Core.Path.{◌≡◌, refl, sym, ap, ◌∙◌}
use mathlib.Core.List.{List, [], ◌∷◌}
use mathlib.Core.Bool.{Bool, true, false, cond}
use Prim.Native.Nat.{ℕ}
use native.Mathlib.Omega.{arith}
use lib.IntN.{ℤ}
use lib.ListN.{take}
use lib.Seq.{take-take}
use Rattle.rules_servo.specs.declared.Servo.{Servo}
use Rattle.rules_servo.specs.Offsets.{last_ten, swings_of}
use Rattle.rules_servo.specs.Ten.{list_of}
use Rattle.rules_servo.specs.Steps.{integral_with, output_with, steered_servo, halved_servo, stepped_servo, fresh_servo}
use Rattle.rules_servo.proofs.Tens.{noted-list}
use Rattle.story_servo.specs.Offsets.{current, swing_count, ten, gain_after, gained, integral, output}

module _ (kp ki k limit : ℕ) where
  pub record Tells (l : List ℤ) (s : Servo) : Type 0 where
    pub proportional : s.kp ≡ gain_after kp (swing_count l)
    pub integrating : s.ki ≡ gain_after ki (swing_count l)
    pub summed : s.integral ≡ integral kp ki k limit l
    pub held : list_of s.ten ≡ ten l
    pub put : s.output.0 ≡ output kp ki k limit l

  module _ (l : List ℤ) (s : Servo) (h : Tells l s) (x : ℤ) where
    this-too : last_ten x (list_of s.ten) ≡ take 10 (x ∷ current l)
    this-too = rw h.held (ap (λ (r : List ℤ). x ∷ r) (take-take 9 10 (current l) (omega arith)))

    gains : integral_with s x k limit ≡ gained (gain_after ki (swing_count l)) k limit (x ∷ current l)
    unfolding integral_with gained
    gains = rw (h.summed, h.integrating)

    puts : output_with s x k limit ≡ output kp ki k limit (x ∷ l)
    unfolding output_with
    puts = rw (gains, h.proportional)

    pub step : Tells (x ∷ l) (stepped_servo s x k limit)
    unfolding stepped_servo current swing_count gain_after gained
    step = go (swings_of (last_ten x (list_of s.ten))) (sym (ap (λ (r : List ℤ). swings_of r) this-too))
      where
        go : (b : Bool) → swings_of (take 10 (x ∷ current l)) ≡ b → Tells (x ∷ l) (cond b (halved_servo (steered_servo s x k limit)) (steered_servo s x k limit))
        go true e = record { proportional = rw (e, h.proportional); integrating = rw (e, h.integrating); summed = rw e; held = rw e; put = puts }
        go false e = record { proportional = rw (e, h.proportional); integrating = rw (e, h.integrating); summed = rw e gains; held = rw e (noted-list s.ten x ∙ this-too); put = puts }

  -- the servo that the code makes of the same offsets
  unfoldable pub machine : List ℤ → Servo
  machine [] = fresh_servo kp ki
  machine (x ∷ before) = stepped_servo (machine before) x k limit

  -- the theorem
  pub tells : (l : List ℤ) → Tells l (machine l)
  unfolding machine current swing_count gain_after gained
  tells [] = record { proportional = refl; integrating = refl; summed = refl; held = refl; put = refl }
  tells (x ∷ before) = step before (machine before) (tells before) x
