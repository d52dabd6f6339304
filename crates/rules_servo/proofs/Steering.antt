-- Laws of I, of the output and of a step. The limit is in units of 1/128,000 ppb.
use mathlib.Core.Path.{◌≡◌, ap, ap₂, ◌∙◌}
use mathlib.Core.Bool.{Bool, cond}
use Prim.Native.Nat.{ℕ, ◌*◌, ◌-◌, ◌^◌, ◌<◌, ◌≤◌}
use native.Mathlib.Omega.{arith}
use lib.IntN.{ℤ, pos, ◌+ℤ◌, ◌*ℤ◌}
use lib.Pow.{pow_mono}
use Rattle.numbers.specs.Integers.{Within}
use Rattle.numbers.proofs.Integers.{within-mul, within-abs}
use Rattle.numbers.specs.Rounding.{held_within}
use Rattle.numbers.proofs.Rounds.{held-within}
use Rattle.rules_servo.specs.declared.Servo.{Servo}
use Rattle.rules_servo.specs.Offsets.{swings_of}
use Rattle.rules_servo.specs.Ten.{list_of}
use Rattle.rules_servo.specs.Steps.{integral_with, output_with, steered_servo, halved_servo, stepped_servo}
use Rattle.rules_servo.proofs.Limits.{held-far, whole-within}
use Rattle.rules_servo.proofs.Tens.{noted-list}

pub pace-within : (k : ℕ) → Within 128 (pos (2 ^ (7 - k)))
pace-within k = omega (arith, pow_mono {i = 7 - k} {j = 7} (omega arith))

pub gain-within : {g : ℕ} → g < 65_536 → Within 65_535 (pos g)
gain-within h = omega arith

module _ (s : Servo) (x : ℤ) (k limit : ℕ) where
  -- an I beyond FAR may as well be at FAR: no offset brings it back within the limit
  pub integral-far : Within 100_000_000 x → s.ki < 65_536 → limit ≤ 12_800_000_000 → held_within limit (held_within 1_000_000_000_000_000 s.integral +ℤ pos s.ki *ℤ x *ℤ pos (2 ^ (7 - k))) ≡ integral_with s x k limit
  unfolding integral_with
  integral-far w h l =
      let g = within-mul (within-mul (gain-within h) w) (pace-within k) in
      held-far limit 1_000_000_000_000_000 s.integral (pos s.ki *ℤ x *ℤ pos (2 ^ (7 - k))) (omega (arith, within-abs g))

  -- I and the output do not pass the limit
  pub integral-within : Within limit (integral_with s x k limit)
  unfolding integral_with
  integral-within = held-within limit (s.integral +ℤ pos s.ki *ℤ x *ℤ pos (2 ^ (7 - k)))

  pub output-within : (ppb : ℕ) → limit ≡ ppb * 128_000 → Within ppb (output_with s x k limit)
  unfolding output_with
  output-within ppb e =
      let z = pos s.kp *ℤ x *ℤ pos 128 +ℤ integral_with s x k limit in
      whole-within ppb (held_within limit z) (let w = held-within limit z in omega arith)

  -- a step by its parts: r is the servo with the offset, b whether its ten swing
  pub step_of : (r : Servo) (b : Bool) → r ≡ steered_servo s x k limit → b ≡ swings_of (list_of r.ten) → cond b (halved_servo r) r ≡ stepped_servo s x k limit
  unfolding stepped_servo
  step_of r b e f =
      ap₂ (λ (c : Bool) (t : Servo). cond c (halved_servo t) t)
      (f ∙ ap (λ (t : Servo). swings_of (list_of t.ten)) e ∙ ap swings_of (noted-list s.ten x))
      e
