-- What one accepted offset makes of the servo (rules 8.1 to 8.7). I and the output before rounding are in units of 1/128,000 ppb.
use Rattle.std.specs.Prelude.{cond, ℕ, ◌*◌, ◌/◌, ◌-◌, ◌^◌, min, max, ℤ, pos, ◌+ℤ◌, ◌*ℤ◌}
use Rattle.numbers.specs.Integers.{up}
use Rattle.numbers.specs.Rounding.{half_to_even, held_within}
use Rattle.rules_servo.specs.declared.Servo.{Servo}
use Rattle.rules_servo.specs.Offsets.{last_ten, swings_of}
use Rattle.rules_servo.specs.Ten.{list_of, empty_ten, ten_with}

-- An accepted offset is at most 100,000,000 either way: one beyond is a STEP and does not come here. If it did, it would be taken as 100,000,000.
abbrev pub held_offset : ℤ → ℤ
held_offset = held_within 100_000_000

-- the limit in units (rule 8.1). One beyond, which no accepted setting gives, is taken as 0 or as 100,000 ppb.
abbrev pub limit_of : ℤ → ℕ
limit_of limit = min 100_000 (up limit) * 128_000

-- I (rule 8.2)
unfoldable pub integral_with : Servo → ℤ → ℕ → ℕ → ℤ
integral_with s offset k limit = held_within limit (s.integral +ℤ pos s.ki *ℤ offset *ℤ pos (2 ^ (7 - k)))

-- the output (rule 8.3)
unfoldable pub output_with : Servo → ℤ → ℕ → ℕ → ℤ
output_with s offset k limit = half_to_even 128_000 (held_within limit (pos s.kp *ℤ offset *ℤ pos 128 +ℤ integral_with s offset k limit))

-- the servo with this offset: I, the output and the last ten (rule 8.5)
abbrev pub steered_servo : Servo → ℤ → ℕ → ℕ → Servo
steered_servo s offset k limit =
    record { integral = integral_with s offset k limit; kp = s.kp; ki = s.ki; ten = ten_with s.ten offset; output = record { 0 = output_with s offset k limit } }

-- half a gain, rounded down, and 1 at least
abbrev pub half_gain : ℕ → ℕ
half_gain g = max 1 (g / 2)

-- after a swing (rule 8.7)
abbrev pub halved_servo : Servo → Servo
halved_servo s = record { integral = pos 0; kp = half_gain s.kp; ki = half_gain s.ki; ten = empty_ten; output = s.output }

-- one accepted offset, itself among the ten that may swing: the output is made before the gains are halved
unfoldable pub stepped_servo : Servo → ℤ → ℕ → ℕ → Servo
stepped_servo s offset k limit = cond (swings_of (last_ten offset (list_of s.ten))) (halved_servo (steered_servo s offset k limit)) (steered_servo s offset k limit)

-- as after a wipe (rule 10.8)
abbrev pub fresh_servo : ℕ → ℕ → Servo
fresh_servo kp ki = record { integral = pos 0; kp = kp; ki = ki; ten = empty_ten; output = record { 0 = pos 0 } }
