-- What holds of every servo and every offset, and P7 to P10 (rules 11.7 to 11.10).
use mathlib.Core.Path.{◌≡◌, refl}
use mathlib.Core.Bool.{Bool, true, false, cond}
use mathlib.Core.List.{List, [], ◌∷◌}
use Prim.Native.Nat.{ℕ, ◌≤◌, min}
use native.Mathlib.Omega.{arith}
use lib.IntN.{ℤ, pos, negsuc, nat_abs}
use Rattle.numbers.specs.Integers.{up}
use Rattle.numbers.proofs.Integers.{within-abs}
use Rattle.numbers.specs.Rounding.{rounded_of}
use Rattle.rules_servo.specs.declared.Servo.{Servo}
use Rattle.rules_servo.specs.declared.shown.Shown.TheVariants.{Adjusting}
use Rattle.rules_servo.specs.Offsets.{last_ten, swings_of, opposites_in}
use Rattle.rules_servo.specs.Ten.{list_of}
use Rattle.rules_servo.specs.Steps.{held_offset, limit_of, integral_with, output_with, steered_servo, half_gain, halved_servo, stepped_servo, fresh_servo}
use Rattle.rules_servo.specs.Shows.{is_tracking, shown_of}
use Rattle.rules_servo.proofs.Limits.{held_same}
use Rattle.rules_servo.proofs.Tens.{noted-list}
use Rattle.rules_servo.proofs.Steering.{integral-within, output-within}

-- an accepted offset is taken as it is
pub accepted-same : (x : ℤ) → nat_abs x ≤ 100_000_000 → held_offset x ≡ x
accepted-same x h = held_same 100_000_000 x h

-- the offsets swing with this one
abbrev pub swings_with : Servo → ℤ → Bool
swings_with s x = swings_of (last_ten x (list_of s.ten))

-- what holds with a halving and without one
either : (P : Servo → Type 0) (b : Bool) (s t : Servo) → P s → P t → P (cond b s t)
either P true s t p q = p
either P false s t p q = q

-- For any servo and any offset. The limit is in units of 1/128,000 ppb.
module _ (s : Servo) (x : ℤ) (k limit : ℕ) where
  stepped : (P : Servo → Type 0) → P (halved_servo (steered_servo s x k limit)) → P (steered_servo s x k limit) → P (stepped_servo s x k limit)
  unfolding stepped_servo
  stepped P p q = either P (swings_with s x) (halved_servo (steered_servo s x k limit)) (steered_servo s x k limit) p q

  -- I never passes the limit
  pub integral-kept : nat_abs (stepped_servo s x k limit).integral ≤ limit
  integral-kept = stepped (λ t. nat_abs t.integral ≤ limit) (omega arith) (within-abs (integral-within s x k limit))

  -- a gain of 1 or more stays so
  pub kp-kept : 1 ≤ s.kp → 1 ≤ (stepped_servo s x k limit).kp
  kp-kept h = stepped (λ t. 1 ≤ t.kp) (omega arith) h

  pub ki-kept : 1 ≤ s.ki → 1 ≤ (stepped_servo s x k limit).ki
  ki-kept h = stepped (λ t. 1 ≤ t.ki) (omega arith) h

  -- the output is made with the gains before a halving
  pub output-first : (stepped_servo s x k limit).output.0 ≡ output_with s x k limit
  output-first = stepped (λ t. t.output.0 ≡ output_with s x k limit) refl refl

  -- after a halving the ten are empty and I is 0
  pub halving : swings_with s x ≡ true →
      (list_of (stepped_servo s x k limit).ten ≡ []) × ((stepped_servo s x k limit).integral ≡ pos 0)
      × ((stepped_servo s x k limit).kp ≡ half_gain s.kp) × ((stepped_servo s x k limit).ki ≡ half_gain s.ki)
  unfolding stepped_servo
  halving e = rw e (refl, refl, refl, refl)

  -- without one the gains stay, and the last ten offsets are held with this one
  pub no-halving : swings_with s x ≡ false →
      (list_of (stepped_servo s x k limit).ten ≡ last_ten x (list_of s.ten))
      × ((stepped_servo s x k limit).kp ≡ s.kp) × ((stepped_servo s x k limit).ki ≡ s.ki)
  unfolding stepped_servo
  no-halving e = rw e (noted-list s.ten x, refl, refl)

-- rule 8.8: the output never passes the set limit, in ppb: `up (pos n)` is n
pub output-kept : (s : Servo) (x : ℤ) (k : ℕ) (limit : ℤ) → nat_abs (stepped_servo s x k (limit_of limit)).output.0 ≤ up limit
output-kept s x k limit =
    rw (output-first s x k (limit_of limit)) (omega (arith, within-abs (output-within s x k (limit_of limit) (min 100_000 (up limit)) refl)))

-- a fresh servo holds no offset, and is adjusting
pub fresh-empty : (kp ki : ℕ) → list_of (fresh_servo kp ki).ten ≡ []
fresh-empty kp ki = refl

pub fresh-adjusting : (kp ki : ℕ) → shown_of (fresh_servo kp ki) false ≡ Adjusting
unfolding is_tracking
fresh-adjusting kp ki = refl

-- ---- examples, at k 0 and limit 100,000: a step, the servo after a list of offsets, and its outputs on the way
abbrev pub next : Servo → ℤ → Servo
next s offset = stepped_servo s (held_offset offset) 0 (limit_of (pos 100_000))

abbrev pub after : Servo → List ℤ → Servo
after s [] = s
after s (x ∷ l) = after (next s x) l

abbrev pub outputs : Servo → List ℤ → List ℤ
outputs s [] = []
outputs s (x ∷ l) = (next s x).output.0 ∷ outputs (next s x) l

abbrev bench : Servo
bench = fresh_servo 700 300

pub p7 : outputs bench (pos 250 ∷ (pos 250 ∷ [])) ≡ pos 250 ∷ (pos 325 ∷ [])
unfolding integral_with output_with stepped_servo rounded_of opposites_in
p7 = refl

pub p8 : outputs bench (pos 50_000 ∷ []) ≡ pos 50_000 ∷ []
unfolding integral_with output_with stepped_servo rounded_of opposites_in
p8 = refl

pub p9 : outputs bench (pos 100_000_000 ∷ []) ≡ pos 100_000 ∷ []
unfolding integral_with output_with stepped_servo rounded_of opposites_in
p9 = refl

pub p10 : (outputs (fresh_servo 490 10) (pos 1 ∷ []) ≡ pos 0 ∷ []) × (outputs (fresh_servo 490 10) (pos 3 ∷ []) ≡ pos 2 ∷ [])
unfolding integral_with output_with stepped_servo rounded_of opposites_in
p10 = (refl, refl)

-- six neighbours of opposite sign among ten, and five; zero has no sign
abbrev six : List ℤ
six = pos 9 ∷ negsuc 8 ∷ pos 9 ∷ negsuc 8 ∷ pos 9 ∷ negsuc 8 ∷ pos 9 ∷ pos 9 ∷ pos 9 ∷ pos 9 ∷ []

abbrev five : List ℤ
five = pos 9 ∷ negsuc 8 ∷ pos 9 ∷ negsuc 8 ∷ pos 9 ∷ negsuc 8 ∷ pos 0 ∷ pos 9 ∷ pos 9 ∷ pos 9 ∷ []

pub six-halve : ((after bench six).kp ≡ 350) × ((after bench six).ki ≡ 150) × ((after bench six).integral ≡ pos 0) × ((after bench six).output.0 ≡ pos 17)
unfolding integral_with output_with stepped_servo rounded_of opposites_in
six-halve = (refl, refl, refl, refl)

pub five-do-not : ((after bench five).kp ≡ 700) × ((after bench five).ki ≡ 300)
unfolding integral_with output_with stepped_servo rounded_of opposites_in
five-do-not = (refl, refl)
