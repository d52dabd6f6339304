-- P7 to P10 (rules 11.7 to 11.10), by computation over the offsets since the wipe.
use mathlib.Core.Path.{◌≡◌, refl}
use mathlib.Core.List.{List, [], ◌∷◌}
use Prim.Native.Nat.{ℕ, ◌*◌}
use lib.IntN.{ℤ, pos, negsuc}
use Rattle.numbers.specs.Rounding.{rounded_of}
use Rattle.rules_servo.specs.Offsets.{opposites_in}
use Rattle.story_servo.specs.Offsets.{current, swing_count, gain_after, gained, integral, output}

abbrev limit : ℕ
limit = 100_000 * 128_000

P7 : output 700 300 0 limit (pos 250 ∷ []) ≡ pos 250
unfolding current swing_count gain_after gained rounded_of opposites_in
P7 = refl

P7-again : output 700 300 0 limit (pos 250 ∷ pos 250 ∷ []) ≡ pos 325
unfolding current swing_count gain_after gained rounded_of opposites_in
P7-again = refl

P8 : output 700 300 0 limit (pos 50_000 ∷ []) ≡ pos 50_000
unfolding current swing_count gain_after gained rounded_of opposites_in
P8 = refl

P9 : output 700 300 0 limit (pos 100_000_000 ∷ []) ≡ pos 100_000
unfolding current swing_count gain_after gained rounded_of opposites_in
P9 = refl

P10 : output 490 10 0 limit (pos 1 ∷ []) ≡ pos 0
unfolding current swing_count gain_after gained rounded_of opposites_in
P10 = refl

P10-three : output 490 10 0 limit (pos 3 ∷ []) ≡ pos 2
unfolding current swing_count gain_after gained rounded_of opposites_in
P10-three = refl

-- ten offsets that swing: the gains are halved once, I is 0 and the ten are empty
abbrev swinging-ten : List ℤ
swinging-ten = pos 5 ∷ negsuc 4 ∷ pos 5 ∷ negsuc 4 ∷ pos 5 ∷ negsuc 4 ∷ pos 5 ∷ negsuc 4 ∷ pos 5 ∷ negsuc 4 ∷ []

swung : (gain_after 700 (swing_count swinging-ten) ≡ 350) × (current swinging-ten ≡ []) × (integral 700 300 0 limit swinging-ten ≡ pos 0)
unfolding current swing_count gain_after gained opposites_in
swung = (refl, refl, refl)
