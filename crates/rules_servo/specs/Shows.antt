-- What the servo shows (rules 6.2 to 6.4).
use Rattle.std.specs.Prelude.{Bool, true, cond, ◌&&◌, List, [], ◌∷◌, ℕ, ◌+◌, leb, ltb, eqb, length, ℤ, pos, nat_abs, ◌+ℤ◌, ◌-ℤ◌, ◌*ℤ◌}
use Rattle.std.specs.Int.Signed.{lt_z}
use Rattle.rules_servo.specs.declared.Servo.{Servo}
use Rattle.rules_servo.specs.declared.shown.Shown.{Shown}
use Rattle.rules_servo.specs.declared.shown.Shown.TheVariants.{Holdover, Tracking, Adjusting}
use Rattle.rules_servo.specs.Ten.{list_of}

unfoldable pub sum : List ℤ → ℤ
sum [] = pos 0
sum (x ∷ l) = x +ℤ sum l

unfoldable pub squares : List ℤ → ℤ
squares [] = pos 0
squares (x ∷ l) = x *ℤ x +ℤ squares l

-- each from -99 to 99
unfoldable pub near : List ℤ → Bool
near [] = true
near (x ∷ l) = leb (nat_abs x) 99 && near l

-- of ten offsets a hundred times their variance
abbrev pub spread : List ℤ → ℤ
spread l = pos 10 *ℤ squares l -ℤ sum l *ℤ sum l

-- TRACKING (rule 6.3)
unfoldable pub is_tracking : List ℤ → Bool
is_tracking l = eqb (length l) 10 && (near l && lt_z (spread l) (pos 5000))

-- HOLDOVER (rule 6.2): where nothing was measured since the wipe, there is none
abbrev pub is_holdover : Bool → ℕ → ℕ → Bool
is_holdover measured last now = measured && ltb (last + 10_000) now

-- the first of the three that holds
abbrev pub shown_of : Servo → Bool → Shown
shown_of s holdover = cond holdover Holdover (cond (is_tracking (list_of s.ten)) Tracking Adjusting)
