-- The last ten offsets since the wipe, as the record holds them.
use Rattle.std.specs.Prelude.{List, ◌+◌, min, take, replicate, ℤ, pos}
use Rattle.rules_servo.specs.declared.ten.Ten.{Ten}
use Rattle.rules_servo.specs.Offsets.{last_ten}

-- the offsets held, the newest first
abbrev pub list_of : Ten → List ℤ
list_of t = take (min 10 t.count) t.offsets

-- none held, and the memory cleared
abbrev pub empty_ten : Ten
empty_ten = record { offsets = replicate 10 (pos 0); count = 0 }

-- with one more: proofs/Tens.antt shows that the offsets held are then the last ten
abbrev pub ten_with : Ten → ℤ → Ten
ten_with t x = record { offsets = last_ten x t.offsets; count = min 10 (t.count + 1) }
