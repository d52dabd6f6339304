-- A suffix of whole, even TLVs (rule 2.8): two octets of type, two of length, the value; the last ends where the suffix does.
use Rattle.std.specs.Prelude.{Bool, true, false, cond, List, ℕ, zero, suc, ◌+◌, ◌-◌, ◌%◌, ltb, eqb, length, drop}
use Rattle.wire_octets.specs.Octets.{num}
use Rattle.wire_layout.specs.declared.suffix.Tlv.{Tlv}
use Rattle.wire_layout.specs.declared.suffix.Tlv.TheVariants.{End, Whole, Broken}

-- what t begins with
unfoldable pub tlv_of : List ℕ → Tlv
tlv_of t =
    cond (eqb (length t) 0) End
    (cond (ltb (length t) 4) Broken
    (cond (eqb (num 2 2 t % 2) 0)
    (cond (ltb (length t - 4) (num 2 2 t)) Broken (Whole (num 2 0 t) (num 2 2 t)))
    Broken))

-- whether t is whole TLVs, by what it begins with and by `rest` for what follows
abbrev pub whole_from : (List ℕ → Bool) → List ℕ → Tlv → Bool
whole_from rest t End = true
whole_from rest t (Whole k n) = rest (drop (4 + n) t)
whole_from rest t Broken = false

unfoldable pub whole_within : ℕ → List ℕ → Bool
whole_within zero t = false
whole_within (suc turns) t = whole_from (whole_within turns) t (tlv_of t)

-- `length t` turns are enough, since each takes four octets or more
abbrev pub whole_of : List ℕ → Bool
whole_of t = whole_within (suc (length t)) t
