-- The buffer: what is told of its writes, of which `failed` is the first that failed, and what is gathered in it.
use Rattle.std.specs.Prelude.{◌≡◌, Option, None, Some, Result, Ok, Err, ℕ, ◌-◌, min, ltb, cond, List, [], length}

-- one that failed is told, and no other
abbrev pub told_by : {E : Type 0} → Option E → Result (Unit {0}) E
told_by None = Ok tt
told_by (Some e) = Err e

-- once one has failed it stays the first
abbrev pub Kept : {E : Type 0} → (before after : Option E) → Type 0
Kept None after = Unit {0}
Kept (Some e) after = after ≡ Some e

-- how many octets of a text there is room for behind those that are gathered
abbrev pub fitting : (gathered text : List ℕ) → ℕ
fitting gathered text = min (65_536 - length gathered) (length text)

-- what stays gathered when more comes: a full buffer is written out first
abbrev pub staying : (gathered : List ℕ) → List ℕ
staying gathered = cond (ltb (length gathered) 65_536) gathered []
