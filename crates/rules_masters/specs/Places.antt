-- Places of the table (rules 5.1 and 5.6).
use Rattle.std.specs.Prelude.{ℕ, suc, Bool, cond, List, [], ◌∷◌, replicate}
use Rattle.rules_masters.specs.declared.table.Table.{Table}
use Rattle.rules_masters.specs.Records.{fresh_record}

module _ {A : Type 0} (p : A → Bool) where
  -- the first place at which p holds, counted from 0; the length of the list where there is none
  unfoldable pub place_of : List A → ℕ
  place_of [] = 0
  place_of (x ∷ l) = cond (p x) 0 (suc (place_of l))

  -- how many there are of which p holds
  unfoldable pub count_of : List A → ℕ
  count_of [] = 0
  count_of (x ∷ l) = cond (p x) (suc (count_of l)) (count_of l)

-- what a fresh unit is lent
abbrev pub fresh_table : Table
fresh_table = record { records = replicate 5 fresh_record }
