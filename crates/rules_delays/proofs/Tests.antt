-- A test is not both.
use mathlib.Core.Path.{◌≡◌, sym, subst}
use mathlib.Core.Bool.{true, false}
use lib.Dec.{T}

pub never : false ≡ true → ⊥
never e = subst T (sym e) tt
