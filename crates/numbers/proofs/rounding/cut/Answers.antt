-- `cut` meets its contract: a shift of the bits is the floor.
use Rattle.std.proofs.Common.{◌≡◌, refl, ℕ, ℤ, pos, negsuc, rules}
use lib.Signed.{shr_z}
use Rattle.numbers.specs.Rounding.{floor_z}
use Rattle.numbers.proofs.rounding.cut.Goals as goal

shift-floor : (z : ℤ) (d : ℕ) → shr_z z d ≡ floor_z d z
unfolding floor_z
shift-floor (pos n) d = refl
shift-floor (negsuc n) d = refl

pub returns-clause-value : goal.returns-clause-value
returns-clause-value c = search (rules, shift-floor)
