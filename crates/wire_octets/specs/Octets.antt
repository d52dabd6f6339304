-- Big-endian numbers over the width: `num k at s` is the number in the k octets of s from `at`, `part k at s` are those octets, `big_endian k x` the k octets of x.
use Rattle.std.specs.Prelude.{List, [], ◌∷◌, ◌++◌, ℕ, zero, suc, ◌+◌, ◌*◌, ◌/◌, ◌%◌, ◌^◌, length, get_or, take, drop}

unfoldable pub num : ℕ → ℕ → List ℕ → ℕ
num zero at s = 0
num (suc k) at s = num k at s * 256 + get_or s (at + k) 0

-- the k octets of s from `at`
unfoldable pub part : ℕ → ℕ → List ℕ → List ℕ
part zero at s = []
part (suc k) at s = get_or s at 0 ∷ part k (suc at) s

-- x without its last k octets
abbrev pub shift : ℕ → ℕ → ℕ
shift zero x = x
shift (suc k) x = x / 256 ^ suc k

unfoldable pub big_endian : ℕ → ℕ → List ℕ
big_endian zero x = []
big_endian (suc k) x = shift k x % 256 ∷ big_endian k x

-- d with a in place of what was there from `at`
abbrev pub put : List ℕ → ℕ → List ℕ → List ℕ
put d at a = take at d ++ a ++ drop (at + length a) d
