-- The parts of a function's code that a walk names. It says nothing of the door.
-- Assumes nothing.
use Prim.Native.Nat.{ℕ, zero, suc}
use mir.Syntax.{Body as Code, skip, seq, assign, block, loop, cond as if-then, switch, exit, return, unreachable, call, call_v, lend_static}

-- what a test runs where it holds
abbrev pub then-of : Code → Code
then-of skip = skip
then-of (seq a b) = skip
then-of (assign p v) = skip
then-of (block a) = skip
then-of (loop a) = skip
then-of (if-then c a b) = a
then-of (switch c m) = skip
then-of (exit n) = skip
then-of return = skip
then-of unreachable = skip
then-of (call f xs p) = skip
then-of (call_v f g xs p) = skip
then-of (lend_static p τ c) = skip

-- the first statement and the others
abbrev halves_of : Code → Code × Code
halves_of skip = (skip, skip)
halves_of (seq a b) = (a, b)
halves_of (assign p v) = (skip, skip)
halves_of (block a) = (skip, skip)
halves_of (loop a) = (skip, skip)
halves_of (if-then c a b) = (skip, skip)
halves_of (switch c m) = (skip, skip)
halves_of (exit n) = (skip, skip)
halves_of return = (skip, skip)
halves_of unreachable = (skip, skip)
halves_of (call f xs p) = (skip, skip)
halves_of (call_v f g xs p) = (skip, skip)
halves_of (lend_static p τ c) = (skip, skip)

abbrev pub first_of : Code → Code
first_of c = (halves_of c).0

-- the statements after the first n
abbrev pub past : ℕ → Code → Code
past zero c = c
past (suc n) c = past n (halves_of c).1
