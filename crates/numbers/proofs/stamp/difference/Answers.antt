-- `difference` meets its contract: what is the difference's value is exact over 48 bits, and a borrowed second is 1,000,000,000 ns.
use Rattle.std.proofs.Common.{◌≡◌, ◌<◌, ◌^◌, ℤ, ap₂, sym, ◌∙◌, arith}
use Rattle.std.proofs.lemmas.Int.{ints}
use Rattle.numbers.specs.Stamps.{difference_of, Difference}
use Rattle.numbers.specs.declared.stamp.Stamp.{Stamp}
use Rattle.numbers.specs.declared.stamp.Span.{Span}
use Rattle.numbers.proofs.Moments.{apart, apart-borrows, apart-plain}
use Rattle.numbers.proofs.stamp.difference.Goals as goal

abbrev span : ℤ → ℤ → Span
span s n = record { seconds = s; nanoseconds = n }

-- a span whose parts are those of the difference is exact
told : (a b : Stamp) {x y s n : ℤ} → a.nanoseconds < 2 ^ 32 → b.nanoseconds < 2 ^ 32 → difference_of a b ≡ span s n → x ≡ s → y ≡ n → Difference a b (span x y)
told a b f g d e h = rw (ap₂ span e h ∙ sym d) (apart a b f g)

pub returns-then-a-b-clause-difference : goal.returns-then-a-b-clause-difference
returns-then-a-b-clause-difference c =
    told c.args.a c.args.b (omega arith) (omega arith) (apart-borrows c.args.a c.args.b (omega arith)) (omega (arith, ints)) (omega (arith, ints))

pub returns-else-a-b-clause-difference : goal.returns-else-a-b-clause-difference
returns-else-a-b-clause-difference c =
    told c.args.a c.args.b (omega arith) (omega arith) (apart-plain c.args.a c.args.b (omega arith)) (omega (arith, ints)) (omega (arith, ints))
