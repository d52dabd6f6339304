-- What only inner contracts cite: nobody needs to believe it.
use Rattle.std.specs.Prelude.{◌≡◌, ℕ, ◌^◌, ℤ}
use Rattle.numbers.specs.Integers.{Within}
use Rattle.numbers.specs.Stamps.{lasting}
use Rattle.numbers.specs.declared.stamp.Span.{Span}

-- a span that lasts z, its seconds within 2^a and its nanoseconds within 2^b
pub record Lasts (a b : ℕ) (z : ℤ) (s : Span) : Type 0 where
  pub exact : lasting s ≡ z
  pub seconds : Within (2 ^ a) s.seconds
  pub nanoseconds : Within (2 ^ b) s.nanoseconds
