-- Two's complement by arithmetic, over the width: what -1 - z and the bits of a negative number are.
use mathlib.Core.Path.{◌≡◌, refl}
use mathlib.Core.Bool.{true, false}
use Prim.Native.Nat.{ℕ, suc, ◌-◌, ◌<◌, ◌^◌}
use native.Mathlib.Omega.{arith}
use lib.IntN.{ℤ, pos, negsuc, ◌-ℤ◌}
use lib.Signed.{lt_z}
use mir.Syntax.{Width}
use mir.Val.{of_z, SFits, bits, hbits}
use Rattle.numbers.proofs.Integers.{ext, up-add, dn-add, lt_z-true, lt_z-false}

pub record Negative (w : Width) (z : ℤ) : Type 0 where
  pub n : ℕ
  pub flips : negsuc 0 -ℤ z ≡ pos n
  pub small : n < 2 ^ hbits w
  pub bits_are : of_z w z ≡ 2 ^ bits w - 1 - n

pub negative : {w : Width} {z : ℤ} → SFits w z → lt_z z (pos 0) ≡ true → Negative w z
negative {z = pos n} f t = absurd (let a = lt_z-true (pos n) (pos 0) t in omega arith)
negative {z = negsuc n} f t =
    record {
      n = n;
      flips = ext (negsuc 0 -ℤ negsuc n) (pos n) (rw (up-add (negsuc 0) (pos (suc n)), dn-add (negsuc 0) (pos (suc n))) (omega arith));
      small = f.sfits;
      bits_are = omega arith;
    }

pub record Natural (w : Width) (z : ℤ) : Type 0 where
  pub n : ℕ
  pub is : z ≡ pos n
  pub small : n < 2 ^ hbits w

pub natural : {w : Width} {z : ℤ} → SFits w z → lt_z z (pos 0) ≡ false → Natural w z
natural {z = pos n} f t = record { n = n; is = refl; small = f.sfits }
natural {z = negsuc n} f t = absurd (let a = lt_z-false (negsuc n) (pos 0) t in omega arith)
