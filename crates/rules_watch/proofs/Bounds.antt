-- How large the totals over a window can be.
use mathlib.Core.Bool.{Bool, true, false, cond}
use mathlib.Core.List.{[], ◌∷◌}
use Prim.Native.Nat.{ℕ, ◌+◌, ◌<◌, ◌≤◌, ◌^◌}
use native.Mathlib.Omega.{arith}
use lib.IntN.{ℤ, pos, negsuc, nat_abs, ◌+ℤ◌, ◌*ℤ◌}
use lib.Signed.{mag, ◌<ℤ◌}
use mir.Syntax.{w32}
use mir.Val.{SFits}
use Rattle.numbers.specs.Integers.{Within}
use Rattle.numbers.proofs.Integers.{within-mul, within-abs, int, up-mul, dn-mul}
use Rattle.numbers.proofs.Ring.{v, ◌⊕◌, within_by}
use Rattle.numbers.proofs.Straight.{Code, Env, end, ◌▸◌, var, lit, sub, mul, range}
use Rattle.rules_watch.specs.declared.window.Sample.{Sample}
use Rattle.rules_watch.specs.declared.totals.Totals.{Totals}
use Rattle.rules_watch.specs.Inner.{Over, no_totals, with_point, with_sample, slope_of, over_of}

pub i32-within : {z : ℤ} → SFits w32 z → Within 2_147_483_648 z
i32-within {z = z} f = go z f.sfits
  where
    go : (z : ℤ) → mag z < 2 ^ 31 → Within 2_147_483_648 z
    go (pos n) h = omega arith
    go (negsuc n) h = omega arith

pub second_fits : (z : ℤ) → nat_abs z < 1_000_000_000 → SFits w32 z
second_fits (pos n) h = record { sfits = omega arith }
second_fits (negsuc n) h = record { sfits = omega arith }

more : {a b : ℕ} {x y : ℤ} → Within a x → Within b y → Within (a + b) (x +ℤ y)
more {x = x} {y = y} p q = within_by _ (v 0 ⊕ v 1) (x ∷ y ∷ []) (omega arith)

wider : {a b : ℕ} {x : ℤ} → a ≤ b → Within a x → Within b x
wider h w = omega arith

-- no sample at all, more room, one point more
pub over_none : Over 0 no_totals
over_none = record { n = omega arith; x = omega arith; xx = omega arith; y = omega arith; xy = omega arith }

pub over-room : {k m : ℕ} {t : Totals} → k ≤ m → Over k t → Over m t
over-room h o = record {
  n = wider h o.n;
  x = wider (omega arith) o.x;
  xx = wider (omega arith) o.xx;
  y = wider (omega arith) o.y;
  xy = wider (omega arith) o.xy;
}

pub over-point : {k : ℕ} {t : Totals} {x y : ℤ} → Over k t → Within 127 x → Within 2_147_483_648 y → Over (k + 1) (with_point x y t)
over-point {k} {t} {x} {y} o p q = record {
  n = more o.n (record { above = omega arith; below = omega arith });
  x = wider (omega arith) (more o.x p);
  xx = wider (omega arith) (more o.xx (within-mul p p));
  y = wider (omega arith) (more o.y q);
  xy = wider (omega arith) (more o.xy (within-mul p q));
}

pub over-sample : {k x : ℕ} {t : Totals} (s : Sample) → Over k t → x < 128 → SFits w32 s.y → Over (k + 1) (with_sample x s t)
over-sample {k} {x} {t} s o h f = go s.valid
  where
    go : (b : Bool) → Over (k + 1) (cond b (with_point (pos x) s.y t) t)
    go true = over-point o (omega arith) (i32-within f)
    go false = over-room (omega arith) o

-- ---- the line of totals over 128 samples, as straight code over n, x, xx, y and xy
abbrev pub level : Code
level = sub (mul (var 2) (var 3)) (mul (var 1) (var 4))

abbrev pub slope : Code
slope = sub (mul (var 0) (var 4)) (mul (var 1) (var 3))

abbrev pub over : Code
over = sub (mul (var 0) (var 2)) (mul (var 1) (var 1))

abbrev pub thousand : Code
thousand = mul (lit (pos 1000)) over

pub env : (t : Totals) → Over 128 t → Env (128 ∷ 16_256 ∷ 2_064_512 ∷ 274_877_906_944 ∷ 34_909_494_181_888 ∷ []) (t.n ∷ t.x ∷ t.xx ∷ t.y ∷ t.xy ∷ [])
env t o = o.n ▸ o.x ▸ o.xx ▸ o.y ▸ o.xy ▸ end

-- both numbers that are divided for the slope in ppm are exact as f64: they stay below 2^53
pub slope-below : (t : Totals) → Over 128 t → nat_abs (slope_of t) < 2 ^ 53
slope-below t o = omega (arith, within-abs (range (env t o) slope))

pub thousand-below : (t : Totals) → Over 128 t → nat_abs (pos 1000 *ℤ over_of t) < 2 ^ 53
thousand-below t o = omega (arith, within-abs (range (env t o) thousand))

pub thousand-above : (z : ℤ) → pos 0 <ℤ z → pos 0 <ℤ (pos 1000 *ℤ z)
thousand-above z h = omega (int, up-mul (pos 1000) z, dn-mul (pos 1000) z)
