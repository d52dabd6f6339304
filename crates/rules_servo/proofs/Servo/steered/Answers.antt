-- `steered` meets its contract. Every step stays in range since the offset, the gains, the pace and the limit are bounded.
use mathlib.Core.Path.{◌≡◌, refl, ap, ◌∙◌}
use mathlib.Core.List.{[], ◌∷◌}
use Prim.Native.Nat.{ℕ, ◌≤◌, ◌<◌, ◌-◌, ◌^◌, min}
use native.Mathlib.Omega.{arith}
use borrow.Author.Rules.{rules}
use lib.Dec.{lit<}
use lib.IntN.{ℤ, pos}
use mir.Syntax.{w64}
use mir.Val.{SFits}
use mir.Facts.{to_z-of_z}
use Rattle.numbers.specs.Integers.{up, Within}
use Rattle.numbers.proofs.Integers.{within-fits, back}
use Rattle.numbers.specs.Rounding.{held_within, half_to_even}
use Rattle.numbers.proofs.Straight.{Code, var, lit, add, mul, asks, run, Env, end, ◌▸◌}
use Rattle.rules_servo.specs.Steps.{held_offset, limit_of, integral_with, output_with, steered_servo}
use Rattle.rules_servo.proofs.Limits.{fits-i32}
use Rattle.rules_servo.proofs.Steering.{pace-within, gain-within, integral-far, output-within}
use Rattle.rules_servo.proofs.Servo.steered.Goals as goal

-- Ki, or Kp, the offset, the pace, and I as it was or as it is now
abbrev I : Code
I = add (var 3) (mul (mul (var 0) (var 1)) (var 2))

abbrev P : Code
P = add (mul (mul (var 0) (var 1)) (lit (pos 128))) (var 2)

limit-small : (limit : ℤ) → limit_of limit ≤ 12_800_000_000
limit-small limit = omega arith

bounds : {g : ℕ} (k : ℕ) {gain pace x i : ℤ} → gain ≡ pos g → g < 65_536 → Within 100_000_000 x → pace ≡ pos (2 ^ (7 - k)) → Within 1_000_000_000_000_000 i →
    Env (65_535 ∷ (100_000_000 ∷ (128 ∷ (1_000_000_000_000_000 ∷ [])))) (gain ∷ (x ∷ (pace ∷ (i ∷ []))))
bounds k {gain = gain} {pace = pace} e h w f u =
    let g : Within 65_535 gain = rw e (gain-within h) in
    let p : Within 128 pace = rw f (pace-within k) in
    g ▸ w ▸ p ▸ u ▸ end

bounds₂ : {g : ℕ} {gain x i : ℤ} → gain ≡ pos g → g < 65_536 → Within 100_000_000 x → Within 12_800_000_000 i → Env (65_535 ∷ (100_000_000 ∷ (12_800_000_000 ∷ []))) (gain ∷ (x ∷ (i ∷ [])))
bounds₂ {gain = gain} e h w u = let g : Within 65_535 gain = rw e (gain-within h) in g ▸ w ▸ u ▸ end

pub overflow_mul-gained-2 : goal.overflow_mul-gained-2
overflow_mul-gained-2 c = asks (bounds c.args.k c.from.ensures (omega arith) c.within-x.ensures.within c.pace.ensures c.within.ensures.within) (mul (mul (var 0) (var 1)) (var 2)) tt

pub overflow_add-gained : goal.overflow_add-gained
overflow_add-gained c = asks (bounds c.args.k c.from.ensures (omega arith) c.within-x.ensures.within c.pace.ensures c.within.ensures.within) I tt

pub overflow_mul-from : goal.overflow_mul-from
overflow_mul-from c =
    let u : Within 12_800_000_000 c.within-integral.result = omega (arith, limit-small c.args.limit.0) in
    asks (bounds₂ c.from-2.ensures (omega arith) c.within-x.ensures.within u) (mul (var 0) (var 1)) tt

pub overflow_mul-from-2 : goal.overflow_mul-from-2
overflow_mul-from-2 c =
    let u : Within 12_800_000_000 c.within-integral.result = omega (arith, limit-small c.args.limit.0) in
    asks (bounds₂ c.from-2.ensures (omega arith) c.within-x.ensures.within u) (mul (mul (var 0) (var 1)) (lit (pos 128))) tt

pub overflow_add-from : goal.overflow_add-from
overflow_add-from c =
    let u : Within 12_800_000_000 c.within-integral.result = omega (arith, limit-small c.args.limit.0) in
    asks (bounds₂ c.from-2.ensures (omega arith) c.within-x.ensures.within u) P tt

pub returns : goal.returns
unfolding output_with
returns c =
    let a = c.args in
    let s = a.self in
    let x = c.within-x.result in
    let limit = limit_of a.limit.0 in
    let fo : SFits w64 a.offset.0 = search rules in
    let fi : SFits w64 s.integral = search rules in
    let taken : x ≡ held_offset a.offset.0 = rw (back fo) at c.within-x.ensures.value in
    let xw = c.within-x.ensures.within in
    let kept : c.within.result ≡ held_within 1_000_000_000_000_000 s.integral = rw (back fi) at c.within.ensures.value in
    let b = bounds c.args.k c.from.ensures (omega arith) xw c.pace.ensures c.within.ensures.within in
    let e = rw (run b I tt, c.pace.ensures, c.from.ensures, kept, c.limit_of-units.ensures) at c.within-integral.ensures.value in
    let i : c.within-integral.result ≡ integral_with s x a.k limit = e ∙ integral-far s x a.k limit xw (omega arith) (limit-small a.limit.0) in
    let iw : Within 12_800_000_000 c.within-integral.result = omega (arith, limit-small a.limit.0) in
    let d = rw (run (bounds₂ c.from-2.ensures (omega arith) xw iw) P tt, c.from-2.ensures, i, c.limit_of-units.ensures) at c.within-output.ensures.value in
    let ow : Within limit c.within-output.result = rw c.limit_of-units.ensures at c.within-output.ensures.within in
    let o : c.whole_ppb.result ≡ output_with s x a.k limit = (rw (back (within-fits ow (omega (arith, limit-small a.limit.0)))) at c.whole_ppb.ensures.value) ∙ ap (half_to_even 128_000) d in
    let small : Within 100_000 c.whole_ppb.result = rw o (omega (arith, output-within s x a.k limit (min 100_000 (up a.limit.0)) refl)) in
    let n = rw (back (within-fits xw (lit< tt)), to_z-of_z (fits-i32 xw (lit< tt))) at c.with.ensures in
    rw (back (within-fits iw (lit< tt)), back (within-fits small (lit< tt)), to_z-of_z (fits-i32 small (lit< tt)), i, o, n) (ap (λ (z : ℤ). steered_servo s z a.k limit) taken)
