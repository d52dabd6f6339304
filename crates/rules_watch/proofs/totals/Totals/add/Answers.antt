-- `Totals::add` meets its contract: over 127 samples or fewer nothing leaves an i64.
use mathlib.Core.Path.{◌≡◌}
use mathlib.Core.List.{[], ◌∷◌}
use native.Mathlib.Omega.{arith}
use lib.IntN.{ℤ, pos}
use mir.Facts.{to_z-of_z}
use Rattle.numbers.specs.Integers.{Within}
use Rattle.numbers.proofs.Straight.{Env, end, ◌▸◌, var, lit, add, mul, asks, run}
use Rattle.rules_watch.specs.declared.totals.Totals.{Totals}
use Rattle.rules_watch.specs.Inner.{Over}
use Rattle.rules_watch.proofs.Bounds.{i32-within}
use Rattle.rules_watch.proofs.totals.Totals.add.Goals as goal

env : (t : Totals) (x y : ℤ) → Over 127 t → Within 127 x → Within 2_147_483_648 y
    → Env (127 ∷ 16_129 ∷ 2_048_383 ∷ 272_730_423_296 ∷ 34_636_763_758_592 ∷ 127 ∷ 2_147_483_648 ∷ []) (t.n ∷ t.x ∷ t.xx ∷ t.y ∷ t.xy ∷ x ∷ y ∷ [])
env t x y o p q = o.n ▸ o.x ▸ o.xx ▸ o.y ▸ o.xy ▸ p ▸ q ▸ end

pub overflow_add-result-5 : goal.overflow_add-result-5
overflow_add-result-5 c =
    let y : c.from-y.result ≡ c.args.y = rw (to_z-of_z c.ranges.y) at c.from-y.ensures in
    asks (env c.args.self c.from-x.result c.from-y.result c.requires.1 (rw c.from-x.ensures (omega arith)) (rw y (i32-within c.ranges.y))) (add (var 4) (mul (var 5) (var 6))) tt

pub returns : goal.returns
returns c =
    let y : c.from-y.result ≡ c.args.y = rw (to_z-of_z c.ranges.y) at c.from-y.ensures in
    let e = env c.args.self c.from-x.result c.from-y.result c.requires.1 (rw c.from-x.ensures (omega arith)) (rw y (i32-within c.ranges.y)) in
    rw (
      run e (add (var 0) (lit (pos 1))) tt,
      run e (add (var 1) (var 5)) tt,
      run e (add (var 2) (mul (var 5) (var 5))) tt,
      run e (add (var 3) (var 6)) tt,
      run e (add (var 4) (mul (var 5) (var 6))) tt,
      c.from-x.ensures,
      y,
    )
