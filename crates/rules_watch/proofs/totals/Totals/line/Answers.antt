-- `Totals::line` meets its contract: no product leaves an i64, and the two numbers that are divided are below 2 ^ 53.
use mathlib.Core.Path.{◌≡◌}
use lib.IntN.{ℤ}
use lib.Ieee.{Float}
use Rattle.numbers.proofs.Straight.{var, mul, asks, run}
use Rattle.rules_fit.proofs.Quotient.{below, quotient}
use Rattle.rules_watch.specs.declared.totals.Line.{Line}
use Rattle.rules_watch.proofs.Bounds.{env, level, slope, over, thousand, slope-below, thousand-below, thousand-above}
use Rattle.rules_watch.proofs.totals.Totals.line.Goals as goal

pub overflow_sub-level : goal.overflow_sub-level
overflow_sub-level c = asks (env c.args.self c.requires.0) level tt

pub overflow_mul-slope : goal.overflow_mul-slope
overflow_mul-slope c = asks (env c.args.self c.requires.0) (mul (var 0) (var 4)) tt

pub overflow_mul-slope-2 : goal.overflow_mul-slope-2
overflow_mul-slope-2 c = asks (env c.args.self c.requires.0) (mul (var 1) (var 3)) tt

pub overflow_sub-slope : goal.overflow_sub-slope
overflow_sub-slope c = asks (env c.args.self c.requires.0) slope tt

pub overflow_mul-over : goal.overflow_mul-over
overflow_mul-over c = asks (env c.args.self c.requires.0) (mul (var 0) (var 2)) tt

pub overflow_sub-over : goal.overflow_sub-over
overflow_sub-over c = asks (env c.args.self c.requires.0) over tt

pub int_to_float-ppm : goal.int_to_float-ppm
int_to_float-ppm c = rw (run (env c.args.self c.requires.0) slope tt) (below _ (slope-below c.args.self c.requires.0))

pub overflow_mul-ppm : goal.overflow_mul-ppm
overflow_mul-ppm c = asks (env c.args.self c.requires.0) thousand tt

pub int_to_float-ppm-2 : goal.int_to_float-ppm-2
int_to_float-ppm-2 c = rw (run (env c.args.self c.requires.0) thousand tt) (below _ (thousand-below c.args.self c.requires.0))

-- a line is its five numbers
same : {a b c d e f g h : ℤ} {p q : Float} → a ≡ b → c ≡ d → e ≡ f → g ≡ h → p ≡ q
    → ◌≡◌ {A = Line} (record { level = a; slope = c; over = e; n = g; ppm = p }) (record { level = b; slope = d; over = f; n = h; ppm = q })
same r s t u v = cc

pub returns : goal.returns
returns c =
    let e = env c.args.self c.requires.0 in
    same (run e level tt) (run e slope tt) (run e over tt) (run e (var 0) tt)
    (rw (run e slope tt, run e thousand tt) (quotient _ _ (slope-below c.args.self c.requires.0) (thousand-below c.args.self c.requires.0) (thousand-above _ c.requires.1)))
