-- The offset stays in range, and the test decides.
use mathlib.Core.Path.{sym, ◌∙◌}
use Prim.Native.Nat.{ℕ, ◌<◌, ◌^◌}
use native.Mathlib.Omega.{arith}
use borrow.Author.Rules.{rules}
use lib.IntN.{ℤ, pos, ◌-ℤ◌}
use mir.Syntax.{w64}
use mir.Val.{SFits}
use Rattle.numbers.specs.Integers.{Within}
use Rattle.numbers.proofs.Integers.{back, back-pos}
use Rattle.numbers.proofs.Straight.{raw, sub, asks, end, ◌▸◌}
use Rattle.rules_exchange.proofs.Judged.{accept-step, accept-measured}
use Rattle.rules_exchange.proofs.Exchange.accept.Goals as goal

-- the offset as the machine has it is the exact one
offset : (forward : ℤ) (used : ℕ) → Within (2 ^ 33) forward → used < 2 ^ 32 → SFits w64 (forward -ℤ pos used)
offset forward used h u =
    let w : Within (2 ^ 32) (pos used) = omega arith in
    asks (h ▸ w ▸ end) (sub (raw 0) (raw 1)) tt

pub returns-then-is_step : goal.returns-then-is_step
returns-then-is_step c =
    let used = c.filter-delays.result.used in
    let small : used < 2 ^ 32 = search rules in
    let fits : SFits w64 c.args.forward.0 = search rules in
    rw (c.from.ensures, back fits, back-pos {n = used} (omega arith), back (offset c.args.forward.0 used c.requires small))
    (accept-step c.args.self.now c.args.forward.0 c.args.delay c.filter-delays.result c.filter-delays.ensures (sym c.is_step.ensures ∙ c.if-is_step.true))

pub returns : goal.returns
returns c =
    let used = c.filter-delays.result.used in
    let small : used < 2 ^ 32 = search rules in
    let fits : SFits w64 c.args.forward.0 = search rules in
    rw (c.break_rows.ensures, c.from.ensures, c.from-2.ensures, c.from-3.ensures, back fits, back-pos {n = used} (omega arith), back (offset c.args.forward.0 used c.requires small), back-pos {n = c.args.delay} (omega arith))
    (accept-measured c.args.self.now c.args.forward.0 c.args.delay c.filter-delays.result c.filter-delays.ensures (sym c.is_step.ensures ∙ c.if-is_step.false))
