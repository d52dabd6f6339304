-- `opposites` meets its contract: a neighbourhood more is found or not, and the last offset has no neighbour after it.
use mathlib.Core.Path.{◌≡◌, sym, ◌∙◌}
use Prim.Native.Nat.{◌+◌}
use native.Mathlib.Omega.{arith}
use borrow.Author.Rules.{rules}
use lib.ListN.{length, drop}
use mir.Syntax.{w32}
use mir.Val.{SFits}
use mir.Facts.{to_z-of_z}
use Rattle.rules_servo.specs.Offsets.{opposite_signs, opposites_in}
use Rattle.rules_servo.proofs.Elements.{at}
use Rattle.rules_servo.proofs.Tens.{opposites-next, opposites-last}
use Rattle.rules_servo.proofs.ten.Ten.opposites.Goals as goal
use Rattle.rules_servo.proofs.ten.Ten.opposites.Goals.{then-opposite, else-opposite}

pub loop-i-preserved : goal.loop-i-preserved
loop-i-preserved c =
    let o = c.args.self.offsets in
    let i = c.loop-i.i in
    let long : length o ≡ 10 = search rules in
    let next = opposites-next o i (omega arith) in
    let f : SFits w32 (at o i) = search rules in
    let g : SFits w32 (at o (i + 1)) = search rules in
    let e : c.opposite.result ≡ opposite_signs (at o i) (at o (i + 1)) = rw (to_z-of_z f, to_z-of_z g) at c.opposite.ensures in
    elim c.if-opposite.branch [
      | then-opposite w ↦ (omega arith, let n = rw (sym e ∙ w.if-opposite.true) at next in omega arith)
      | else-opposite w ↦ (omega arith, let n = rw (sym e ∙ w.if-opposite.false) at next in omega arith)
    ]

pub returns : goal.returns
returns c =
    let o = c.args.self.offsets in
    let e : c.loop-i.i ≡ 9 = omega arith in
    let long : length o ≡ 10 = search rules in
    let z = opposites-last o 9 long in
    let i : c.loop-i.found + opposites_in (drop 9 o) ≡ opposites_in o = rw e at c.loop-i.invariant.1 in
    omega arith
