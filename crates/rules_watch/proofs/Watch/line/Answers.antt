-- `line` meets its contract: once the line is due there are two valid samples, and so the denominator is above 0.
use mathlib.Core.Path.{◌≡◌, ap, ◌∙◌}
use mathlib.Core.Bool.{Bool, true, false}
use mathlib.Core.List.{List}
use Prim.Native.Nat.{ℕ, ◌<◌, ◌≤◌}
use native.Mathlib.Omega.{arith}
use borrow.Author.Tests.{lt-leb, le-leb, ltb-true, ltb-false}
use lib.Dec.{ltb, lit<}
use lib.IntN.{ℤ}
use lib.ListN.{length}
use lib.Signed.{lt_z}
use mir.Syntax.{w64}
use mir.Val.{to_z, of_z}
use Rattle.numbers.specs.Integers.{Within}
use Rattle.numbers.specs.Grounds.{first_of}
use Rattle.numbers.proofs.Integers.{back, back-pos, within-fits}
use Rattle.rules_fit.specs.Points.{Point, count, over, level, slope}
use Rattle.rules_fit.proofs.Least.{count-is, over-above}
use Rattle.rules_watch.specs.Settings.{least_of, wait_of}
use Rattle.rules_watch.specs.Totals.{points_of}
use Rattle.rules_watch.specs.Watch.{samples_in}
use Rattle.rules_watch.proofs.Points.{two}
use Rattle.rules_watch.proofs.Watch.line.Goals as goal

-- what the test of n against the minimum says
test : (l : List Point) (n : ℤ) (least : ℕ) (b : Bool) → n ≡ count l → Within 128 n → least < 256 → lt_z (to_z w64 (of_z w64 n)) (to_z w64 least) ≡ b → ltb (length l) least ≡ b
test l n least b e f h t = rw (back (within-fits f (lit< tt)), e ∙ count-is l, back-pos {n = least} (omega arith)) at t

pub returns-then-self-from : goal.returns-then-self-from
unfolding first_of
returns-then-self-from c =
    let e = c.from.ensures ∙ c.wait.ensures in
    let early : c.args.self.now.head.taken < wait_of c.args.settings = omega (arith, c.if-self-from.true) in
    simp (lt-leb _ _ early)

pub returns-then-totals-from : goal.returns-then-totals-from
unfolding first_of
returns-then-totals-from c =
    let e = c.from.ensures ∙ c.wait.ensures in
    let f = c.least.ensures in
    let t = c.totals-totals in
    let l = points_of (samples_in c.args.self.now) in
    let late : wait_of c.args.settings ≤ c.args.self.now.head.taken = omega (arith, c.if-self-from.false) in
    let few : length l < least_of c.args.settings =
    omega (arith, ltb-true (length l) c.least.result (test l t.result.n c.least.result true (ap (λ u. u.n) t.ensures.value) t.ensures.over.n (omega arith) (rw c.from-2.ensures at c.if-totals-from.true))) in
    simp (le-leb _ _ late, lt-leb _ _ few)

pub line-requires : goal.line-requires
unfolding over
line-requires c =
    let f = c.least.ensures in
    let t = c.totals-totals in
    let held = samples_in c.args.self.now in
    let l = points_of held in
    let enough : least_of c.args.settings ≤ length l =
    omega (arith, ltb-false (length l) c.least.result (test l t.result.n c.least.result false (ap (λ u. u.n) t.ensures.value) t.ensures.over.n (omega arith) (rw c.from-2.ensures at c.if-totals-from.false))) in
    (t.ensures.over, rw t.ensures.value (over-above l (two held (omega (arith, enough)))))

pub returns : goal.returns
unfolding first_of over level slope
returns c =
    let e = c.from.ensures ∙ c.wait.ensures in
    let f = c.least.ensures in
    let t = c.totals-totals in
    let l = points_of (samples_in c.args.self.now) in
    let late : wait_of c.args.settings ≤ c.args.self.now.head.taken = omega (arith, c.if-self-from.false) in
    let enough : least_of c.args.settings ≤ length l =
    omega (arith, ltb-false (length l) c.least.result (test l t.result.n c.least.result false (ap (λ u. u.n) t.ensures.value) t.ensures.over.n (omega arith) (rw c.from-2.ensures at c.if-totals-from.false))) in
    simp (le-leb _ _ late, le-leb _ _ enough, c.line.ensures, t.ensures.value)
