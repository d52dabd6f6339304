-- `tracking` meets its contract: each element is read back as it is, and the totals of ten small offsets stay in range.
use Rattle.std.proofs.Common.{rules, arith, ◌≡◌, ℕ, ◌≤◌, List, [], ◌∷◌, length, ℤ, pos}
use borrow.Author.Tests.{ne_eqb}
use lib.IntN.{nat_abs}
use mir.Syntax.{w32, w64}
use mir.Val.{SFits, to_z, of_z}
use mir.Facts.{to_z-of_z, sfits_widen}
use Rattle.numbers.specs.Integers.{Within}
use Rattle.numbers.proofs.Signs.{abs-within}
use Rattle.numbers.proofs.Straight.{Code, var, raw, lit, add, sub, mul, run, Env, end, ◌▸◌}
use Rattle.rules_servo.specs.Ten.{list_of}
use Rattle.rules_servo.specs.Shows.{is_tracking}
use Rattle.rules_servo.proofs.Elements.{at}
use Rattle.rules_servo.proofs.Tens.{listed-all, listed-length}
use Rattle.rules_servo.proofs.Spreads.{Passed, passed-next, passed-far, passed-all}
use Rattle.rules_servo.proofs.shown.tracking.Goals as goal

-- the totals of ten at most are small
sums : {l : List ℤ} {i : ℕ} {s q : ℤ} → i ≤ 10 → Passed l i s q → Env (990 ∷ (98_010 ∷ [])) (s ∷ (q ∷ []))
sums {s = s} {q = q} h p =
    let w : Within 990 s = omega (arith, p.small) in
    let u : Within 98_010 q = omega (arith, p.small_squares) in
    w ▸ u ▸ end

-- an offset as an i64, and how far it is from 0
read : {x y : ℤ} → SFits w32 x → y ≡ to_z w32 (of_z w32 x) → y ≡ x
read f e = rw (to_z-of_z f) at e

size : (x : ℤ) {y : ℤ} (m : ℕ) → SFits w32 x → y ≡ x → m ≡ nat_abs (to_z w64 (of_z w64 y)) → m ≡ nat_abs x
size x m f g e = rw (g, to_z-of_z (sfits_widen {w = w32} {w' = w64} tt f)) at e

abbrev S : Code
S = sub (mul (lit (pos 10)) (raw 1)) (mul (raw 0) (raw 0))

pub returns-then-ten-lt10 : goal.returns-then-ten-lt10
unfolding is_tracking
returns-then-ten-lt10 c =
    let t = c.args.ten in
    let long : length t.offsets ≡ 10 = search rules in
    rw (ne_eqb (length (list_of t)) 10 (λ e. omega (arith, listed-length t long)))

pub returns-then-unsigned_abs-gt99 : goal.returns-then-unsigned_abs-gt99
returns-then-unsigned_abs-gt99 c =
    let t = c.args.ten in
    let i = c.loop-x.x-index in
    let long : length t.offsets ≡ 10 = search rules in
    let f : SFits w32 (at t.offsets i) = search rules in
    let m = size (at t.offsets i) c.unsigned_abs.result f (read f c.from-x.ensures) c.unsigned_abs.ensures.value in
    rw (listed-all t long (omega arith)) (passed-far t.offsets i _ _ (omega arith) c.loop-x.invariant (omega arith) long)

pub loop-x-preserved : goal.loop-x-preserved
loop-x-preserved c =
    let o = c.args.ten.offsets in
    let i = c.loop-x.x-index in
    let long : length o ≡ 10 = search rules in
    let f : SFits w32 (at o i) = search rules in
    let x = read f c.from-x.ensures in
    let m = size (at o i) c.unsigned_abs.result f x c.unsigned_abs.ensures.value in
    let near : nat_abs (at o i) ≤ 99 = omega arith in
    let b = abs-within (at o i) near ▸ sums (omega arith) c.loop-x.invariant in
    rw (x, run b (add (raw 1) (var 0)) tt, run b (add (raw 2) (mul (var 0) (var 0))) tt)
    (passed-next o i _ _ (omega arith) c.loop-x.invariant near)

pub returns : goal.returns
returns c =
    let t = c.args.ten in
    let long : length t.offsets ≡ 10 = search rules in
    rw (run (sums (omega arith) c.loop-x.invariant) S tt, listed-all t long (omega arith)) (passed-all t.offsets c.loop-x.x-index _ _ long (omega arith) c.loop-x.invariant)
