-- Forward and back are exact, so is their sum, and both are held within 10^18.
use Rattle.std.proofs.Common.{arith, ◌≡◌, ◌∙◌, ap, ap₂, ℤ, ◌+ℤ◌, ◌-ℤ◌, ◌^◌, w64, to_z, of_z}
use borrow.Author.Rules.{sfits_of}
use lib.Dec.{lit<}
use mir.Val.{SFits}
use Rattle.numbers.specs.Integers.{Within}
use Rattle.numbers.proofs.Integers.{back, within-fits}
use Rattle.numbers.proofs.Straight.{var, add, run, end, ◌▸◌}
use Rattle.numbers.specs.Rounding.{held_within}
use Rattle.numbers.specs.Stamps.{lasting, moment}
use Rattle.rules_measure.specs.declared.Times.{Times}
use Rattle.rules_measure.specs.Measure.{horizon, ns, cut_of, forward_of, back_of}
use Rattle.rules_measure.proofs.Exact.{cut_small, two_cuts, less_both}
use Rattle.rules_measure.proofs.measured.Goals as goal

made : (f s x y : ℤ) → f ≡ held_within horizon x → s ≡ held_within horizon y
    → ◌≡◌ {A = Times} (record { forward = ns f; sum = ns s }) (record { forward = ns (held_within horizon x); sum = ns (held_within horizon y) })
made f s x y e g = rw (e, g)

-- a correction that was cut, and how small it is
record Cut (z n : ℤ) : Type 0 where
  is : n ≡ cut_of z
  small : Within (2 ^ 47) n

cut-is : {z n : ℤ} → SFits w64 z → n ≡ cut_of (to_z w64 (of_z w64 z)) → Cut z n
cut-is {z = z} f e = let g = e ∙ ap cut_of (back f) in record { is = g; small = rw g (cut_small z f) }

pub elapsed-forth-requires : goal.elapsed-forth-requires
elapsed-forth-requires c =
    let a = cut-is c.ranges.sync c.cut.ensures.value in
    let b = cut-is c.ranges.follow c.cut-2.ensures.value in
    rw (run (a.small ▸ b.small ▸ end) (add (var 0) (var 1)) tt) (two_cuts _ _ a.small b.small)

pub elapsed-requires : goal.elapsed-requires
elapsed-requires c =
    let a = cut-is c.ranges.response c.cut-3.ensures.value in
    let w : Within (2 ^ 48) c.cut-3.result = omega (arith, a.small) in
    rw (back (within-fits a.small (lit< tt))) w

pub returns : goal.returns
unfolding forward_of back_of
returns c =
    let g = c.args in
    let a = cut-is c.ranges.sync c.cut.ensures.value in
    let b = cut-is c.ranges.follow c.cut-2.ensures.value in
    let r = cut-is c.ranges.response c.cut-3.ensures.value in
    let x = forward_of g.t1 g.t2 g.sync g.follow in
    let y = back_of g.t3 g.t4 g.response in
    let e : lasting c.elapsed-forth.result ≡ x =
    (rw (run (a.small ▸ b.small ▸ end) (add (var 0) (var 1)) tt, a.is, b.is) at c.elapsed-forth.ensures.exact)
    ∙ less_both (moment g.t2 -ℤ moment g.t1) (cut_of g.sync) (cut_of g.follow) in
    let h : lasting c.elapsed.result ≡ y = rw (back (within-fits r.small (lit< tt)), r.is) at c.elapsed.ensures.exact in
    let u : SFits w64 c.whole.result = sfits_of c.whole.type_inv in
    let v : SFits w64 c.whole-2.result = sfits_of c.whole-2.type_inv in
    rw (back u, back v)
    (made c.whole.result c.whole-2.result x (x +ℤ y)
    (c.whole.ensures ∙ ap (held_within horizon) e)
    (c.whole-2.ensures ∙ ap (held_within horizon) (c.joined-both.ensures.exact ∙ ap₂ ◌+ℤ◌ e h)))
