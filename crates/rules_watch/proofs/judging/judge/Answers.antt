-- `judge` meets its contract: stamps of 62 bits have a difference that fits.
use Rattle.std.specs.Prelude.{Ok}
use mathlib.Core.Path.{◌≡◌, refl, sym, ap, ◌∙◌}
use mathlib.Core.Bool.{Bool, true, false, ◌||◌, true≢false}
use mathlib.Core.List.{[], ◌∷◌}
use Prim.Native.Nat.{◌<◌, ◌^◌}
use native.Mathlib.Omega.{arith}
use lib.IntN.{ℤ, pos, ◌-ℤ◌}
use lib.Signed.{lt_z, le_z}
use mir.Syntax.{w64}
use mir.Val.{SFits}
use Rattle.numbers.specs.Integers.{up, dn}
use Rattle.numbers.proofs.Integers.{back, one_side, lt_z-false, le_z-false}
use Rattle.numbers.proofs.Ring.{v, ◌⊖◌, fits_by}
use Rattle.numbers.specs.Grounds.{first_of}
use Rattle.rules_watch.specs.Rules.{outside_of, on_last}
use Rattle.rules_watch.proofs.judging.judge.Goals as goal
use Rattle.rules_watch.proofs.judging.judge.Goals.{then-outside-via-then-outside, then-outside-via-else-outside+then-outside-2}

-- a stamp that is not outside
inside : (z : ℤ) → outside_of z ≡ false → (dn z ≡ 0) × (up z < 2 ^ 62)
inside z e = go (lt_z z (pos 0)) (le_z (pos (2 ^ 62)) z) refl refl e
  where
    go : (a b : Bool) → lt_z z (pos 0) ≡ a → le_z (pos (2 ^ 62)) z ≡ b → (a || b) ≡ false → (dn z ≡ 0) × (up z < 2 ^ 62)
    go true b p q h = absurd (true≢false h)
    go false true p q h = absurd (true≢false h)
    go false false p q h = omega (arith, lt_z-false z (pos 0) p, le_z-false (pos (2 ^ 62)) z q, one_side z)

offset-fits : (clock reference : ℤ) → outside_of clock ≡ false → outside_of reference ≡ false → SFits w64 (clock -ℤ reference)
offset-fits c r p q = fits_by (v 0 ⊖ v 1) (c ∷ r ∷ []) (omega (arith, inside r q, inside c p))

pub returns-then-outside : goal.returns-then-outside
unfolding first_of
returns-then-outside c = elim c.then-outside.branch [
  | then-outside-via-then-outside w ↦
      let r : outside_of c.args.reference ≡ true = sym (rw (back c.ranges.reference) at c.outside.ensures) ∙ w.if-outside.true in
      rw r
  | then-outside-via-else-outside+then-outside-2 w ↦
      let r : outside_of c.args.reference ≡ false = sym (rw (back c.ranges.reference) at c.outside.ensures) ∙ w.if-outside.false in
      let t : outside_of c.args.clock ≡ true = sym (rw (back c.ranges.clock) at w.outside-else-outside.ensures) ∙ w.if-outside-2.true in
      rw (r, t)
]

pub returns-in-None : goal.returns-in-None
unfolding first_of on_last
returns-in-None c =
    let r : outside_of c.args.reference ≡ false = sym (rw (back c.ranges.reference) at c.outside.ensures) ∙ c.if-outside.false in
    let t : outside_of c.args.clock ≡ false = sym (rw (back c.ranges.clock) at c.outside-else-outside.ensures) ∙ c.if-outside-2.false in
    simp (r, t, c.in-None.is, back c.ranges.clock, back c.ranges.reference, back (offset-fits c.args.clock c.args.reference t r))

pub returns-in-Some : goal.returns-in-Some
unfolding first_of on_last
returns-in-Some c =
    let r : outside_of c.args.reference ≡ false = sym (rw (back c.ranges.reference) at c.outside.ensures) ∙ c.if-outside.false in
    let t : outside_of c.args.clock ≡ false = sym (rw (back c.ranges.clock) at c.outside-else-outside.ensures) ∙ c.if-outside-2.false in
    rw (r, t, c.in-Some.is)
    (ap Ok (rw (back c.ranges.clock, back c.ranges.reference, back c.ranges.origin, back (offset-fits c.args.clock c.args.reference t r)) at c.follow.ensures))
