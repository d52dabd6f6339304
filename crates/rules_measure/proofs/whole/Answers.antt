-- Seconds beyond 2,000,000,000 are taken as that, so that all is in range and held at the limit.
use Rattle.std.proofs.Common.{rules, arith, ◌≡◌, ◌∙◌, pos, negsuc, w64}
use borrow.Author.Rules.{sfits_of}
use mir.Val.{SFits}
use Rattle.std.specs.Int.{int_min, int_max}
use Rattle.numbers.specs.Integers.{Within}
use Rattle.numbers.specs.Stamps.{lasting}
use Rattle.numbers.proofs.Integers.{back, le→, one_side}
use Rattle.numbers.proofs.Straight.{var, lit, mul, add, run, end, ◌▸◌}
use Rattle.rules_measure.proofs.Exact.{clamped}
use Rattle.rules_measure.proofs.whole.Goals as goal

pub returns : goal.returns
unfolding lasting
returns c =
    let span = c.args.span in
    let s = c.clamp-seconds in
    let f : SFits w64 span.seconds = search rules in
    let r : SFits w64 c.within.result = sfits_of c.within.type_inv in
    let near : Within 2000000000 s.result = omega (arith, le→ s.ensures.lower_bound, le→ s.ensures.upper_bound, one_side s.result) in
    let held : s.result ≡ int_max (negsuc 1999999999) (int_min span.seconds (pos 2000000000)) = rw (back f) at s.ensures.value in
    rw (back r)
    ((rw (run (near ▸ c.requires ▸ end) (add (mul (var 0) (lit (pos 1000000000))) (var 1)) tt, held) at c.within.ensures.value)
    ∙ clamped span.seconds span.nanoseconds c.requires)
