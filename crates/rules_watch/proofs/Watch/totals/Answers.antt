-- `totals` meets its contract: a turn adds the sample at its place, and the walk ends with nothing left.
use Rattle.std.proofs.Common.{rules, arith, ◌≡◌, sym, ◌∙◌, ◌+◌, ◌-◌, ◌%◌, ◌<◌, min, pos, length, get_or}
use mir.Syntax.{w32}
use mir.Val.{SFits}
use mir.Facts.{to_z-of_z}
use Rattle.rules_watch.specs.Watch.{samples_in}
use Rattle.rules_watch.proofs.Places.{held-length, held-at}
use Rattle.rules_watch.proofs.Sums.{sum-all, sum-turn, sum-end}
use Rattle.rules_watch.proofs.Watch.totals.Goals as goal

pub loop-k-preserved : goal.loop-k-preserved
loop-k-preserved c =
    let w = c.args.self.now in
    let k = c.loop-k.k in
    let i = c.loop-k.invariant in
    let few : k < min w.head.len 128 = omega arith in
    let f : SFits w32 (get_or w.ys ((c.place.result + (128 - c.from-len.result) + k) % 128) (pos 0)) = search rules in
    let turn = sym (sum-turn k c.loop-k.sum (samples_in w) (omega (arith, held-length w))) ∙ i.sums in
    record {
      over = c.add_marked-sum.ensures.over;
      sums = rw (c.add_marked-sum.ensures.value, to_z-of_z f, c.place.ensures, c.from-len.ensures, c.count.ensures) (rw (held-at w k few) at turn);
    }

pub returns-clause-value : goal.returns-clause-value
returns-clause-value c =
    let l = samples_in c.args.self.now in
    let all : c.loop-k.k ≡ length l = omega (arith, held-length c.args.self.now) in
    sym (sum-end c.loop-k.sum l) ∙ (rw all at c.loop-k.invariant.sums) ∙ sum-all l
