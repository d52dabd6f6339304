-- The delay goes in front of the five, and what is used follows from those that are held.
use Rattle.std.proofs.Common.{rules, arith, ◌≡◌, sym, ◌∙◌, length}
use Rattle.std.proofs.Math.Nat.{min_comm}
use borrow.Author.Tests.{eqb-false, leb-true, leb-false}
use Rattle.rules_delays.specs.Delays.{used_by}
use Rattle.rules_delays.proofs.Newest.{made, four, used-near, used-far}
use Rattle.rules_delays.proofs.Delays.filter.Goals as goal
use Rattle.rules_delays.proofs.Delays.filter.Goals.{then-self-eq0, else-self-eq0}

pub returns-then-near : goal.returns-then-near
unfolding used_by
returns-then-near c = elim c.if-self-eq0.branch [
  | then-self-eq0 w ↦ made c.args.self c.args.delay _ _ (search rules) (omega arith) (rw w.if-self-eq0.true)
  | else-self-eq0 w ↦
      made c.args.self c.args.delay _ _ (search rules) (omega arith)
      (used-near c.args.self.used c.args.delay c.args.self.five c.args.self.count (omega (arith, leb-true _ _ (sym w.near-is ∙ c.if-near.true))))
]

pub returns-else-near : goal.returns-else-near
returns-else-near c = elim c.if-self-eq0.branch [
  | then-self-eq0 w ↦ absurd (eqb-false _ _ (sym w.near-is ∙ c.if-near.false) w.if-self-eq0.true)
  | else-self-eq0 w ↦
      let self = c.args.self in
      let five : length self.five ≡ 5 = search rules in
      made self c.args.delay _ _ five (omega arith)
      ((rw (c.min-count.ensures, four self.five five, min_comm self.count 4) at c.median-used.ensures)
      ∙ used-far self.used c.args.delay self.five self.count w.if-self-eq0.false five (omega (arith, leb-false _ _ (sym w.near-is ∙ c.if-near.false))))
]
