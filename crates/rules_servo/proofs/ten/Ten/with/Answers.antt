-- `with` meets its contract: each element is read back as it is, and the first nine are those that follow the new one.
use mathlib.Core.Path.{◌≡◌}
use borrow.Author.Rules.{rules}
use lib.ListN.{length}
use Rattle.rules_servo.proofs.Elements.{first_nine}
use Rattle.rules_servo.proofs.ten.Ten.with.Goals as goal

pub returns : goal.returns
returns c =
    let o = c.args.self.offsets in
    let long : length o ≡ 10 = search rules in
    rw (first_nine o long) (search rules)
