-- `to_even` meets its contract: the magnitude is rounded, and the sign kept.
use borrow.Author.Rules.{sfits_of}
use Rattle.numbers.proofs.Rounds.{quotient-small, quotient-is}
use Rattle.numbers.proofs.rounding.to_even.Goals as goal

pub with_sign-requires : goal.with_sign-requires
with_sign-requires c = quotient-small c.args.d c.args.x c.requires.0 c.ranges.x c.magnitude.ensures c.rounded.ensures

pub returns : goal.returns
returns c =
    let h =
    quotient-is c.args.d c.args.x c.requires.0 c.ranges.x (sfits_of c.with_sign.type_inv) c.magnitude.ensures c.rounded.ensures c.with_sign.ensures
    in
    record { value = h.0; nearest_whole = h.1 }
