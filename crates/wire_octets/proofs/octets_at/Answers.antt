-- `octets_at` meets its contract: the first N of what lies behind `at` octets.
use Rattle.std.proofs.Common.{◌∙◌, length, ◌-◌, drop, arith}
use Rattle.std.proofs.lemmas.List.{take-take}
use Rattle.wire_octets.proofs.Digits.{take_part}
use Rattle.wire_octets.proofs.octets_at.Goals as goal

pub returns : goal.returns
returns g c =
    let s = c.args.s.now in
    let at = c.args.at in
    (rw c.unwrap.ensures at c.first_chunk.ensures.cases).same ∙ take-take g.row.N (length s - at) (drop at s) (omega arith) ∙ take_part g.row.N at s c.requires
