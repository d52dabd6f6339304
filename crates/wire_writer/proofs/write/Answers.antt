-- `write` meets its contract: what the tests bar is the first refusal that is due, and the three stores leave the message in front.
use mathlib.Core.Path.{◌≡◌, refl, sym, ◌∙◌}
use mathlib.Core.Bool.{Bool}
use Prim.Native.Nat.{◌+◌, ◌≤◌}
use native.Mathlib.Omega.{arith}
use lib.ListN.{length}
use Rattle.std.proofs.Common.{rules}
use Rattle.numbers.specs.declared.stamp.Stamp.{Stamp}
use Rattle.wire_layout.specs.declared.message.Header.{Header}
use Rattle.wire_layout.specs.Kinds.{body_size, stamp_in}
use Rattle.wire_layout.specs.Writing.{fields_fit}
use Rattle.wire_layout.proofs.Sizes.{kind-16}
use Rattle.wire_layout.proofs.Stores.{fit, w-wrote, stored}
use Rattle.wire_writer.proofs.write.Goals as goal

-- what the test of the fields said, of the message's own stamp
tested : (h : Header) {t u : Stamp} {b r : Bool} → u ≡ t → r ≡ fields_fit h u → r ≡ b → fields_fit h t ≡ b
tested h e f g = rw e at (sym f ∙ g)

pub put_header-requires-clause-sdo_bound : goal.put_header-requires-clause-sdo_bound
put_header-requires-clause-sdo_bound c =
    let m = c.args.m in
    let i = fit m.header (stamp_in m.body) (tested m.header c.stamp.ensures c.fields_fit.ensures c.if-not-fields_fit.false) in
    (i.sdo, i.minor, rw c.kind.ensures (kind-16 m.body))

pub returns : goal.returns
returns c =
    let m = c.args.m in
    let t = c.args.suffix.now in
    let d = c.args.part.now in
    let f = tested m.header c.stamp.ensures c.fields_fit.ensures c.if-not-fields_fit.false in
    let w = sym c.whole.ensures ∙ c.if-not-whole.false in
    let z = c.size-fixed.ensures in
    let k : c.in-Ok.length ≡ body_size m.body + length t = search rules in
    let n : c.from-n.result ≡ body_size m.body + length t = search rules in
    let l : body_size m.body + length t ≤ 65_535 = omega arith in
    let r : body_size m.body + length t ≤ length d = omega arith in
    rw (w-wrote m t (length d) f w l r, c.copy_in.ensures, c.put_body.ensures, c.put_header.ensures, c.kind.ensures, k, n, z)
    (record { value = refl; part_after = stored m (body_size m.body + length t) t d r })
