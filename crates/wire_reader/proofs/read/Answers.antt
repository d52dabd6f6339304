-- `read` meets its contract: a ruling that bars is the refusal; where none does, the octets of the message are there.
use Rattle.std.specs.Prelude.{Ok}
use Rattle.std.proofs.lemmas.Result.{err_from_is_err_and}
use mathlib.Core.Path.{sym, ◌∙◌}
use native.Mathlib.Omega.{arith}
use Rattle.wire_layout.specs.Positions.{kind_in}
use Rattle.wire_layout.proofs.Known.{known, room-44}
use Rattle.wire_reader.proofs.Rulings.{is-refused, is-got, opened}
use Rattle.wire_reader.proofs.read.Goals as goal

pub returns-in_err-barred : goal.returns-in_err-barred
returns-in_err-barred c =
    let p = err_from_is_err_and c.from_residual.result c.from_residual.ensures.1 in
    rw (p.1, p.2) (sym (is-refused c.args.s.now (sym c.barred.ensures ∙ c.in_err-barred.was)))

pub bounds-s-0 : goal.bounds-s-0
bounds-s-0 c = omega (arith, (opened c.args.s.now (sym c.barred.ensures ∙ c.in_ok-barred.was)).sized.head.head)

pub header_of-requires : goal.header_of-requires
header_of-requires c = (opened c.args.s.now (sym c.barred.ensures ∙ c.in_ok-barred.was)).sized.head.head

pub body_of-requires : goal.body_of-requires
body_of-requires c =
    let z = (opened c.args.s.now (sym c.barred.ensures ∙ c.in_ok-barred.was)).sized in
    record {
      kind_nonzero = omega (arith, room-44 (known (kind_in c.args.s.now) z.head.kind));
      kind_in_bounds = omega (arith, z.fixed, z.all);
    }

pub length_in-requires : goal.length_in-requires
length_in-requires c = omega (arith, (opened c.args.s.now (sym c.barred.ensures ∙ c.in_ok-barred.was)).sized.head.head)

pub returns : goal.returns
returns c =
    let b = c.body_of.ensures in
    let h = c.header_of.ensures in
    let f = c.fixed_length.ensures in
    let l = c.from.ensures ∙ c.length_in.ensures in
    rw (is-got c.args.s.now (sym c.barred.ensures ∙ c.in_ok-barred.was)) (λ i. Ok (record { header = h i; body = b i }, record { from = f i; to = l i }))
