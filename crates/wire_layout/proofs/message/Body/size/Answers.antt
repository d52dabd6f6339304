-- `Body::size` meets its contract: a body's kind is in the table.
use Rattle.std.proofs.Common.{ap, ◌∙◌}
use Rattle.wire_layout.specs.Kinds.{fixed_length_of}
use Rattle.wire_layout.proofs.Sizes.{size-fixed}
use Rattle.wire_layout.proofs.message.Body.size.Goals as goal

pub returns : goal.returns
returns c = c.fixed_length.ensures ∙ ap fixed_length_of c.kind.ensures ∙ size-fixed c.args.self
