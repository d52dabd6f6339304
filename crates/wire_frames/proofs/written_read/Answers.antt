-- `written_read` meets its contract: the first round trip, with the message's ranges from the value that is handed in.
use Rattle.std.specs.Prelude.{Ok}
use mathlib.Core.Path.{◌≡◌, sym, ap, ◌∙◌}
use lib.ListN.{length}
use Rattle.wire_layout.specs.Writing.{write_of}
use Rattle.wire_layout.specs.Reading.{read_of}
use Rattle.wire_layout.proofs.Ranges.{message-in}
use Rattle.wire_layout.proofs.Trips.{there_and_back}
use Rattle.wire_frames.specs.Frames.{written_read}
use Rattle.wire_frames.proofs.written_read.Goals as goal

pub returns-clause-value : goal.returns-clause-value
returns-clause-value c =
    let m = c.args.m in
    let t = c.args.suffix.now in
    let d = c.args.part.now in
    let n = c.in_ok-write.field-0 in
    let e : write_of m t (length d) ≡ Ok n = sym c.write.ensures.value ∙ c.in_ok-write.was in
    let l = rw e at c.write.ensures.part_after in
    c.read.ensures ∙ ap read_of l ∙ there_and_back m t d n (message-in m _ c.well_formed.0) e ∙ sym (ap (written_read m) e)
