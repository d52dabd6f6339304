-- `read` meets its contract: the ruling of reading tells what is read.
use Rattle.std.proofs.Common.{sym, ◌∙◌}
use Rattle.wire_reader.proofs.Rulings.{is-refused, is-got}
use Rattle.door_words.proofs.messages.MessageWords.read.Goals as goal

pub returns-in-Err : goal.returns-in-Err
returns-in-Err c =
    rw (is-refused c.args.octets.now (sym c.barred.ensures ∙ c.in-Err.is), c.into.ensures)

pub returns-in-Ok : goal.returns-in-Ok
returns-in-Ok c = rw (is-got c.args.octets.now (sym c.barred.ensures ∙ c.in-Ok.is)) c.got.ensures
