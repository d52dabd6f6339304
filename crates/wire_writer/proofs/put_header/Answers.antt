-- `put_header` meets its contract: three stores, one behind the other.
use Rattle.wire_layout.proofs.Stores.{header-stored}
use Rattle.wire_writer.proofs.put_header.Goals as goal

pub returns : goal.returns
returns c =
    let a = c.args in
    rw (c.copy_in-3.ensures, c.copy_in-2.ensures, c.copy_in.ensures, c.back_octets.ensures, c.port_octets.ensures, c.front_octets.ensures)
    (header-stored a.out.now a.h a.kind a.len c.requires.in_bounds)
