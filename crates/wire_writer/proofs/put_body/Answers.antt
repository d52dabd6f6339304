-- `put_body` meets its contract: the timestamp, and behind it what the kind has.
use mathlib.Core.Path.{ap, ◌∙◌}
use native.Mathlib.Omega.{arith}
use Rattle.wire_layout.specs.Writing.{stamp_octets, port_octets, offer_octets}
use Rattle.wire_layout.specs.Kinds.{body_size, stamp_in}
use Rattle.wire_layout.proofs.Sizes.{stamp-length, port-length, offer-length}
use Rattle.wire_octets.proofs.Digits.{put-put}
use Rattle.wire_writer.proofs.put_body.Goals as goal

pub returns-in-DelayResp : goal.returns-in-DelayResp
returns-in-DelayResp c =
    let a = c.in-DelayResp in
    let t = a.field-0 in
    rw (a.is, c.copy_in-in-DelayResp.ensures, c.port_octets.ensures, c.copy_in.ensures, c.stamp_octets.ensures, c.stamp.ensures ∙ ap stamp_in a.is)
    (put-put c.args.out.now 34 (stamp_octets t) (port_octets a.p) 44 (omega (arith, stamp-length t)) (omega (arith, c.requires, ap body_size a.is, port-length a.p)))

pub returns-in-Announce : goal.returns-in-Announce
returns-in-Announce c =
    let a = c.in-Announce in
    let t = a.field-0 in
    rw (a.is, c.copy_in-in-Announce.ensures, c.offer_octets.ensures, c.copy_in.ensures, c.stamp_octets.ensures, c.stamp.ensures ∙ ap stamp_in a.is)
    (put-put c.args.out.now 34 (stamp_octets t) (offer_octets a.o) 44 (omega (arith, stamp-length t)) (omega (arith, c.requires, ap body_size a.is, offer-length a.o)))
