-- `got` meets its contract: a clear ruling tells that the octets are there, and each end is one law of proofs/ByKind.
use Rattle.std.proofs.Common.{◌≡◌, ℕ, List, ◌≤◌, length, sym, arith, rules}
use Rattle.wire_layout.specs.Kinds.{fixed_length_of}
use Rattle.wire_layout.specs.Positions.{kind_in}
use Rattle.wire_layout.proofs.Known.{Known, known, room-44}
use Rattle.wire_layout.proofs.Cases.{Sized}
use Rattle.wire_reader.proofs.Rulings.{opened}
use Rattle.rules_masters.specs.Records.{no_offer}
use Rattle.door_words.specs.Messages.{no_port}
use Rattle.door_words.proofs.ByKind.{of-delay-resp, of-announce, of_other}
use Rattle.door_words.proofs.messages.MessageWords.got.Goals as goal

-- the room that a clear ruling tells of
room : (s : List ℕ) → Sized s → fixed_length_of (kind_in s) ≤ length s
room s z = omega (arith, z.fixed, z.all)

kind-known : (s : List ℕ) → Sized s → Known (kind_in s)
kind-known s z = known (kind_in s) z.head.kind

pub stamp_at-stamp-requires : goal.stamp_at-stamp-requires
stamp_at-stamp-requires c =
    let s = c.args.s.now in
    let z = (opened s c.requires).sized in
    omega (arith, room s z, room-44 (kind-known s z))

pub header_of-header-requires : goal.header_of-header-requires
header_of-header-requires c = (opened c.args.s.now c.requires).sized.head.head

pub u16_at-to-requires : goal.u16_at-to-requires
u16_at-to-requires c = omega (arith, (opened c.args.s.now c.requires).sized.head.head)

pub bounds-s-0 : goal.bounds-s-0
bounds-s-0 c = omega (arith, (opened c.args.s.now c.requires).sized.head.head)

pub port_at-requires : goal.port_at-requires
unfolding fixed_length_of
port_at-requires c =
    let s = c.args.s.now in
    rw c.if-kind-eq-KIND.true at (room s (opened s c.requires).sized)

pub returns-then-kind-eq-KIND : goal.returns-then-kind-eq-KIND
returns-then-kind-eq-KIND c =
    let o : c.default.result ≡ no_offer = search rules in
    rw (o, c.port_at.ensures, c.u16_at-to.ensures, c.header_of-header.ensures, c.stamp_at-stamp.ensures)
    (sym (of-delay-resp c.args.s.now c.if-kind-eq-KIND.true))

pub offer_of-requires : goal.offer_of-requires
unfolding fixed_length_of
offer_of-requires c =
    let s = c.args.s.now in
    rw c.if-kind-eq-KIND-2.true at (room s (opened s c.requires).sized)

pub returns-then-kind-eq-KIND-2 : goal.returns-then-kind-eq-KIND-2
returns-then-kind-eq-KIND-2 c =
    let p : c.default-then-kind-eq-KIND-2.result ≡ no_port = search rules in
    rw (c.offer_of.ensures, p, c.u16_at-to.ensures, c.header_of-header.ensures, c.stamp_at-stamp.ensures)
    (sym (of-announce c.args.s.now c.if-kind-eq-KIND-2.true))

pub returns : goal.returns
returns c =
    let s = c.args.s.now in
    let o : c.default-3.result ≡ no_offer = search rules in
    let p : c.default-2.result ≡ no_port = search rules in
    rw (o, p, c.u16_at-to.ensures, c.header_of-header.ensures, c.stamp_at-stamp.ensures)
    (sym (of_other s (kind-known s (opened s c.requires).sized) c.if-kind-eq-KIND.false c.if-kind-eq-KIND-2.false))
