-- How long each part is.
use mathlib.Core.Path.{◌≡◌, refl}
use Prim.Native.Nat.{ℕ, ◌+◌, ◌≤◌, ◌<◌}
use native.Mathlib.Omega.{arith}
use lib.Dec.{lit≤, lit<}
use lib.ListN.{length, length-append}
use Rattle.wire_octets.specs.Octets.{big_endian}
use Rattle.wire_layout.specs.declared.message.Port.{Port}
use Rattle.wire_layout.specs.declared.message.Header.{Header}
use Rattle.numbers.specs.declared.stamp.Stamp.{Stamp}
use Rattle.wire_layout.specs.declared.message.Offer.{Offer}
use Rattle.wire_layout.specs.declared.message.Body.{Body}
use Rattle.wire_layout.specs.declared.message.Body.TheVariants.{Sync, DelayReq, FollowUp, DelayResp, Announce}
use Rattle.wire_layout.specs.Kinds.{kind_of, body_size, fixed_length_of}
use Rattle.wire_layout.specs.Writing.{front_bits, back_bits, front_octets, back_octets, header_octets, stamp_octets, port_octets, offer_bits, offer_octets, body_octets}

pub header-length : (h : Header) (k n : ℕ) → length (header_octets h k n) ≡ 34
unfolding front_bits back_bits port_octets big_endian
header-length h k n = refl

pub front_length : (h : Header) (k n : ℕ) → length (front_octets h k n) ≡ 20
unfolding front_bits big_endian
front_length h k n = refl

pub back-length : (h : Header) → length (back_octets h) ≡ 4
unfolding back_bits big_endian
back-length h = refl

pub stamp-length : (t : Stamp) → length (stamp_octets t) ≡ 10
unfolding stamp_octets big_endian
stamp-length t = refl

pub port-length : (p : Port) → length (port_octets p) ≡ 10
unfolding port_octets big_endian
port-length p = refl

pub offer-length : (o : Offer) → length (offer_octets o) ≡ 20
unfolding offer_bits big_endian
offer-length o = refl

pub body-length : (b : Body) → 34 + length (body_octets b) ≡ body_size b
body-length (Sync t) = omega (arith, stamp-length t)
body-length (DelayReq t) = omega (arith, stamp-length t)
body-length (FollowUp t) = omega (arith, stamp-length t)
body-length (DelayResp t p) = rw length-append (omega (arith, stamp-length t, port-length p))
body-length (Announce t o) = rw length-append (omega (arith, stamp-length t, offer-length o))

pub size-44 : (b : Body) → 44 ≤ body_size b
size-44 (Sync t) = lit≤ tt
size-44 (DelayReq t) = lit≤ tt
size-44 (FollowUp t) = lit≤ tt
size-44 (DelayResp t p) = lit≤ tt
size-44 (Announce t o) = lit≤ tt

pub size_64 : (b : Body) → body_size b ≤ 64
size_64 (Sync t) = lit≤ tt
size_64 (DelayReq t) = lit≤ tt
size_64 (FollowUp t) = lit≤ tt
size_64 (DelayResp t p) = lit≤ tt
size_64 (Announce t o) = lit≤ tt

pub kind-16 : (b : Body) → kind_of b < 16
kind-16 (Sync t) = lit< tt
kind-16 (DelayReq t) = lit< tt
kind-16 (FollowUp t) = lit< tt
kind-16 (DelayResp t p) = lit< tt
kind-16 (Announce t o) = lit< tt

pub size-fixed : (b : Body) → fixed_length_of (kind_of b) ≡ body_size b
unfolding fixed_length_of
size-fixed (Sync t) = refl
size-fixed (DelayReq t) = refl
size-fixed (FollowUp t) = refl
size-fixed (DelayResp t p) = refl
size-fixed (Announce t o) = refl
