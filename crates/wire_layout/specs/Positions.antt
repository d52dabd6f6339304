-- Where each field lies (rules 2.2 to 2.7; IEEE 1588-2019, clause 13). `num k at s` is the number in the k octets from `at`.
use Rattle.std.specs.Prelude.{cond, List, ℕ, ◌+◌, ◌/◌, ◌%◌, eqb, get_or}
use Rattle.std.specs.Int.{w8, w16, w64}
use Rattle.std.proofs.Common.{to_z}
use Rattle.wire_octets.specs.Octets.{num}
use Rattle.numbers.specs.declared.stamp.Stamp.{Stamp}
use Rattle.wire_layout.specs.declared.message.Port.{Port}
use Rattle.wire_layout.specs.declared.message.Header.{Header}
use Rattle.wire_layout.specs.declared.message.Offer.{Offer}
use Rattle.wire_layout.specs.declared.message.Body.{Body}
use Rattle.wire_layout.specs.declared.message.Body.TheVariants.{Sync, DelayReq, FollowUp, DelayResp, Announce}
use Rattle.wire_layout.specs.declared.message.Message.{Message}

-- the lower halves of the first two octets, and the two octets behind them
abbrev pub kind_in : List ℕ → ℕ
kind_in s = get_or s 0 0 % 16

abbrev pub version_in : List ℕ → ℕ
version_in s = get_or s 1 0 % 16

abbrev pub length_in : List ℕ → ℕ
length_in s = num 2 2 s

-- 8 octets of clock identity, 2 of port number
unfoldable pub port_at : ℕ → List ℕ → Port
port_at at s = record { clock = num 8 at s; number = num 2 (at + 8) s }

unfoldable pub header_of : List ℕ → Header
header_of s =
    record {
      sdo = get_or s 0 0 / 16;
      minor = get_or s 1 0 / 16;
      domain = get_or s 4 0;
      minorsdo = get_or s 5 0;
      flags = num 2 6 s;
      correction = to_z w64 (num 8 8 s);
      specific = num 4 16 s;
      source = port_at 20 s;
      sequence = num 2 30 s;
      control = get_or s 32 0;
      interval = to_z w8 (get_or s 33 0);
    }

-- 6 octets of seconds, 4 of nanoseconds
unfoldable pub stamp_at : ℕ → List ℕ → Stamp
stamp_at at s = record { seconds = num 6 at s; nanoseconds = num 4 (at + 6) s }

unfoldable pub offer_of : List ℕ → Offer
offer_of s =
    record {
      utc = to_z w16 (num 2 44 s);
      reserved = get_or s 46 0;
      priority1 = get_or s 47 0;
      class = get_or s 48 0;
      accuracy = get_or s 49 0;
      variance = num 2 50 s;
      priority2 = get_or s 52 0;
      grandmaster = num 8 53 s;
      steps = num 2 61 s;
      time = get_or s 63 0;
    }

-- all kinds: a timestamp at 34-43; behind it 9 has the requesting port identity and 11 the offer
unfoldable pub body_of : ℕ → List ℕ → Body
body_of k s =
    cond (eqb k 0) (Sync (stamp_at 34 s))
    (cond (eqb k 1) (DelayReq (stamp_at 34 s))
    (cond (eqb k 8) (FollowUp (stamp_at 34 s))
    (cond (eqb k 9) (DelayResp (stamp_at 34 s) (port_at 44 s))
    (Announce (stamp_at 34 s) (offer_of s)))))

abbrev pub message_of : List ℕ → Message
message_of s = record { header = header_of s; body = body_of (kind_in s) s }
