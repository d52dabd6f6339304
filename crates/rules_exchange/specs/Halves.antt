-- The two halves: which states each can be in, and how the unit's memory holds them (rule 7.1).
use Rattle.std.specs.Prelude.{Bool, true, false, cond, ℕ, ℤ, pos}
use Rattle.numbers.specs.declared.stamp.Stamp.{Stamp}
use Rattle.numbers.specs.Stamps.{no_stamp}
use Rattle.rules_exchange.specs.declared.halves.Sync.{Sync}
use Rattle.rules_exchange.specs.declared.halves.Request.{Request}

-- the half that a Sync begins: none is held; t2 is there and t1 is awaited; both are there
pub data SyncHalf : Type 0 where
  no_sync : SyncHalf
  awaits : (sequence : ℕ) (t2 : Stamp) (correction : ℤ) → SyncHalf
  knows : (sequence : ℕ) (t1 t2 : Stamp) (correction follow : ℤ) → SyncHalf

-- the half that a request begins: none is pending; t3 is awaited; it is there
pub data RequestHalf : Type 0 where
  no_request : RequestHalf
  asked : (sequence : ℕ) → RequestHalf
  stamped : (sequence : ℕ) (t3 : Stamp) → RequestHalf

-- the half that a Sync brings: a two-step one awaits t1, and what it has in t1's place is not kept (rule 7.3)
abbrev pub heard : (two_step : Bool) (sequence : ℕ) (correction : ℤ) (t1 t2 : Stamp) → SyncHalf
heard true n c t1 t2 = awaits n t2 c
heard false n c t1 t2 = knows n t1 t2 c (pos 0)

-- read from the memory
unfoldable pub sync_half : Sync → SyncHalf
sync_half s =
    cond s.held
    (cond s.known (knows s.sequence s.t1 s.t2 s.correction s.follow) (awaits s.sequence s.t2 s.correction))
    no_sync

unfoldable pub request_half : Request → RequestHalf
request_half r = cond r.pending (cond r.given (stamped r.sequence r.t3) (asked r.sequence)) no_request

-- and kept in it: what is not there is 0
abbrev pub as_sync : SyncHalf → Sync
as_sync no_sync = record { held = false; known = false; sequence = 0; t1 = no_stamp; t2 = no_stamp; correction = pos 0; follow = pos 0 }
as_sync (awaits n t2 c) = record { held = true; known = false; sequence = n; t1 = no_stamp; t2 = t2; correction = c; follow = pos 0 }
as_sync (knows n t1 t2 c f) = record { held = true; known = true; sequence = n; t1 = t1; t2 = t2; correction = c; follow = f }

abbrev pub as_request : RequestHalf → Request
as_request no_request = record { pending = false; given = false; sequence = 0; t3 = no_stamp }
as_request (asked n) = record { pending = true; given = false; sequence = n; t3 = no_stamp }
as_request (stamped n t3) = record { pending = true; given = true; sequence = n; t3 = t3 }

abbrev pub fresh_sync : Sync
fresh_sync = as_sync no_sync

abbrev pub fresh_request : Request
fresh_request = as_request no_request
