-- The five kinds of message, each with its number and fixed length (rule 2.5).
use Rattle.std.specs.Prelude.{cond, ℕ, eqb}
use Rattle.numbers.specs.declared.stamp.Stamp.{Stamp}
use Rattle.wire_layout.specs.declared.message.Body.{Body}
use Rattle.wire_layout.specs.declared.message.Body.TheVariants.{Sync, DelayReq, FollowUp, DelayResp, Announce}

-- a kind's fixed length, 0 where it is not in the table
unfoldable pub fixed_length_of : ℕ → ℕ
fixed_length_of k = cond (eqb k 0) 44 (cond (eqb k 1) 44 (cond (eqb k 8) 44 (cond (eqb k 9) 54 (cond (eqb k 11) 64 0))))

abbrev pub kind_of : Body → ℕ
kind_of (Sync t) = 0
kind_of (DelayReq t) = 1
kind_of (FollowUp t) = 8
kind_of (DelayResp t p) = 9
kind_of (Announce t o) = 11

abbrev pub body_size : Body → ℕ
body_size (Sync t) = 44
body_size (DelayReq t) = 44
body_size (FollowUp t) = 44
body_size (DelayResp t p) = 54
body_size (Announce t o) = 64

abbrev pub stamp_in : Body → Stamp
stamp_in (Sync t) = t
stamp_in (DelayReq t) = t
stamp_in (FollowUp t) = t
stamp_in (DelayResp t p) = t
stamp_in (Announce t o) = t
