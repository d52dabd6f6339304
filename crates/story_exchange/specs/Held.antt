-- What is held, read off the log (rules 7.1 to 7.8, 7.19 and 7.21).
use Rattle.std.specs.Prelude.{List, [], ◌∷◌, Bool, true, false, ◌&&◌, ℕ}
use Rattle.std.proofs.Math.Option.{Option, none, some}
use Rattle.numbers.specs.declared.stamp.Stamp.{Stamp}
use Rattle.rules_exchange.specs.Said.{Verdict, rejected, huge, path, accepted, verdict_of}
use Rattle.rules_exchange.specs.Table.{Event}
use Rattle.story_lists.specs.Reading.{all, since, newest, or_else}
use Rattle.story_exchange.specs.Log.{Log, events_in, answers_in, Origin, ASync, a_sync, a_follow_up, a_request, a_t3, a_delay_resp, a_local, a_delay, a_used}

-- ---- the halves: what came since the last Delay_Resp, which spent both (rule 7.7)
abbrev pub unspent : Log → List Event
unspent l = since a_delay_resp (events_in l)

-- the newest Sync (rule 7.2)
abbrev pub held_sync : Log → Option ASync
held_sync l = newest a_sync (unspent l)

-- its t1: its own where it is one-step, else that of a Follow_Up that came after it (rules 7.3 and 7.4)
abbrev pub origin_of : Option ASync → List Event → Option Origin
origin_of none es = none
origin_of (some s) es = or_else s.own (newest (a_follow_up s.sequence) (since a_sync es))

abbrev pub origin : Log → Option Origin
origin l = origin_of (held_sync l) (unspent l)

-- the newest request (rule 7.5)
abbrev pub pending : Log → Option ℕ
pending l = newest a_request (unspent l)

-- its t3, which came after it (rule 7.6)
abbrev pub stamp_of : Option ℕ → List Event → Option Stamp
stamp_of none es = none
stamp_of (some n) es = newest (a_t3 n) (since a_request es)

abbrev pub t3 : Log → Option Stamp
t3 l = stamp_of (pending l) (unspent l)

-- ---- the last local stamp
abbrev pub last_local : Log → Option Stamp
last_local l = newest a_local (events_in l)

-- ---- the finished measurements since the wipe, the newest first
abbrev pub verdicts : Log → List Verdict
verdicts l = all verdict_of (answers_in l)

abbrev pub is_huge : Verdict → Bool
is_huge rejected = false
is_huge huge = true
is_huge path = false
is_huge (accepted d u o) = false

abbrev pub is_path : Verdict → Bool
is_path rejected = false
is_path huge = false
is_path path = true
is_path (accepted d u o) = false

-- one more such is the third in a row: the last two finished measurements were so
unfoldable pub last_two : (Verdict → Bool) → List Verdict → Bool
last_two so [] = false
last_two so (v ∷ []) = false
last_two so (v ∷ w ∷ l) = so v && so w

-- the accepted delays, the last accepted one, and the delay last used
abbrev pub delays : Log → List ℕ
delays l = all a_delay (verdicts l)

abbrev pub last_delay : Log → Option ℕ
last_delay l = newest a_delay (verdicts l)

abbrev pub last_used : Log → Option ℕ
last_used l = newest a_used (verdicts l)
