-- What the memory of the exchange tells of the log.
use mathlib.Core.Path.{◌≡◌, refl}
use mathlib.Core.List.{List, [], ◌∷◌}
use mathlib.Core.Option.{Option, none, some}
use mathlib.Core.Bool.{Bool, cond}
use Prim.Native.Nat.{ℕ, suc, min}
use lib.ListN.{take}
use Rattle.numbers.specs.declared.stamp.Stamp.{Stamp}
use Rattle.rules_exchange.specs.declared.Last.{Last}
use Rattle.rules_exchange.specs.declared.Exchange.{Exchange}
use Rattle.rules_exchange.specs.Events.{Answer}
use Rattle.rules_exchange.specs.Events.{Answered}
use Rattle.rules_delays.specs.Delays.{accepted_before, used_of, used_by as memory_uses}
use Rattle.rules_exchange.specs.Halves.{SyncHalf, no_sync, awaits, knows, RequestHalf, no_request, asked, stamped, sync_half, request_half}
use Rattle.rules_exchange.specs.Said.{Verdict}
use Rattle.rules_exchange.specs.Table.{Event}
use Rattle.rules_exchange.specs.Events.{fresh_exchange}
use Rattle.rules_exchange.proofs.Promises.{sync-held, request-held}
use Rattle.story_lists.specs.Reading.{all, since, newest}
use Rattle.story_exchange.specs.Log.{Log, events_in, answers_in, Origin, ASync, a_sync, a_request}
use Rattle.story_exchange.specs.Held.{held_sync, origin_of, origin, pending, stamp_of, t3, last_local, verdicts, is_huge, is_path, delays}
use Rattle.story_exchange.specs.Rules.{used}
use Rattle.story_exchange.specs.History.{log_with, exchange_after}

-- the halves, as the table of the exchange has them
abbrev pub sync_read : Option ASync → Option Origin → SyncHalf
sync_read none o = no_sync
sync_read (some s) none = awaits s.sequence s.t2 s.correction
sync_read (some s) (some o) = knows s.sequence o.t1 s.t2 s.correction o.correction

abbrev pub request_read : Option ℕ → Option Stamp → RequestHalf
request_read none t = no_request
request_read (some n) none = asked n
request_read (some n) (some t) = stamped n t

abbrev pub sync_in : List Event → SyncHalf
sync_in es = sync_read (newest a_sync es) (origin_of (newest a_sync es) es)

abbrev pub request_in : List Event → RequestHalf
request_in es = request_read (newest a_request es) (stamp_of (newest a_request es) es)

abbrev pub last_read : Last → Option Stamp
last_read l = cond l.taken (some l.stamp) none

-- how many of the newest are so
unfoldable pub row : (Verdict → Bool) → List Verdict → ℕ
row so [] = 0
row so (v ∷ l) = cond (so v) (suc (row so l)) 0

pub record Tells (l : Log) (x : Exchange) : Type 0 where
  pub sync : sync_half x.sync ≡ sync_read (held_sync l) (origin l)
  pub request : request_half x.request ≡ request_read (pending l) (t3 l)
  pub last : last_read x.last ≡ last_local l
  pub five : accepted_before x.delays ≡ take 5 (delays l)
  pub used : (d : ℕ) → used_of x.delays d ≡ used l d
  pub huge : x.huge ≡ min 3 (row is_huge (verdicts l))
  pub path : x.path ≡ min 3 (row is_path (verdicts l))

-- nothing is held, and the log is empty
pub fresh-tells : Tells [] fresh_exchange
unfolding events_in answers_in all since row memory_uses
fresh-tells =
    record {
      sync = sync-held no_sync;
      request = request-held no_request;
      last = refl;
      five = refl;
      used = λ d. refl;
      huge = refl;
      path = refl;
    }

-- the machine's answer is a, and its memory tells the log with one line more
pub record Agrees (l : Log) (e : Event) (a : Answer) (r : Answered) : Type 0 where
  pub says : r.answer ≡ a
  pub tells : Tells (log_with e a l) (exchange_after r)
