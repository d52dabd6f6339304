-- What each event does to the exchange: its refusals, the row of the table, the last local stamp, and the verdicts on a measurement.
use Rattle.std.specs.Prelude.{Bool, true, false, not, cond, List, ℕ, ◌+◌, leb, ltb, ℤ, pos, nat_abs, ◌+ℤ◌, ◌-ℤ◌, Ok, Err, Result}
use Rattle.numbers.specs.Grounds.{Ground, first_of}
use Rattle.numbers.specs.Orders.{Due, none_due, due_with, of_exchange}
use Rattle.numbers.specs.Stamps.{no_stamp, sound_of, below_of}
use Rattle.numbers.specs.declared.stamp.Stamp.{Stamp}
use Rattle.numbers.specs.declared.refusal.Refusal.{Refusal}
use Rattle.numbers.specs.declared.refusal.Refusal.TheVariants.{Correction, Unmatched}
use Rattle.numbers.specs.Grounds.{Ruling}
use Rattle.rules_exchange.specs.declared.Last.{Last}
use Rattle.rules_exchange.specs.declared.Exchange.{Exchange}
use Rattle.rules_exchange.specs.declared.said.Said.{Said}
use Rattle.rules_exchange.specs.declared.said.Said.TheVariants.{Back, Neg, Long, Huge, HugeFaulty, Path, PathWiped, Step, Measured}
use Rattle.rules_measure.specs.declared.Sum.{Sum}
use Rattle.rules_measure.specs.declared.Sum.TheVariants.{Delay, Neg as SumNeg, Long as SumLong}
use Rattle.rules_delays.specs.Delays.{fresh_delays, path_of, used_of, filtered}
use Rattle.rules_exchange.specs.Halves.{SyncHalf, RequestHalf, fresh_sync, fresh_request, as_sync, as_request, sync_half, request_half}
use Rattle.rules_measure.specs.Measure.{ns, sum_of, huge_of, is_step}
use Rattle.rules_exchange.specs.Table.{Event, sync, follow_up, requested, sent, delay_resp, Row, unmatched, puts_sync, puts_request, measures, row_by}

-- what the exchange answers to an event: what it says, or the refusal
abbrev pub Answer : Type 0
Answer = Result Said Refusal

-- and what it is after it
pub record Answered : Type 0 where
  pub answer : Answer
  pub exchange : Exchange

-- as after a wipe: no halves, no last stamp, no delays, no rows
abbrev pub fresh_exchange : Exchange
fresh_exchange =
    record { sync = fresh_sync; request = fresh_request; last = record { taken = false; stamp = no_stamp }; delays = fresh_delays; huge = 0; path = 0 }

abbrev pub said_with : Said → Exchange → Answered
said_with s x = record { answer = Ok s; exchange = x }

-- a refusal, and nothing changes (rule 3.51)
abbrev pub refused : Refusal → Exchange → Answered
refused n x = record { answer = Err n; exchange = x }

-- ---- the exchange with one part changed
abbrev pub with_sync : Exchange → SyncHalf → Exchange
with_sync x h = record { sync = as_sync h; request = x.request; last = x.last; delays = x.delays; huge = x.huge; path = x.path }

abbrev pub with_request : Exchange → RequestHalf → Exchange
with_request x h = record { sync = x.sync; request = as_request h; last = x.last; delays = x.delays; huge = x.huge; path = x.path }

abbrev pub with_last : Exchange → Stamp → Exchange
with_last x t = record { sync = x.sync; request = x.request; last = record { taken = true; stamp = t }; delays = x.delays; huge = x.huge; path = x.path }

abbrev pub with_rows : Exchange → ℕ → ℕ → Exchange
with_rows x h p = record { sync = x.sync; request = x.request; last = x.last; delays = x.delays; huge = h; path = p }

-- ---- the local stamp that an event brings: t2 or t3 (rule 7.8)
pub data Local : Type 0 where
  no_local : Local
  stamp : Stamp → Local

abbrev pub local : Event → Local
local (sync two n c t1 t2) = stamp t2
local (follow_up n c t1) = no_local
local (requested n) = no_local
local (sent n t3) = stamp t3
local (delay_resp n c t4 p own) = no_local

-- FIELD of a stamp, which the unit asks before anything else (rule 3.5)
abbrev pub field_of : Stamp → Bool
field_of t = not (sound_of t)

-- BACK: below the last local stamp. Nothing is taken then: neither the stamp nor its half (rule 7.9)
unfoldable pub is_above : Last → Stamp → Bool
is_above l t = cond l.taken (below_of t l.stamp) false

-- from x to y, with the stamp where there is one
unfoldable pub stamp_taken : Local → Said → Exchange → Exchange → Answered
stamp_taken no_local s x y = said_with s y
stamp_taken (stamp t) s x y = cond (is_above x.last t) (said_with Back x) (said_with s (with_last y t))

-- ---- a finished measurement, by forward and the sum of forward and back. Whatever comes of it, both halves are spent (rule 7.7)
abbrev pub spent : Exchange → Exchange
spent x = record { sync = fresh_sync; request = fresh_request; last = x.last; delays = x.delays; huge = x.huge; path = x.path }

-- HUGE: one more in a row, and PATH's row is broken (rules 7.16 and 7.19)
unfoldable pub huge_again : Exchange → Answered
huge_again x = cond (ltb x.huge 2) (said_with Huge (with_rows x (x.huge + 1) 0)) (said_with HugeFaulty (with_rows x 3 0))

-- PATH: one more in a row, and HUGE's row is broken (rules 7.17 and 7.19)
unfoldable pub path_again : Exchange → Answered
path_again x = cond (ltb x.path 2) (said_with Path (with_rows x 0 (x.path + 1))) (said_with PathWiped (with_rows x 0 3))

-- an accepted measurement (rules 7.21 to 7.24)
abbrev pub measured_with : ℕ → ℕ → ℤ → Said
measured_with delay used offset = Measured (record { delay = ns (pos delay); used = ns (pos used); offset = ns offset })

abbrev pub with_delay : Exchange → ℕ → Exchange
with_delay x delay = record { sync = x.sync; request = x.request; last = x.last; delays = filtered x.delays delay; huge = 0; path = 0 }

abbrev pub offset_of : Exchange → ℤ → ℕ → ℤ
offset_of x forward delay = forward -ℤ pos (used_of x.delays delay)

unfoldable pub accepted : Exchange → ℤ → ℕ → Answered
accepted x forward delay =
    cond (is_step (offset_of x forward delay)) (said_with (Step (ns (offset_of x forward delay))) x)
    (said_with (measured_with delay (used_of x.delays delay) (offset_of x forward delay)) (with_delay x delay))

-- NEG, LONG, HUGE, PATH: the first that holds (rule 7.18). NEG and LONG break both rows
unfoldable pub judged : Exchange → ℤ → ℕ → Answered
judged x forward delay = cond (huge_of (forward -ℤ pos delay)) (huge_again x) (cond (path_of x.delays delay) (path_again x) (accepted x forward delay))

abbrev pub by_sum : Exchange → ℤ → Sum → Answered
by_sum x forward SumNeg = said_with Neg (with_rows x 0 0)
by_sum x forward SumLong = said_with Long (with_rows x 0 0)
by_sum x forward (Delay delay) = judged x forward delay

abbrev pub finished : Exchange → ℤ → ℤ → Answered
finished x forward sum = by_sum (spent x) forward (sum_of sum)

-- ---- the refusals that are the exchange's own
-- CORRECTION (rule 3.19)
abbrev pub correction_of : ℤ → Bool
correction_of c = leb 65_536_000_000_000 (nat_abs c)

abbrev pub correction_in : Event → Bool
correction_in (sync two n c t1 t2) = correction_of c
correction_in (follow_up n c t1) = correction_of c
correction_in (requested n) = false
correction_in (sent n t3) = false
correction_in (delay_resp n c t4 p own) = correction_of c

-- the row of the table that the memory leads to
abbrev pub row_of : Exchange → Event → Row
row_of x e = row_by e (sync_half x.sync) (request_half x.request)

-- UNMATCHED: the row says that no partner is there (rule 3.17)
abbrev pub is_unmatched : Row → Bool
is_unmatched unmatched = true
is_unmatched (puts_sync s h) = false
is_unmatched (puts_request s h) = false
is_unmatched (measures forward back) = false

abbrev pub unmatched_of : Exchange → Event → Bool
unmatched_of x e = is_unmatched (row_of x e)

-- of the event alone, whatever is held; and with what is held
abbrev pub event_due : Event → Due → Due
event_due e due = due_with Correction (correction_in e) due

abbrev pub exchange_due : Exchange → Event → Due → Due
exchange_due x e due = event_due e (due_with Unmatched (unmatched_of x e) due)

-- the others of the order are the unit's
abbrev pub grounds_of : Exchange → Event → List Ground
grounds_of x e = of_exchange (exchange_due x e none_due)

-- ---- the whole: the first refusal that is due, or what the row says
abbrev pub follows : Exchange → Local → Row → Answered
follows x l unmatched = refused Unmatched x
follows x l (puts_sync s h) = stamp_taken l s x (with_sync x h)
follows x l (puts_request s h) = stamp_taken l s x (with_request x h)
follows x l (measures forward back) = finished x forward (forward +ℤ back)

-- what an event does where nothing refuses it
unfoldable pub tells_of : Exchange → Event → Answered
tells_of x e = follows x (local e) (row_of x e)

abbrev pub unless_barred : Exchange → Ruling → Answered → Answered
unless_barred x (Ok _) a = a
unless_barred x (Err n) a = refused n x

unfoldable pub told : Exchange → Event → Answered
told x e = unless_barred x (first_of (grounds_of x e)) (tells_of x e)
