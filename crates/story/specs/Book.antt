-- The book of the unit: every call that was not refused, with the answer that it got, the newest first; and what is read off it.
use Rattle.std.specs.Prelude.{List, [], ◌∷◌, ◌++◌, Bool, true, false, cond, ◌&&◌, ℕ, ◌%◌, ◌^◌, leb, ℤ, pos, ◌-ℤ◌, length}
use Rattle.std.proofs.Math.Option.{Option, none, some, get_or}
use Rattle.numbers.specs.declared.stamp.Stamp.{Stamp}
use Rattle.wire_layout.specs.declared.message.Port.{Port}
use Rattle.wire_layout.specs.declared.message.Header.{Header}
use Rattle.wire_layout.specs.declared.message.Body.{Body}
use Rattle.wire_layout.specs.declared.message.Body.TheVariants as bodies
use Rattle.rules_masters.specs.declared.chosen.Chosen.{Chosen}
use Rattle.rules_masters.specs.Holding.{fresh_chosen, master_of}
use Rattle.rules_exchange.specs.declared.said.Said.{Said}
use Rattle.rules_exchange.specs.declared.said.Said.TheVariants as says
use Rattle.rules_exchange.specs.Said.{Verdict, rejected, huge, path, accepted, faults_of, asked_by, verdict_of}
use Rattle.rules_exchange.specs.Table.{Event, sync, requested, sent, follow_up, delay_resp}
use Rattle.rules_watch.specs.declared.settings.WatchSettings.{WatchSettings}
use Rattle.rules_watch.specs.declared.window.Sample.{Sample}
use Rattle.rules_watch.specs.Rules.{Since, Stamps, apart}
use Rattle.rules_settings.specs.declared.Settings.{Settings}
use Rattle.unit_core.specs.declared.calls.Call.{Call}
use Rattle.unit_core.specs.declared.calls.Call.TheVariants as calls
use Rattle.unit_core.specs.declared.calls.Answer.{Answer}
use Rattle.unit_core.specs.declared.calls.Answer.TheVariants as answers
use Rattle.unit_core.specs.Effects.{Stays}
use Rattle.unit_core.specs.Answers.{wipes_of}
use Rattle.unit_measuring.specs.Hearing.{two_step_in}
use Rattle.story_lists.specs.Reading.{all, newest, since}
use Rattle.story_exchange.specs.Log.{entry as exchange_entry, Entry as ExchangeEntry, Log as ExchangeLog}
use Rattle.story_masters.specs.Announces.{Log as SeatLog}
use Rattle.story_masters.specs.History.{Happening, arrives, passes, log as seats_after}

pub data Entry : Type 0 where
  entry : Call → Answer → Entry

abbrev pub Book : Type 0
Book = List Entry

-- ---- what an answer says
-- what the exchange said
abbrev pub said_by : Answer → Option Said
said_by (answers.Refused n) = none
said_by (answers.Choice d) = none
said_by (answers.Exchange said output) = some said
said_by (answers.Watch p) = none
said_by answers.Wiped = none
said_by (answers.Line l n) = none
said_by (answers.Shows x) = none

-- the choice that was made
abbrev pub choice_by : Answer → Option Chosen
choice_by (answers.Refused n) = none
choice_by (answers.Choice d) = some (master_of d)
choice_by (answers.Exchange said output) = none
choice_by (answers.Watch p) = none
choice_by answers.Wiped = none
choice_by (answers.Line l n) = none
choice_by (answers.Shows x) = none

abbrev pub a_wipe : Entry → Option Answer
a_wipe (entry call a) = cond (wipes_of a) (some a) none

-- how often the unit was wiped, and what came since the last time
abbrev pub wipe_count : Book → ℕ
wipe_count b = length (all a_wipe b)

abbrev pub since_wipe : Book → Book
since_wipe b = since a_wipe b

-- ---- what stays through a wipe
-- the last accepted now: 0 for a fresh unit
abbrev pub a_now : Entry → Option ℕ
a_now (entry (calls.Receive now arrival m) a) = some now
a_now (entry (calls.Request now room) a) = some now
a_now (entry (calls.Sent now n t3) a) = some now
a_now (entry (calls.Time now) a) = some now
a_now (entry calls.Reset a) = none
a_now (entry (calls.Tick r c) a) = none
a_now (entry calls.Line a) = none
a_now (entry calls.Show a) = none

abbrev pub last_now : Book → ℕ
last_now b = get_or (newest a_now b) 0

-- the choice made last
abbrev pub a_choice : Entry → Option Chosen
a_choice (entry call a) = choice_by a

abbrev pub chosen : Book → Chosen
chosen b = get_or (newest a_choice b) fresh_chosen

module _ {A B : Type 0} where
  abbrev pub then : Option A → (A → Option B) → Option B
  then none f = none
  then (some a) f = f a

abbrev pub is_some : {A : Type 0} → Option A → Bool
is_some none = false
is_some (some a) = true

-- the unit is faulty: there was a HUGE for the third time in a row since the last reset
abbrev pub fault_by : Said → Option Said
fault_by said = cond (faults_of said) (some said) none

abbrev pub a_fault : Entry → Option Said
a_fault (entry call a) = then (said_by a) fault_by

abbrev pub reset_by : Answer → Option Answer
reset_by (answers.Refused n) = none
reset_by (answers.Choice d) = none
reset_by (answers.Exchange said output) = none
reset_by (answers.Watch p) = none
reset_by answers.Wiped = some answers.Wiped
reset_by (answers.Line l n) = none
reset_by (answers.Shows x) = none

abbrev pub a_reset : Entry → Option Answer
a_reset (entry call a) = reset_by a

abbrev pub faulty : Book → Bool
faulty b = is_some (newest a_fault (since a_reset b))

-- the sequenceId of the next request: so many were written, and after 65,535 comes 0
abbrev pub a_request_call : Entry → Option ℕ
a_request_call (entry (calls.Receive now arrival m) a) = none
a_request_call (entry (calls.Request now room) a) = some now
a_request_call (entry (calls.Sent now n t3) a) = none
a_request_call (entry (calls.Time now) a) = none
a_request_call (entry calls.Reset a) = none
a_request_call (entry (calls.Tick r c) a) = none
a_request_call (entry calls.Line a) = none
a_request_call (entry calls.Show a) = none

abbrev pub sequence : Book → ℕ
sequence b = length (all a_request_call b) % 2 ^ 16

-- these four together
abbrev pub stays_in : Book → Stays
stays_in b = record { now = last_now b; chosen = chosen b; faulty = faulty b; sequence = sequence b }

-- ---- the masters: the Announces, and the nows of all other calls that carry one
abbrev pub happening_by : ℕ → Header → Body → Happening
happening_by now h (bodies.Announce stamp offer) = arrives now (record { header = h; stamp = stamp; offer = offer })
happening_by now h (bodies.DelayReq t) = passes now
happening_by now h (bodies.Sync t1) = passes now
happening_by now h (bodies.FollowUp t1) = passes now
happening_by now h (bodies.DelayResp t4 p) = passes now

abbrev pub a_happening : Entry → Option Happening
a_happening (entry (calls.Receive now arrival m) a) = some (happening_by now m.header m.body)
a_happening (entry (calls.Request now room) a) = some (passes now)
a_happening (entry (calls.Sent now n t3) a) = some (passes now)
a_happening (entry (calls.Time now) a) = some (passes now)
a_happening (entry calls.Reset a) = none
a_happening (entry (calls.Tick r c) a) = none
a_happening (entry calls.Line a) = none
a_happening (entry calls.Show a) = none

abbrev pub seats : Settings → Book → SeatLog
seats s b = seats_after s.domain s.own s.announce (all a_happening b)

-- ---- the exchange: its events since the wipe, with what it said to each
abbrev pub exchange_entry_of : Event → Option Said → Option ExchangeEntry
exchange_entry_of e none = none
exchange_entry_of e (some said) = some (exchange_entry e said)

-- the request that was written, by its sequenceId
abbrev pub request_by : Answer → Option ExchangeEntry
request_by a = then (then (said_by a) asked_by) (λ (n : ℕ). some (exchange_entry (requested n) (says.Asked n)))

abbrev pub heard_by : Port → Stamp → Header → Body → Option Said → Option ExchangeEntry
heard_by own t2 h (bodies.Announce stamp offer) a = none
heard_by own t2 h (bodies.DelayReq t) a = none
heard_by own t2 h (bodies.Sync t1) a = exchange_entry_of (sync (two_step_in h) h.sequence h.correction t1 t2) a
heard_by own t2 h (bodies.FollowUp t1) a = exchange_entry_of (follow_up h.sequence h.correction t1) a
heard_by own t2 h (bodies.DelayResp t4 p) a = exchange_entry_of (delay_resp h.sequence h.correction t4 p own) a

abbrev pub an_exchange_entry : Port → Entry → Option ExchangeEntry
an_exchange_entry own (entry (calls.Receive now arrival m) a) = heard_by own arrival m.header m.body (said_by a)
an_exchange_entry own (entry (calls.Request now room) a) = request_by a
an_exchange_entry own (entry (calls.Sent now n t3) a) = exchange_entry_of (sent n t3) (said_by a)
an_exchange_entry own (entry (calls.Time now) a) = none
an_exchange_entry own (entry calls.Reset a) = none
an_exchange_entry own (entry (calls.Tick r c) a) = none
an_exchange_entry own (entry calls.Line a) = none
an_exchange_entry own (entry calls.Show a) = none

abbrev pub exchange_log : Settings → Book → ExchangeLog
exchange_log s b = all (an_exchange_entry s.own) (since_wipe b)

-- ---- the servo: the accepted offsets since the wipe; and the now of the last accepted measurement since the wipe
abbrev pub offset_by : Verdict → Option ℤ
offset_by rejected = none
offset_by huge = none
offset_by path = none
offset_by (accepted d u o) = some o

abbrev pub an_offset : Entry → Option ℤ
an_offset (entry call a) = then (then (said_by a) verdict_of) offset_by

abbrev pub offsets : Book → List ℤ
offsets b = all an_offset (since_wipe b)

abbrev pub a_measurement : Entry → Option ℕ
a_measurement (entry call a) = then (an_offset (entry call a)) (λ (o : ℤ). a_now (entry call a))

abbrev pub last_measured : Book → Option ℕ
last_measured b = newest a_measurement (since_wipe b)

-- ---- the watch: the second pulses since the wipe
abbrev pub a_pulse : Entry → Option Stamps
a_pulse (entry (calls.Receive now arrival m) a) = none
a_pulse (entry (calls.Request now room) a) = none
a_pulse (entry (calls.Sent now n t3) a) = none
a_pulse (entry (calls.Time now) a) = none
a_pulse (entry calls.Reset a) = none
a_pulse (entry (calls.Tick r c) a) = some (record { reference = r; clock = c })
a_pulse (entry calls.Line a) = none
a_pulse (entry calls.Show a) = none

-- how far the clock is ahead of the reference, and how far it was at the first pulse
abbrev pub ahead : Stamps → ℤ
ahead p = p.clock -ℤ p.reference

unfoldable pub ahead_first : List Stamps → ℤ
ahead_first [] = pos 0
ahead_first (p ∷ []) = ahead p
ahead_first (p ∷ q ∷ l) = ahead_first (q ∷ l)

-- y of a pulse p after these: how much further the clock is ahead than it was at the first one
abbrev pub y_after : Stamps → List Stamps → ℤ
y_after p [] = pos 0
y_after p (q ∷ l) = ahead p -ℤ ahead_first (q ∷ l)

-- valid: the reference went on by a second, within the tolerance, and y moved by the spike at most
abbrev pub valid_after : WatchSettings → Stamps → List Stamps → Bool
valid_after t p [] = true
valid_after t p (q ∷ l) = leb (apart (p.reference -ℤ q.reference) (pos 1_000_000_000)) t.tolerance && leb (apart (y_after p (q ∷ l)) (y_after q l)) t.spike

abbrev pub sample_of : WatchSettings → Stamps → List Stamps → Sample
sample_of t p before = record { reference = p.reference; y = y_after p before; valid = valid_after t p before }

-- the samples, the oldest first
unfoldable pub samples_of : WatchSettings → List Stamps → List Sample
samples_of t [] = []
samples_of t (p ∷ before) = samples_of t before ++ (sample_of t p before ∷ [])

abbrev pub samples : Settings → Book → Since
samples s b = record { origin = ahead_first (all a_pulse (since_wipe b)); samples = samples_of s.watch (all a_pulse (since_wipe b)) }
