-- What the demands read off an answer, a call, or a list of calls.
use Rattle.std.specs.Prelude.{ℕ, suc, ◌<◌, ◌%◌, ◌^◌, ◌≡◌, ◌⊎◌, Bool, false, ◌&&◌, ◌||◌, List, [], ◌∷◌, reverse, eqb, leb, ℤ, pos, length, Ok, Err}
use Rattle.numbers.specs.Integers.{up}
use Rattle.rules_masters.specs.declared.chosen.Chosen.{Chosen}
use Rattle.rules_masters.specs.Holding.{master_of}
use Rattle.rules_masters.specs.declared.table.Table.{Table}
use Rattle.rules_watch.specs.declared.window.Sample.{Sample}
use Rattle.rules_watch.specs.declared.Watch.{Watch as DriftWatch}
use Rattle.rules_watch.specs.Settings.{size_of, least_of, wait_of}
use Rattle.rules_watch.specs.Window.{last_n}
use Rattle.rules_watch.specs.Watch.{pushed}
use Rattle.rules_watch.specs.Totals.{points_of}
use Rattle.rules_settings.specs.declared.Settings.{Settings}
use Rattle.rules_settings.specs.declared.Given.{Given}
use Rattle.rules_settings.specs.Ranges.{as_given}
use Rattle.unit_core.specs.declared.calls.Answer.{Answer}
use Rattle.unit_core.specs.declared.calls.Answer.TheVariants.{Refused, Choice, Exchange, Watch, Wiped, Line, Shows}
use Rattle.unit.specs.declared.Unit.{Unit}
use Rattle.unit_handing.specs.Handing.{Asked}
use Rattle.unit.specs.Calls.{fresh_unit, unit_table}
use Rattle.unit_handing.specs.Handing.{Handed, receive, request, sent, time, reset, tick, line, show, served_all}
use Rattle.story.specs.Book.{Book, samples, wipe_count}
use Rattle.story.specs.Tale.{book}
use Rattle.door_records.specs.declared.masters.MasterWords.{MasterWords}
use Rattle.door_words.specs.declared.answers.AnswerWords.{AnswerWords}
use Rattle.door_loop.specs.Loop.{Parts, Table as Lendable, own, stray, looped, fresh_parts}

-- ---- after a list of calls, the oldest first: a fresh unit, and for C the parts of one
abbrev pub unit_after : Settings → List (Handed ℕ) → Unit
unit_after s list = served_all (fresh_unit s) list

abbrev pub parts_after : Settings → List (Handed Lendable) → Parts
parts_after s list = looped (fresh_parts s) list

-- ---- the output that an answer tells, in ppb; 0 where it tells none
abbrev pub output_in : Answer → ℤ
output_in (Refused r) = pos 0
output_in (Choice d) = pos 0
output_in (Exchange said output) = output.0
output_in (Watch p) = pos 0
output_in Wiped = pos 0
output_in (Line l n) = pos 0
output_in (Shows x) = x.output.0

-- ---- what stays over a wipe, by the answer
-- the master that was chosen: the answer names a new one
abbrev pub chosen_by : Answer → Chosen → Chosen
chosen_by (Refused r) c = c
chosen_by (Choice d) c = master_of d
chosen_by (Exchange said output) c = c
chosen_by (Watch p) c = c
chosen_by Wiped c = c
chosen_by (Line l n) c = c
chosen_by (Shows x) c = c

-- FAULTY, which a reset alone ends
abbrev pub faulty_by : Answer → Bool → Bool
faulty_by (Refused r) faulty = faulty
faulty_by (Choice d) faulty = faulty
faulty_by (Exchange said output) faulty = faulty
faulty_by (Watch p) faulty = faulty
faulty_by Wiped faulty = false
faulty_by (Line l n) faulty = faulty
faulty_by (Shows x) faulty = faulty

-- the now that a call carries, else the one before
abbrev pub now_in : {T : Type 0} → Handed T → ℕ → ℕ
now_in (receive table octets now arrival) before = now
now_in (request frame now) before = now
now_in (sent now sequence t3) before = now
now_in (time table now) before = now
now_in reset before = before
now_in (tick reference clock) before = before
now_in line before = before
now_in show before = before

-- the table that a call leaves: only an Announce stores a place of it
abbrev pub table_found : Unit → Asked → Table
table_found c (Err r) = c.table
table_found c (Ok call) = unit_table c call

-- what a wipe empties is that of a fresh unit with these settings
pub record Emptied (s : Settings) (c : Unit) : Type 0 where
  pub run : c.core.domain.run ≡ (fresh_unit s).core.domain.run
  pub servo : c.servo ≡ (fresh_unit s).servo
  pub watch : c.watch ≡ (fresh_unit s).watch

-- the watch is as before, or has one sample more, and then the last W of them
abbrev pub Grown : Settings → DriftWatch → DriftWatch → Type 0
Grown s before after = (after ≡ before) ⊎ ((origin : ℤ) × (x : Sample) × (after ≡ pushed (size_of s.watch) origin x before))

-- ---- the samples taken since the last wipe, the oldest first, as the book has them
abbrev pub taken_in : Settings → Book → List Sample
taken_in s b = (samples s b).samples

-- with settings as they were given, after a list of calls, the oldest first: these samples, ..
abbrev pub taken : Given → List (Handed ℕ) → List Sample
taken g list = taken_in (as_given g) (book (as_given g) (reverse list))

-- .. of them the last W, ..
abbrev pub window : Given → List (Handed ℕ) → List Sample
window g list = last_n (up g.window) (taken g list)

-- .. whether they reach holdoff and minimum, ..
abbrev pub is_due : Given → List (Handed ℕ) → Bool
is_due g list = leb (up g.holdoff) (length (taken g list)) && leb (up g.minimum) (length (points_of (window g list)))

-- .. and the wipe count, which has 32 bits
abbrev pub wipes_counted : Given → List (Handed ℕ) → ℕ
wipes_counted g list = wipe_count (book (as_given g) (reverse list)) % 2 ^ 32

-- ---- the second pulses in a list of calls
abbrev pub counting : {T : Type 0} → Handed T → ℕ → ℕ
counting (receive table octets now arrival) n = n
counting (request frame now) n = n
counting (sent now sequence t3) n = n
counting (time table now) n = n
counting reset n = n
counting (tick reference clock) n = suc n
counting line n = n
counting show n = n

unfoldable pub pulses_in : {T : Type 0} → List (Handed T) → ℕ
pulses_in [] = 0
pulses_in (call ∷ l) = counting call (pulses_in l)

-- fewer than the holdoff asks, or than the minimum
abbrev pub TooFew : {T : Type 0} → Settings → List (Handed T) → Type 0
TooFew s list = (pulses_in list < wait_of s.watch) ⊎ (pulses_in list < least_of s.watch)

-- ---- the stray table that a call for C is lent; none where it is lent the loop's own, or no table
abbrev pub stray_by : Lendable → List MasterWords
stray_by own = []
stray_by (stray records e) = records

abbrev pub stray_in : Handed Lendable → List MasterWords
stray_in (receive table octets now arrival) = stray_by table
stray_in (request frame now) = []
stray_in (sent now sequence t3) = []
stray_in (time table now) = stray_by table
stray_in reset = []
stray_in (tick reference clock) = []
stray_in line = []
stray_in show = []

-- ---- at the door, by the code of an answer as door/sinezhab.h has them
-- REFUSED
abbrev pub is_refused : AnswerWords → Bool
is_refused a = eqb a.code 0

-- CHANGED; BACK, PATH for the third time and STEP of the exchange; RESET; BACK, RANGE and JUMP of the watch
abbrev pub says_wiped : AnswerWords → Bool
says_wiped a = is_among a.code (2 ∷ 7 ∷ 14 ∷ 15 ∷ 16 ∷ 19 ∷ 20 ∷ 21 ∷ [])
  where
    is_among : ℕ → List ℕ → Bool
    is_among n [] = false
    is_among n (m ∷ l) = eqb n m || is_among n l
