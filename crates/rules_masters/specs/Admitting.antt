-- The admission of an Announce (rules 3.9 to 3.15, 3.56 and 5.5 to 5.7).
use Rattle.std.specs.Prelude.{ℕ, ◌/◌, ◌%◌, Bool, false, cond, not, ◌&&◌, List, map, ltb, leb, eqb, get_or, set, Ok, Err, Result}
use Rattle.numbers.specs.declared.refusal.Refusal.TheVariants.{Now, Domain, Own, Alternate, Steps, Repeat, Full}
use Rattle.numbers.specs.Grounds.{Ruling}
use Rattle.rules_masters.specs.declared.admission.Entry.TheVariants.{Renewed, Entered}
use Rattle.numbers.specs.Grounds.{Ground, first_of}
use Rattle.numbers.specs.Orders.{Due, none_due, due_with, of_announce}
use Rattle.wire_layout.specs.declared.message.Port.{Port}
use Rattle.rules_masters.specs.declared.record.Announce.{Announce}
use Rattle.rules_masters.specs.declared.record.Record.{Record}
use Rattle.rules_masters.specs.declared.table.Table.{Table}
use Rattle.rules_masters.specs.declared.standing.Standing.{Standing}
use Rattle.rules_masters.specs.Records.{interval_of, live_of, known_of, fresh_record, entered_of, renewed_of}
use Rattle.rules_masters.specs.Places.{place_of, count_of}
use Rattle.rules_masters.specs.declared.admission.Entry.{Entry}
use Rattle.numbers.specs.declared.refusal.Refusal.{Refusal}

-- what becomes of an Announce: its place, or the refusal
abbrev pub Answer : Type 0
Answer = Result Entry Refusal

-- the answer, and the table after it
pub record Admitted : Type 0 where
  pub answer : Answer
  pub table : Table

-- the lowest bit of octet 6 (rule 2.3); the flags are octets 6 and 7, big-endian
unfoldable pub alternate_of : Announce → Bool
alternate_of m = eqb (m.header.flags / 256 % 2) 1

-- when each of the five that need no table is due; `last` is the unit's now. Behind them comes what is due by what is held.
abbrev pub grounds_with : Announce → ℕ → Port → ℕ → ℕ → (held : Due) → List Ground
grounds_with m domain own last now held =
    of_announce
    (due_with Now (ltb now last)
    (due_with Domain (not (eqb m.header.domain domain))
    (due_with Own (eqb m.header.source.clock own.clock)
    (due_with Alternate (alternate_of m)
    (due_with Steps (leb 255 m.offer.steps) held)))))

-- what an Announce of this sender with this sequenceId asks of one record: is it live, is it the sender's and live, is its last Announce of this sequenceId
unfoldable pub standing_of : (sender : Port) (sequence now interval : ℕ) → Record → Standing
standing_of sender sequence now interval r =
    record { live = live_of now interval r; known = known_of sender now interval r; repeats = eqb r.announce.header.sequence sequence }

-- by what was asked of each of the five
module _ (l : List Standing) where
  -- the place of the sender's live record; 5 where it has none
  abbrev pub home : ℕ
  home = place_of (λ (s : Standing). s.known) l

  abbrev pub is_known : Bool
  is_known = ltb home 5

  -- the first place that is not live; 5 where there is none
  abbrev pub free : ℕ
  free = place_of (λ (s : Standing). not s.live) l

  -- REPEAT: the sender's live record holds this very sequenceId
  unfoldable pub is_repeat : Bool
  is_repeat = is_known && get_or (map (λ (s : Standing). s.repeats) l) home false

  -- FULL: the sender has none, and all five places are live
  unfoldable pub is_full : Bool
  is_full = not is_known && leb 5 (count_of (λ (s : Standing). s.live) l)

  -- which of these are due
  abbrev pub table_due : Due
  table_due = due_with Repeat is_repeat (due_with Full is_full none_due)

module _ (t : List Record) (m : Announce) (interval now : ℕ) where
  abbrev pub standings_in : List Standing
  standings_in = map (standing_of m.header.source m.header.sequence now interval) t

  -- a live record is renewed in its place; a new sender enters at the first place that is not live
  unfoldable pub accepted_of : Admitted
  accepted_of =
      let place = home standings_in in
      let first = free standings_in in
      cond (is_known standings_in)
      (record { answer = Ok (Renewed place); table = record { records = set t place (renewed_of (get_or t place fresh_record) m now) } })
      (record { answer = Ok (Entered first); table = record { records = set t first (entered_of m now) } })

abbrev pub grounds_of : Table → Announce → ℕ → Port → ℕ → ℕ → ℕ → List Ground
grounds_of t m domain own a last now = grounds_with m domain own last now (table_due (standings_in t.records m (interval_of a) now))

-- a refusal leaves the table as it was (rule 3.51)
abbrev pub admitted_by : Ruling → Table → Admitted → Admitted
admitted_by (Ok _) t accepted = accepted
admitted_by (Err r) t accepted = record { answer = Err r; table = t }

unfoldable pub admitted_of : Table → Announce → ℕ → Port → ℕ → ℕ → ℕ → Admitted
admitted_of t m domain own a last now =
    admitted_by (first_of (grounds_of t m domain own a last now)) t (accepted_of t.records m (interval_of a) now)
