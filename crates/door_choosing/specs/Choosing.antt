-- What an Announce and the bare time call leave in the records.
use Rattle.std.specs.Prelude.{ℕ, true, false, cond, eqb, Ok, Err, Result, Option, List, map, length, get_or, set}
use Rattle.numbers.specs.declared.refusal.Refusal.{Refusal}
use Rattle.numbers.specs.declared.refusal.Refusal.TheVariants.{Settings as Outside}
use Rattle.numbers.specs.Grounds.{first_of, answer_by}
use Rattle.numbers.specs.Orders.{number_of, of_time}
use Rattle.wire_layout.specs.declared.message.Message.{Message}
use Rattle.wire_layout.specs.declared.message.Header.{Header}
use Rattle.wire_layout.specs.Kinds.{stamp_in}
use Rattle.rules_masters.specs.declared.admission.Entry.{Entry}
use Rattle.rules_masters.specs.declared.admission.Entry.TheVariants.{Renewed, Entered}
use Rattle.rules_masters.specs.declared.candidate.Candidate.{Candidate}
use Rattle.rules_masters.specs.declared.record.Announce.{Announce}
use Rattle.rules_masters.specs.declared.record.Record.{Record}
use Rattle.rules_masters.specs.declared.chosen.Chosen.{Chosen}
use Rattle.rules_masters.specs.declared.chosen.Decision.{Decision}
use Rattle.rules_masters.specs.declared.standing.Standing.{Standing}
use Rattle.rules_masters.specs.Records.{interval_of, fresh_record, entered_of, renewed_of}
use Rattle.rules_masters.specs.Holding.{decision_of, wipes_of}
use Rattle.rules_masters.specs.Admitting.{Answer, standing_of}
use Rattle.rules_masters.specs.Inner.{barred_of, place_in, seat_of, candidate_of, best_of}
use Rattle.unit_choosing.specs.Choosing.{time_due}
use Rattle.door_records.specs.declared.unit.SettingsWords.{SettingsWords}
use Rattle.door_records.specs.declared.unit.StateWords.{StateWords}
use Rattle.door_records.specs.declared.masters.MasterWords.{MasterWords}
use Rattle.door_records.specs.Unit.{own_in, chosen_in, chosen_words}
use Rattle.door_records.specs.Masters.{record_in, master_words}
use Rattle.door_words.specs.declared.answers.AnswerWords.{AnswerWords}
use Rattle.door_words.specs.Messages.{offer_in}
use Rattle.door_words.specs.Answers.{choosing, refusing}
use Rattle.door_core.specs.Wiping.{wiped_state}
use Rattle.door_choosing.specs.declared.Held.{Held}
use Rattle.door_choosing.specs.declared.Looked.{Looked}
use Rattle.door_choosing.specs.declared.Seated.{Seated}

-- 8, of a lent table that is not of five
abbrev pub untabled_of : AnswerWords
untabled_of = refusing (number_of Outside)

-- the Announce that a message is
abbrev pub announce_in : Message → Announce
announce_in m = record { header = m.header; stamp = stamp_in m.body; offer = offer_in m.body }

-- what an Announce asks of one record, for its place and for the choice
abbrev pub looked_of : Header → (now span : ℕ) → Record → Looked
looked_of h now span r = record { standing = standing_of h.source h.sequence now span r; candidate = candidate_of now span r }

-- what an Announce and the choice ask of each
abbrev pub standings_of : List MasterWords → Announce → (now span : ℕ) → List Standing
standings_of l m now span = map (λ r. standing_of m.header.source m.header.sequence now span (record_in r)) l

abbrev pub candidates_of : List MasterWords → (now span : ℕ) → List (Option Candidate)
candidates_of l now span = map (λ r. candidate_of now span (record_in r)) l

-- refused without a look into the table; or by what is in it, or a place of it
abbrev pub seat_by : SettingsWords → StateWords → List MasterWords → Announce → ℕ → Answer
seat_by s t l m now = answer_by Err (seat_of (standings_of l m now (interval_of s.announce))) (barred_of m s.domain (own_in s) t.now now)

-- the record that is to be stored at the place
abbrev pub fresh_master : MasterWords
fresh_master = master_words fresh_record

abbrev pub placed_of : List MasterWords → Announce → ℕ → Entry → Record
placed_of l m now (Renewed at) = renewed_of (record_in (get_or l at fresh_master)) m now
placed_of l m now (Entered at) = entered_of m now

-- the table, once it is stored
abbrev pub stored_in : List MasterWords → Announce → ℕ → Entry → List MasterWords
stored_in l m now e = set l (place_in e) (master_words (placed_of l m now e))

-- the choice over a table
abbrev pub best_in : SettingsWords → List MasterWords → ℕ → Chosen
best_in s l now = best_of (candidates_of l now (interval_of s.announce))

-- this master, or none, is chosen
abbrev pub chosen_state : StateWords → ℕ → Chosen → StateWords
chosen_state t now c = record { now = now; at = t.at; chosen = chosen_words c; wipes = t.wipes; sequence = t.sequence; measured = t.measured; faulty = t.faulty }

abbrev pub held_by : StateWords → ℕ → Chosen → Decision → Held
held_by t now c d =
    cond (wipes_of d) (record { answer = choosing d; state = wiped_state (chosen_state t now c); wipes = true })
    (record { answer = choosing d; state = chosen_state t now c; wipes = false })

unfoldable pub held_of : StateWords → ℕ → Chosen → Held
held_of t now c = held_by t now c (decision_of (chosen_in t.chosen) c)

-- an Announce: the place, the record that is stored there, and what is then chosen
abbrev pub seated_of : SettingsWords → StateWords → List MasterWords → Announce → ℕ → Answer → Result Seated Refusal
seated_of s t l m now (Err n) = Err n
seated_of s t l m now (Ok e) =
    Ok (record { at = place_in e; stored = master_words (placed_of l m now e); held = held_of t now (best_in s (stored_in l m now e) now) })

abbrev pub announced_of : SettingsWords → StateWords → List MasterWords → Message → ℕ → Result Seated Refusal
announced_of s t l m now = cond (eqb (length l) 5) (seated_of s t l (announce_in m) now (seat_by s t l (announce_in m) now)) (Err Outside)

-- the bare time call
abbrev pub timed_of : SettingsWords → StateWords → List MasterWords → ℕ → Result Held Refusal
timed_of s t l now = answer_by Err (Ok (held_of t now (best_in s l now))) (first_of (of_time (time_due t.now now)))

abbrev pub passed_of : SettingsWords → StateWords → List MasterWords → ℕ → Result Held Refusal
passed_of s t l now = cond (eqb (length l) 5) (timed_of s t l now) (Err Outside)
