-- What only inner contracts cite: nobody needs to believe it. proofs/Standings.antt and proofs/Candidates.antt bring it back to what is believed.
use Rattle.std.specs.Prelude.{ℕ, Bool, true, cond, List, [], ◌∷◌, eqb, get_or, set, Ok, Err, Option, Some, None}
use Rattle.std.specs.List.{filter_map}
use Rattle.std.proofs.Math.Option.{Option as Chance, none, some}
use Rattle.numbers.specs.Grounds.{Ruling, first_of, answer_by}
use Rattle.numbers.specs.Orders.{none_due, of_announce}
use Rattle.wire_layout.specs.declared.message.Port.{Port}
use Rattle.rules_masters.specs.declared.record.Announce.{Announce}
use Rattle.rules_masters.specs.declared.record.Record.{Record}
use Rattle.rules_masters.specs.declared.table.Table.{Table}
use Rattle.rules_masters.specs.declared.standing.Standing.{Standing}
use Rattle.rules_masters.specs.declared.admission.Entry.{Entry}
use Rattle.rules_masters.specs.declared.admission.Entry.TheVariants.{Renewed, Entered}
use Rattle.rules_masters.specs.declared.comparison.Merits.{Merits}
use Rattle.rules_masters.specs.declared.comparison.Nearness.{Nearness}
use Rattle.rules_masters.specs.declared.candidate.Candidate.{Candidate}
use Rattle.rules_masters.specs.declared.chosen.Chosen.{Chosen}
use Rattle.rules_masters.specs.Records.{qualified_of, fresh_record, entered_of, renewed_of}
use Rattle.rules_masters.specs.Comparison.{smaller}
use Rattle.rules_masters.specs.Choosing.{choice_among}
use Rattle.rules_masters.specs.Holding.{fresh_chosen}
use Rattle.rules_masters.specs.Admitting.{Answer, Admitted, grounds_with, home, is_known, free, table_due, standings_in, accepted_of, admitted_by}

-- ---- the admission: the refusals of an Announce that need no table, ..
abbrev pub barred_of : Announce → ℕ → Port → ℕ → ℕ → Ruling
barred_of m domain own last now = first_of (grounds_with m domain own last now none_due)

-- .. and those that look into it, where none of these is due
unfoldable pub seated_of : Table → Announce → ℕ → ℕ → Admitted
seated_of t m interval now =
    admitted_by (first_of (of_announce (table_due (standings_in t.records m interval now)))) t (accepted_of t.records m interval now)

abbrev pub place_in : Entry → ℕ
place_in (Renewed place) = place
place_in (Entered place) = place

-- what five standings come to: the place of the sender's live record; or it has none, and takes the first place that is not live
unfoldable pub seat_of : List Standing → Answer
seat_of l = answer_by Err (cond (is_known l) (Ok (Renewed (home l))) (Ok (Entered (free l)))) (first_of (of_announce (table_due l)))

-- what a seat makes of the table
abbrev pub settled_of : Answer → Table → Announce → ℕ → Admitted
settled_of (Err r) t m now = record { answer = Err r; table = t }
settled_of (Ok (Renewed place)) t m now =
    record { answer = Ok (Renewed place); table = record { records = set t.records place (renewed_of (get_or t.records place fresh_record) m now) } }
settled_of (Ok (Entered place)) t m now = record { answer = Ok (Entered place); table = record { records = set t.records place (entered_of m now) } }

-- ---- the choice: what it asks of one record
unfoldable pub candidate_of : (now interval : ℕ) → Record → Option Candidate
candidate_of now interval r =
    let m = r.announce in
    cond (qualified_of now interval r)
    (Some
    (record {
      merits = record {
        priority1 = m.offer.priority1;
        class = m.offer.class;
        accuracy = m.offer.accuracy;
        variance = m.offer.variance;
        priority2 = m.offer.priority2;
        grandmaster = m.offer.grandmaster;
      };
      nearness = record { steps = m.offer.steps; sender = m.header.source };
    }))
    None

-- as merits, nearness and better_of of the records
abbrev pub merits_in : Merits → List ℕ
merits_in m = m.priority1 ∷ m.class ∷ m.accuracy ∷ m.variance ∷ m.priority2 ∷ m.grandmaster ∷ []

abbrev pub nearness_in : Nearness → List ℕ
nearness_in n = n.steps ∷ n.sender.clock ∷ n.sender.number ∷ []

unfoldable pub beats_of : Candidate → Candidate → Bool
beats_of a b =
    cond (eqb a.merits.grandmaster b.merits.grandmaster) (smaller (nearness_in a.nearness) (nearness_in b.nearness))
    (smaller (merits_in a.merits) (merits_in b.merits))

-- the next one, qualified, takes over from the one held
abbrev pub taken_over : Option Candidate → Candidate → Bool
taken_over None next = true
taken_over (Some held) next = beats_of next held

-- one step of the choice
unfoldable pub kept_of : (held next : Option Candidate) → Option Candidate
kept_of None next = next
kept_of (Some h) None = Some h
kept_of (Some h) (Some n) = Some (cond (beats_of n h) n h)

abbrev pub sender_in : Chance Candidate → Chosen
sender_in none = fresh_chosen
sender_in (some c) = record { some = true; sender = c.nearness.sender }

-- the master that the one held after the last step is
abbrev pub last_in : Option Candidate → Chosen
last_in None = fresh_chosen
last_in (Some c) = record { some = true; sender = c.nearness.sender }

-- the choice over candidates
unfoldable pub best_of : List (Option Candidate) → Chosen
best_of l = sender_in (choice_among beats_of (filter_map (λ c. c) l))
