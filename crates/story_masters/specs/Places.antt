-- The answer to an Announce, and the choice, from the log alone (rules 3.56, 5.6, 5.7, 5.11 and 5.12).
use Rattle.std.specs.Prelude.{List, [], ◌∷◌, Bool, true, false, cond, not, ◌&&◌, ℕ, leb, ltb, eqb, Ok, Err}
use Rattle.std.proofs.Math.Option.{Option, none, some}
use Rattle.numbers.specs.declared.refusal.Refusal.TheVariants.{Repeat, Full}
use Rattle.numbers.specs.Grounds.{Ruling}
use Rattle.rules_masters.specs.Admitting.{Answer}
use Rattle.rules_masters.specs.declared.admission.Entry.TheVariants.{Renewed, Entered}
use Rattle.numbers.specs.Grounds.{first_of}
use Rattle.numbers.specs.Orders.{Due, none_due, due_with}
use Rattle.wire_layout.specs.declared.message.Port.{Port}
use Rattle.rules_masters.specs.declared.record.Announce.{Announce}
use Rattle.rules_masters.specs.declared.chosen.Chosen.{Chosen}
use Rattle.rules_masters.specs.Admitting.{grounds_with}
use Rattle.rules_masters.specs.Choosing.{choice_among}
use Rattle.rules_masters.specs.Holding.{fresh_chosen}
use Rattle.rules_masters.specs.Places.{place_of, count_of}
use Rattle.rules_masters.specs.Records.{interval_of}
use Rattle.story_lists.specs.Reading.{all}
use Rattle.story_masters.specs.Announces.{Log, last_now, Arrival, sender_of, arrivals_at, places, is_live, is_home, a_qualified, better_announce}

-- the last Announce at a place has this sequenceId
abbrev pub is_last : ℕ → List Arrival → Bool
is_last n [] = false
is_last n (a ∷ l) = eqb a.announce.header.sequence n

module _ (l : Log) (m : Announce) (interval now : ℕ) where
  -- the place where this sender is live, the first of 0 to 4; 5 where there is none
  abbrev pub home : ℕ
  home = place_of (is_home now interval (sender_of m)) (places l)

  -- the first place that is not live, for a new sender; 5 where there is none
  abbrev pub free : ℕ
  free = place_of (λ (these : List Arrival). not (is_live now interval these)) (places l)

  -- REPEAT: the sender is live, and its last Announce there has this very sequenceId
  abbrev pub is_repeat : Bool
  is_repeat = ltb home 5 && is_last m.header.sequence (arrivals_at home l)

  -- FULL: the sender is not, and all five places are live
  abbrev pub is_full : Bool
  is_full = not (ltb home 5) && leb 5 (count_of (is_live now interval) (places l))

  abbrev pub held_due : Due
  held_due = due_with Repeat is_repeat (due_with Full is_full none_due)

  abbrev pub seat_by : Ruling → Answer
  seat_by (Ok _) = cond (ltb home 5) (Ok (Renewed home)) (Ok (Entered free))
  seat_by (Err r) = Err r

-- the first refusal that is due, if one is; else the place
unfoldable pub answer : ℕ → Port → ℕ → Log → Announce → ℕ → Answer
answer domain own a l m now =
    seat_by l m (interval_of a) now (first_of (grounds_with m domain own (last_now l) now (held_due l m (interval_of a) now)))

-- the sender of the Announce chosen is the master
abbrev pub as_master : Option Announce → Chosen
as_master none = fresh_chosen
as_master (some m) = record { some = true; sender = sender_of m }

-- among the qualified, place by place
unfoldable pub chosen_in : ℕ → Log → ℕ → Chosen
chosen_in a l now = as_master (choice_among better_announce (all (a_qualified now (interval_of a)) (places l)))
