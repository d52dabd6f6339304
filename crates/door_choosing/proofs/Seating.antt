-- An Announce that is seated: the place, the record that is stored there, and what is chosen over the table after it.
use Rattle.std.specs.Prelude.{Ok, Err, Option}
use Rattle.std.proofs.lemmas.List.{map-set}
use mathlib.Core.Path.{◌≡◌, sym, ap, ◌∙◌}
use mathlib.Core.List.{List}
use Prim.Native.Nat.{ℕ}
use lib.ListN.{length, set}
use Rattle.numbers.specs.declared.refusal.Refusal.{Refusal}
use Rattle.wire_layout.specs.declared.message.Message.{Message}
use Rattle.rules_masters.specs.declared.admission.Entry.{Entry}
use Rattle.rules_masters.specs.declared.candidate.Candidate.{Candidate}
use Rattle.rules_masters.specs.declared.record.Record.{Record}
use Rattle.rules_masters.specs.Records.{interval_of}
use Rattle.rules_masters.specs.Inner.{barred_of, place_in, seat_of, candidate_of, best_of}
use Rattle.door_records.specs.declared.unit.SettingsWords.{SettingsWords}
use Rattle.door_records.specs.declared.unit.StateWords.{StateWords}
use Rattle.door_records.specs.declared.masters.MasterWords.{MasterWords}
use Rattle.door_records.specs.Unit.{own_in}
use Rattle.door_records.specs.Masters.{record_in, master_words}
use Rattle.door_choosing.specs.declared.Held.{Held}
use Rattle.door_choosing.specs.Choosing.{announce_in, standings_of, candidates_of, placed_of, stored_in, best_in, held_of, seated_of, announced_of}

module _ (s : SettingsWords) (t : StateWords) (l : List MasterWords) (m : Message) (now : ℕ) (five : length l ≡ 5)
    (clear : barred_of (announce_in m) s.domain (own_in s) t.now now ≡ Ok tt) (e : Entry)
    (seat : seat_of (standings_of l (announce_in m) now (interval_of s.announce)) ≡ Ok e) where
  told : announced_of s t l m now ≡ seated_of s t l (announce_in m) now (Ok e)
  told = rw (five, clear, seat)

  -- the candidates of the table once the record is stored are those of before but for this one
  pub stored : (place : ℕ) → place ≡ place_in e → (r : Record) → r ≡ placed_of l (announce_in m) now e → (x : MasterWords) → x ≡ master_words r
      → (q : Held) → q ≡ held_of t now (best_of (set (candidates_of l now (interval_of s.announce)) place (candidate_of now (interval_of s.announce) r)))
      → Ok (record { at = place; stored = x; held = q }) ≡ announced_of s t l m now
  stored place p r k x w q h = (λ i. Ok (record { at = p i; stored = (w ∙ ap master_words k) i; held = held i })) ∙ sym told
    where
      asked : MasterWords → Option Candidate
      asked y = candidate_of now (interval_of s.announce) (record_in y)

      held : q ≡ held_of t now (best_in s (stored_in l (announce_in m) now e) now)
      held =
          rw (p, k) at h
          ∙ ap (λ c. held_of t now (best_of c)) (sym (map-set asked l (place_in e) (master_words (placed_of l (announce_in m) now e))))

-- or there is no place for it
pub unseated : (s : SettingsWords) (t : StateWords) (l : List MasterWords) (m : Message) (now : ℕ) → length l ≡ 5
    → barred_of (announce_in m) s.domain (own_in s) t.now now ≡ Ok tt → (n : Refusal)
    → seat_of (standings_of l (announce_in m) now (interval_of s.announce)) ≡ Err n → announced_of s t l m now ≡ Err n
unseated s t l m now five clear n seat = rw (five, clear, seat)
