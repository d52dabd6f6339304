-- The calls that are lent the table: what they leave of the five records and of the choice is what the unit makes of them.
use Rattle.std.specs.Prelude.{Ok, Err}
use mathlib.Core.Path.{◌≡◌, refl, sym, ap, ◌∙◌}
use mathlib.Core.Bool.{Bool, cond, true, false}
use mathlib.Core.List.{List, [], ◌∷◌, map}
use Prim.Native.Nat.{ℕ}
use lib.ListN.{length, get_or, get_or-map, set, length-map, length-set}
use Rattle.std.proofs.lemmas.List.{map-set}
use Rattle.numbers.specs.Grounds.{Ruling, answer_by, first_of}
use Rattle.numbers.specs.Orders.{of_time}
use Rattle.wire_layout.specs.declared.message.Message.{Message}
use Rattle.rules_masters.specs.declared.chosen.Chosen.{Chosen}
use Rattle.rules_masters.specs.declared.chosen.Decision.TheVariants.{Same, Changed}
use Rattle.rules_masters.specs.declared.record.Announce.{Announce}
use Rattle.rules_masters.specs.declared.record.Record.{Record}
use Rattle.rules_masters.specs.declared.admission.Entry.TheVariants.{Renewed, Entered}
use Rattle.rules_masters.specs.declared.table.Table.{Table}
use Rattle.rules_masters.specs.Admitting.{Answer, Admitted, standing_of, admitted_by}
use Rattle.rules_masters.specs.Holding.{chosen_at, same_master_of}
use Rattle.rules_masters.specs.Inner.{barred_of, seat_of, settled_of, candidate_of, best_of}
use Rattle.rules_masters.specs.Records.{fresh_record, interval_of, renewed_of, entered_of}
use Rattle.rules_masters.proofs.Candidates.{best-at}
use Rattle.rules_masters.proofs.Standings.{admitted-by-seat}
use Rattle.unit_core.specs.Effects.{unless}
use Rattle.unit_choosing.specs.Choosing.{time_due, admission, holds_by, holds, chooses, admits, time_passes}
use Rattle.unit.specs.Calls.{applied}
use Rattle.door_records.specs.declared.masters.MasterWords.{MasterWords}
use Rattle.door_records.specs.Unit.{chosen_in as master_in}
use Rattle.door_records.specs.Masters.{record_in, master_words}
use Rattle.door_records.proofs.Backs.{chosen-back}
use Rattle.door_choosing.specs.Choosing.{announce_in, standings_of, fresh_master, held_by, held_of, timed_of}
use Rattle.door_loop.specs.Lending.{chosen_in, lent_by, seated_in, passed_in}
use Rattle.door_loop.specs.Lending as places
use Rattle.door_loop.specs.Loop.{Parts, from_lent, Meant}
use Rattle.door_loop.proofs.Calls.{meant_in, stepped, u, c, set as settled, stays, progress, by}

-- ---- the records that the words of a table tell
place-told : (t : List MasterWords) (k : ℕ) → get_or (map record_in t) k fresh_record ≡ record_in (get_or t k fresh_master)
place-told t k = get_or-map record_in t k fresh_master

asked-told : {B : Type 0} (f : Record → B) (t : List MasterWords) → map (λ r. f (record_in r)) t ≡ map f (map record_in t)
asked-told f [] = refl
asked-told f (r ∷ t) = ap (λ l. f (record_in r) ∷ l) (asked-told f t)

module _ (p : Parts) where
  abbrev tell : List MasterWords → Table
  tell t = record { records = map record_in t }

  abbrev exponent : ℕ
  exponent = (u p).settings.announce

  -- the choice over five records
  chosen-same : (t : List MasterWords) (now : ℕ) → length t ≡ 5 → chosen_in (u p) t now ≡ chosen_at (map record_in t) now exponent
  chosen-same t now five =
      ap (λ k. best_of k) (asked-told (candidate_of now (interval_of exponent)) t) ∙ best-at (map record_in t) now exponent (length-map t record_in ∙ five)

  -- this master, or none, is held
  held_same : (t : List MasterWords) (now : ℕ) (m : Chosen)
      → meant_in (from_lent (lent_by (u p) p.servo t p.watch (held_of (u p).state now m))) ≡ stepped (applied (c p) (tell t) (holds (stays p) (progress p) now m))
  unfolding held_of
  held_same t now m = go (same_master_of (master_in (u p).state.chosen) m)
    where
      go : (b : Bool)
          → meant_in
          (from_lent
          (lent_by (u p) p.servo t p.watch
          (held_by (u p).state now m (cond b (Same m) (Changed m)))))
          ≡ stepped (applied (c p) (tell t) (holds_by (stays p) (progress p) now m (cond b (Same m) (Changed m))))
      go true = rw (chosen-back m)
      go false = rw (chosen-back m)

  -- the choice over the table
  chose-same : (t : List MasterWords) (now : ℕ) → length t ≡ 5
      → meant_in (from_lent (lent_by (u p) p.servo t p.watch (held_of (u p).state now (chosen_in (u p) t now))))
      ≡ stepped (applied (c p) (tell t) (chooses (settled p) (stays p) (progress p) (tell t) now))
  unfolding chooses
  chose-same t now five = rw (chosen-same t now five) (held_same t now (chosen_at (map record_in t) now exponent))

  -- ---- an Announce
  module _ (five : length p.table ≡ 5) (now : ℕ) (m : Message) where
    abbrev announced : Announce
    announced = announce_in m

    abbrev table : Table
    table = tell p.table

    -- what is found by the table's answer, and the table after it
    abbrev after : Admitted → Meant
    after a = stepped (applied (c p) a.table (admits (settled p) (stays p) (progress p) a.table now a.answer))

    -- one place is stored
    stored_same : (at : ℕ) (r : Record) → map record_in (set p.table at (master_words r)) ≡ set (map record_in p.table) at r
    stored_same at r = map-set record_in p.table at (master_words r)

    -- by the seat
    seated-same : (a : Answer) → meant_in (from_lent (seated_in (u p) p.servo p.table p.watch m now a)) ≡ after (settled_of a table announced now)
    seated-same (Err n) = refl
    seated-same (Ok (Renewed at)) =
        let r = renewed_of (record_in (get_or p.table at fresh_master)) announced now in
        chose-same (set p.table at (master_words r)) now (length-set p.table at (master_words r) ∙ five)
        ∙ rw (stored_same at r, place-told p.table at)
    seated-same (Ok (Entered at)) =
        let r = entered_of announced now in
        chose-same (set p.table at (master_words r)) now (length-set p.table at (master_words r) ∙ five) ∙ rw (stored_same at r)

    -- and by the refusals that need no table
    ruled-same : (v : Ruling) (a : Answer)
        → meant_in (from_lent (seated_in (u p) p.servo p.table p.watch m now (answer_by Err a v))) ≡ after (admitted_by v table (settled_of a table announced now))
    ruled-same (Ok _) a = seated-same a
    ruled-same (Err n) a = refl

    pub announced-same : meant_in (from_lent (seated_in (u p) p.servo p.table p.watch m now (places.seat_in (u p) p.table m now)))
        ≡ after (admission (settled p) (stays p) table now announced)
    announced-same =
        ruled-same (barred_of announced (settled p).domain (settled p).own (stays p).now now) (seat_of (standings_of p.table announced now (interval_of exponent)))
        ∙ ap (λ k. after (admitted_by (barred_of announced (settled p).domain (settled p).own (stays p).now now) table (settled_of (seat_of k) table announced now)))
        (asked-told (standing_of announced.header.source announced.header.sequence now (interval_of exponent)) p.table)
        ∙ ap after (sym (admitted-by-seat table announced (settled p).domain (settled p).own exponent (stays p).now now))

  -- ---- the bare time call
  pub passed-same : length p.table ≡ 5 → (now : ℕ)
      → meant_in (from_lent (passed_in (u p) p.servo p.table p.watch (timed_of (u p).settings (u p).state p.table now)))
      ≡ by p (time_passes (settled p) (stays p) (progress p) (c p).table now)
  unfolding time_passes
  passed-same five now = go (first_of (of_time (time_due (u p).state.now now)))
    where
      go : (v : Ruling)
          → meant_in (from_lent (passed_in (u p) p.servo p.table p.watch (answer_by Err (Ok (held_of (u p).state now (chosen_in (u p) p.table now))) v)))
          ≡ by p (unless v (chooses (settled p) (stays p) (progress p) (c p).table now))
      go (Ok _) = chose-same p.table now five
      go (Err n) = refl
