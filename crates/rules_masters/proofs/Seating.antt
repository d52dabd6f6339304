-- The four ways in which an Announce that nothing bars ends in the table.
use Rattle.std.specs.Prelude.{Ok, Err}
use mathlib.Core.Path.{◌≡◌}
use Prim.Native.Nat.{ℕ, ◌≤◌, ◌<◌}
use native.Mathlib.Omega.{arith}
use lib.ListN.{length, get_or, set}
use borrow.Author.Tests.{lt-ltb, le-ltb, le-leb, lt-leb, eq-eqb, ne_eqb}
use Rattle.numbers.specs.declared.refusal.Refusal.TheVariants.{Repeat, Full}
use Rattle.numbers.specs.Grounds.{first_of}
use Rattle.rules_masters.specs.declared.record.Announce.{Announce}
use Rattle.rules_masters.specs.declared.record.Record.{Record}
use Rattle.rules_masters.specs.declared.table.Table.{Table}
use Rattle.rules_masters.specs.declared.admission.Entry.TheVariants.{Renewed, Entered}
use Rattle.rules_masters.specs.Records.{live_of, known_of, fresh_record, entered_of, renewed_of}
use Rattle.rules_masters.specs.Places.{place_of, count_of}
use Rattle.rules_masters.specs.Admitting.{Admitted, is_repeat, is_full, accepted_of}
use Rattle.rules_masters.specs.Inner.{seated_of}
use Rattle.rules_masters.proofs.Placing.{room, no_room, absent, opposite}
use Rattle.rules_masters.proofs.Standings.{home_same, free-same, live_same, repeat-same}

module _ (t : Table) (m : Announce) (interval now : ℕ) (five : length t.records ≡ 5) where
  abbrev held : ℕ → Record
  held place = get_or t.records place fresh_record

  pub repeats : (place : ℕ) → place ≡ place_of (known_of m.header.source now interval) t.records → place < 5
      → (held place).announce.header.sequence ≡ m.header.sequence
      → ◌≡◌ {A = Admitted} (record { answer = Err Repeat; table = t }) (seated_of t m interval now)
  unfolding seated_of is_repeat is_full first_of
  repeats place e h s = rw (home_same m interval now t.records, ← e, repeat-same m interval now t.records place (rw five h), lt-ltb place 5 h, eq-eqb _ _ s)

  pub renews : (place : ℕ) → place ≡ place_of (known_of m.header.source now interval) t.records → place < 5
      → ((held place).announce.header.sequence ≡ m.header.sequence → ⊥)
      → ◌≡◌ {A = Admitted} (record { answer = Ok (Renewed place); table = record { records = set t.records place (renewed_of (held place) m now) } })
      (seated_of t m interval now)
  unfolding seated_of is_repeat is_full accepted_of first_of
  renews place e h s = rw (home_same m interval now t.records, ← e, repeat-same m interval now t.records place (rw five h), lt-ltb place 5 h, ne_eqb _ _ s)

  module _ (strange : 5 ≤ place_of (known_of m.header.source now interval) t.records) where
    pub enters : (place : ℕ) → place ≡ place_of (absent now interval) t.records → place < 5
        → ◌≡◌ {A = Admitted} (record { answer = Ok (Entered place); table = record { records = set t.records place (entered_of m now) } })
        (seated_of t m interval now)
    unfolding seated_of is_repeat is_full accepted_of first_of
    enters place e h =
        let k : count_of (live_of now interval) t.records < 5 = rw five at (room (live_of now interval) (absent now interval) (opposite now interval) t.records (omega arith)) in
        rw (home_same m interval now t.records, free-same m interval now t.records, live_same m interval now t.records, ← e, le-ltb _ 5 strange, lt-leb 5 _ k)

    pub fills : 5 ≤ place_of (absent now interval) t.records
        → ◌≡◌ {A = Admitted} (record { answer = Err Full; table = t }) (seated_of t m interval now)
    unfolding seated_of is_repeat is_full first_of
    fills h =
        let k : 5 ≤ count_of (live_of now interval) t.records = rw five at (no_room (live_of now interval) (absent now interval) (opposite now interval) t.records (omega arith)) in
        rw (home_same m interval now t.records, live_same m interval now t.records, le-ltb _ 5 strange, le-leb 5 _ k)
