-- The admission of an Announce: how it ends, what it changes in the table, and that no sender ever has two live records.
use Rattle.std.specs.Prelude.{Ok, Err}
use mathlib.Core.Path.{◌≡◌, refl, sym, ap, ◌∙◌}
use mathlib.Core.Bool.{Bool, true, false, cond, not, true≢false, ◌&&◌}
use mathlib.Core.List.{map}
use Prim.Native.Nat.{ℕ, ◌≤◌, ◌<◌}
use native.Mathlib.Omega.{arith}
use lib.Dec.{ltb, leb}
use lib.ListN.{length, get_or, set, length-set}
use lib.Seq.{get_or-set_same, get_or-set_other}
use borrow.Author.Tests.{ltb-true, ltb-false, leb-false, eqb-false, not-true}
use Rattle.numbers.specs.Grounds.{Ruling}
use Rattle.rules_masters.specs.Admitting.{Answer}
use Rattle.rules_masters.specs.declared.admission.Entry.TheVariants.{Renewed, Entered}
use Rattle.numbers.specs.Grounds.{first_of}
use Rattle.wire_layout.specs.declared.message.Port.{Port}
use Rattle.rules_masters.specs.declared.record.Announce.{Announce}
use Rattle.rules_masters.specs.declared.record.Record.{Record}
use Rattle.rules_masters.specs.declared.table.Table.{Table}
use Rattle.rules_masters.specs.declared.standing.Standing.{Standing}
use Rattle.rules_masters.specs.Records.{interval_of, live_of, known_of, fresh_record, entered_of, renewed_of}
use Rattle.rules_masters.specs.Places.{place_of, count_of}
use Rattle.rules_masters.specs.Admitting.{Admitted, is_repeat, is_full, standings_in, accepted_of, grounds_of, admitted_by, admitted_of}
use Rattle.rules_masters.proofs.Barring.{clear-announce}
use Rattle.rules_masters.proofs.Placing.{place-holds, place-there, has_room, absent, opposite}
use Rattle.rules_masters.proofs.Standings.{home_same, free-same, live_same, repeat-same}
use Rattle.rules_masters.proofs.Times.{live-exactly}
use Rattle.rules_masters.proofs.Keys.{known-exactly, known-inside, key-symmetric, key-transitive, Keyed, keyed-set}

module _ (t : Table) (m : Announce) (interval now : ℕ) where
  -- its sender's live record was renewed
  pub record Renewal (place : ℕ) (u : Table) : Type 0 where
    pub known : place ≡ place_of (known_of m.header.source now interval) t.records
    pub inside : place < 5
    pub fresh : (get_or t.records place fresh_record).announce.header.sequence ≡ m.header.sequence → ⊥
    pub after : u ≡ record { records = set t.records place (renewed_of (get_or t.records place fresh_record) m now) }

  -- its sender had none, and took the first place that was not live
  pub record Entry (place : ℕ) (u : Table) : Type 0 where
    pub unknown : 5 ≤ place_of (known_of m.header.source now interval) t.records
    pub free : place ≡ place_of (absent now interval) t.records
    pub inside : place < 5
    pub after : u ≡ record { records = set t.records place (entered_of m now) }

  -- what goes with each answer
  abbrev pub Outcome : Answer → Table → Type 0
  Outcome (Err r) u = u ≡ t
  Outcome (Ok (Renewed place)) u = Renewal place u
  Outcome (Ok (Entered place)) u = Entry place u

  accepted : length t.records ≡ 5 → is_repeat (standings_in t.records m interval now) ≡ false → is_full (standings_in t.records m interval now) ≡ false
      → Outcome (accepted_of t.records m interval now).answer (accepted_of t.records m interval now).table
  unfolding accepted_of is_repeat is_full
  accepted five =
      rw (home_same m interval now t.records, free-same m interval now t.records, live_same m interval now t.records) (by (ltb place 5) refl)
    where
      place : ℕ
      place = place_of (known_of m.header.source now interval) t.records

      first : ℕ
      first = place_of (absent now interval) t.records

      renewed : Admitted
      renewed = record { answer = Ok (Renewed place); table = record { records = set t.records place (renewed_of (get_or t.records place fresh_record) m now) } }

      entered : Admitted
      entered = record { answer = Ok (Entered first); table = record { records = set t.records first (entered_of m now) } }

      by : (k : Bool) → ltb place 5 ≡ k
          → (k && get_or (map (λ (s : Standing). s.repeats) (standings_in t.records m interval now)) place false) ≡ false
          → (not k && leb 5 (count_of (live_of now interval) t.records)) ≡ false
          → Outcome (cond k renewed entered).answer (cond k renewed entered).table
      by true e f g =
          let h = ltb-true place 5 e in
          record { known = refl; inside = h; fresh = eqb-false _ _ (sym (repeat-same m interval now t.records place (rw five h)) ∙ f); after = refl }
      by false e f g =
          let n : count_of (live_of now interval) t.records < length t.records = rw five (leb-false 5 (count_of (live_of now interval) t.records) g) in
          let h = has_room (live_of now interval) (absent now interval) (opposite now interval) t.records n in
          record { unknown = ltb-false _ _ e; free = refl; inside = omega arith; after = refl }

-- THEOREM. The three ways in which an admission ends.
pub outcome : (t : Table) (m : Announce) (domain : ℕ) (own : Port) (a last now : ℕ) → length t.records ≡ 5
    → Outcome t m (interval_of a) now (admitted_of t m domain own a last now).answer (admitted_of t m domain own a last now).table
unfolding admitted_of
outcome t m domain own a last now five = by (first_of (grounds_of t m domain own a last now)) refl
  where
    by : (v : Ruling) → first_of (grounds_of t m domain own a last now) ≡ v
        → Outcome t m (interval_of a) now (admitted_by v t (accepted_of t.records m (interval_of a) now)).answer
        (admitted_by v t (accepted_of t.records m (interval_of a) now)).table
    by (Ok _) e = let n = clear-announce _ _ _ _ _ (standings_in t.records m (interval_of a) now) e in accepted t m (interval_of a) now five n.1 n.2
    by (Err r) e = refl

-- the table has changed at this place, and nowhere else
pub record OneChanged (t : Table) (place : ℕ) (u : Table) : Type 0 where
  pub inside : place < 5
  pub changed : get_or u.records place fresh_record ≡ get_or t.records place fresh_record → ⊥
  pub others : (other : ℕ) → (other ≡ place → ⊥) → get_or u.records other fresh_record ≡ get_or t.records other fresh_record
  pub five : length u.records ≡ 5

abbrev pub Changes : Table → Answer → Table → Type 0
Changes t (Err r) u = u ≡ t
Changes t (Ok (Renewed place)) u = OneChanged t place u
Changes t (Ok (Entered place)) u = OneChanged t place u

one-changed : (t : Table) (place : ℕ) (r : Record) (u : Table) → length t.records ≡ 5 → place < 5
    → (r ≡ get_or t.records place fresh_record → ⊥) → u ≡ record { records = set t.records place r } → OneChanged t place u
one-changed t place r u five h new e =
    rw e
    record {
      inside = h;
      changed = λ q. new (sym (get_or-set_same t.records place r fresh_record (omega arith)) ∙ q);
      others = λ other n. get_or-set_other t.records place other r fresh_record n;
      five = length-set t.records place r ∙ five;
    }

module _ (t : Table) (m : Announce) (interval now : ℕ) (five : length t.records ≡ 5) where
  -- a renewed record has another sequenceId, and a new one is live where the old was not
  changes-by : (x : Answer) (u : Table) → Outcome t m interval now x u → Changes t x u
  unfolding absent
  changes-by (Err r) u o = o
  changes-by (Ok (Renewed place)) u o =
      one-changed t place _ u five o.inside (λ q. o.fresh (sym (ap (λ (r : Record). r.announce.header.sequence) q))) o.after
  changes-by (Ok (Entered place)) u o =
      let dead : live_of now interval (get_or t.records place fresh_record) ≡ false =
      rw o.free (not-true _ (place-holds (absent now interval) t.records fresh_record (omega (arith, o.free, o.inside)))) in
      let live : live_of now interval (entered_of m now) ≡ true = (live-exactly interval (entered_of m now) now).1 (omega arith) in
      one-changed t place _ u five o.inside (λ q. true≢false (sym live ∙ ap (live_of now interval) q ∙ dead)) o.after

-- THEOREM. An admission changes exactly one place where it accepts, and none where it refuses.
pub admission-changes : (t : Table) (m : Announce) (domain : ℕ) (own : Port) (a last now : ℕ) → length t.records ≡ 5
    → Changes t (admitted_of t m domain own a last now).answer (admitted_of t m domain own a last now).table
admission-changes t m domain own a last now five =
    let r = admitted_of t m domain own a last now in
    changes-by t m (interval_of a) now five r.answer r.table (outcome t m domain own a last now five)

-- so the table stays one of five
pub admission-five : (t : Table) (m : Announce) (domain : ℕ) (own : Port) (a last now : ℕ) → length t.records ≡ 5
    → length (admitted_of t m domain own a last now).table.records ≡ 5
admission-five t m domain own a last now five = by r.answer r.table (admission-changes t m domain own a last now five)
  where
    r : Admitted
    r = admitted_of t m domain own a last now

    by : (x : Answer) (u : Table) → Changes t x u → length u.records ≡ 5
    by (Err n) u e = rw e five
    by (Ok (Renewed place)) u c = c.five
    by (Ok (Entered place)) u c = c.five

module _ (t : Table) (m : Announce) (interval now : ℕ) (five : length t.records ≡ 5) (keyed : Keyed now interval t.records) where
  -- the sender's live record was at that place already, ..
  renewed-alone : (place : ℕ) (u : Table) → Renewal t m interval now place u → (s : Port) (q : ℕ)
      → known_of s now interval (renewed_of (get_or t.records place fresh_record) m now) ≡ true
      → known_of s now interval (get_or t.records q fresh_record) ≡ true → q ≡ place
  renewed-alone place u o s q h k =
      let r = get_or t.records place fresh_record in
      let here : known_of m.header.source now interval r ≡ true =
      rw o.known (place-holds (known_of m.header.source now interval) t.records fresh_record (omega (arith, o.known, o.inside))) in
      let e = (known-exactly m.header.source now interval r).0 here in
      let f = (known-exactly s now interval (renewed_of r m now)).0 h in
      keyed s q place k ((known-exactly s now interval r).1 (e.0, key-transitive r.announce.header.source m.header.source s e.1 f.1))

  -- .. and of a sender that was unknown there was none
  entered-alone : (place : ℕ) (u : Table) → Entry t m interval now place u → (s : Port) (q : ℕ)
      → known_of s now interval (entered_of m now) ≡ true → known_of s now interval (get_or t.records q fresh_record) ≡ true → q ≡ place
  entered-alone place u o s q h k =
      let r = get_or t.records q fresh_record in
      let e = (known-exactly s now interval (entered_of m now)).0 h in
      let f = (known-exactly s now interval r).0 k in
      let same = key-transitive r.announce.header.source s m.header.source f.1 (key-symmetric m.header.source s e.1) in
      let here : known_of m.header.source now interval r ≡ true = (known-exactly m.header.source now interval r).1 (f.0, same) in
      let inside = known-inside s now interval t.records q k in
      let j = place-there (known_of m.header.source now interval) t.records q fresh_record inside here in
      absurd (omega (arith, o.unknown))

  keyed-by : (x : Answer) (u : Table) → Outcome t m interval now x u → Keyed now interval u.records
  keyed-by (Err r) u o = rw o keyed
  keyed-by (Ok (Renewed place)) u o =
      rw o.after (keyed-set now interval t.records place _ (omega (arith, o.inside)) keyed (renewed-alone place u o))
  keyed-by (Ok (Entered place)) u o =
      rw o.after (keyed-set now interval t.records place _ (omega (arith, o.inside)) keyed (entered-alone place u o))

-- THEOREM. Where no sender has two live records, none has after an admission.
pub admission-keyed : (t : Table) (m : Announce) (domain : ℕ) (own : Port) (a last now : ℕ) → length t.records ≡ 5
    → Keyed now (interval_of a) t.records → Keyed now (interval_of a) (admitted_of t m domain own a last now).table.records
admission-keyed t m domain own a last now five keyed =
    let r = admitted_of t m domain own a last now in
    keyed-by t m (interval_of a) now five keyed r.answer r.table (outcome t m domain own a last now five)
