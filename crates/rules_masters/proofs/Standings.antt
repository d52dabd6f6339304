-- Standings: what they say is what the records say; the seat that five of them give is in the table, and it settles an Announce as the admission of
-- specs/Admitting.antt does.
use Rattle.std.specs.Prelude.{Ok, Err}
use mathlib.Core.Path.{◌≡◌, refl, sym, ap, ◌∙◌}
use mathlib.Core.Bool.{Bool, true, false, cond, not}
use mathlib.Core.List.{List, [], ◌∷◌, map}
use Prim.Native.Nat.{ℕ, zero, suc, ◌≤◌, ◌<◌}
use native.Mathlib.Omega.{arith}
use lib.Dec.{ltb, leb, eqb}
use lib.ListN.{length, get_or, set}
use Rattle.std.proofs.lemmas.List.{get_or-map}
use borrow.Author.Tests.{lt-ltb, ltb-true, ltb-false, le-leb, lt-leb}
use Rattle.numbers.specs.declared.refusal.Refusal.{Refusal}
use Rattle.numbers.specs.declared.refusal.Refusal.TheVariants.{Repeat, Full}
use Rattle.numbers.specs.Grounds.{Ruling, answer_by, first_of}
use Rattle.rules_masters.specs.declared.admission.Entry.TheVariants.{Renewed, Entered}
use Rattle.numbers.specs.Orders.{of_announce}
use Rattle.numbers.proofs.Grounds.{or_else}
use Rattle.wire_layout.specs.declared.message.Port.{Port}
use Rattle.rules_masters.specs.declared.record.Announce.{Announce}
use Rattle.rules_masters.specs.declared.record.Record.{Record}
use Rattle.rules_masters.specs.declared.table.Table.{Table}
use Rattle.rules_masters.specs.declared.standing.Standing.{Standing}
use Rattle.rules_masters.specs.Records.{interval_of, live_of, known_of, fresh_record, entered_of, renewed_of}
use Rattle.rules_masters.specs.Places.{place_of, count_of}
use Rattle.rules_masters.specs.Admitting.{Answer, Admitted, is_repeat, standing_of, home, is_known, free, is_full, table_due, standings_in, accepted_of, admitted_by, admitted_of}
use Rattle.rules_masters.specs.Inner.{barred_of, seated_of, seat_of, settled_of}
use Rattle.rules_masters.proofs.Barring.{two-parts}
use Rattle.rules_masters.proofs.Placing.{room, no_room, absent}

-- ---- of a table's records
module _ {A B : Type 0} (f : A → B) (p : B → Bool) (q : A → Bool) (same : (x : A) → p (f x) ≡ q x) where
  place_map : (l : List A) → place_of p (map f l) ≡ place_of q l
  unfolding place_of
  place_map [] = refl
  place_map (x ∷ l) = rw (same x, place_map l)

  count_map : (l : List A) → count_of p (map f l) ≡ count_of q l
  unfolding count_of
  count_map [] = refl
  count_map (x ∷ l) = rw (same x, count_map l)

module _ (m : Announce) (interval now : ℕ) where
  abbrev S : Record → Standing
  S = standing_of m.header.source m.header.sequence now interval

  pub home_same : (t : List Record) → home (standings_in t m interval now) ≡ place_of (known_of m.header.source now interval) t
  unfolding standing_of
  home_same = place_map S (λ (s : Standing). s.known) (known_of m.header.source now interval) (λ r. refl)

  pub free-same : (t : List Record) → free (standings_in t m interval now) ≡ place_of (absent now interval) t
  unfolding standing_of absent
  free-same = place_map S (λ (s : Standing). not s.live) (absent now interval) (λ r. refl)

  pub live_same : (t : List Record) → count_of (λ (s : Standing). s.live) (standings_in t m interval now) ≡ count_of (live_of now interval) t
  unfolding standing_of
  live_same = count_map S (λ (s : Standing). s.live) (live_of now interval) (λ r. refl)

  pub repeat-same : (t : List Record) (place : ℕ) → place < length t
      → get_or (map (λ (s : Standing). s.repeats) (standings_in t m interval now)) place false ≡ eqb (get_or t place fresh_record).announce.header.sequence m.header.sequence
  unfolding standing_of
  repeat-same [] place h = absurd (omega arith)
  repeat-same (r ∷ t) zero h = refl
  repeat-same (r ∷ t) (suc place) h = repeat-same t place (omega arith)

-- ---- of any five standings: all five are live exactly where no place is free
module _ (l : List Standing) (five : length l ≡ 5) where
  abbrev alive : ℕ
  alive = count_of (λ (s : Standing). s.live) l

  pub not-all : ltb (free l) 5 ≡ true → leb 5 alive ≡ false
  not-all e =
      let h = ltb-true (free l) 5 e in
      let k : alive < 5 = rw five at (room (λ (s : Standing). s.live) (λ (s : Standing). not s.live) (λ s. refl) l (omega arith)) in
      lt-leb 5 alive k

  pub all : ltb (free l) 5 ≡ false → leb 5 alive ≡ true
  all e =
      let h = ltb-false (free l) 5 e in
      let k : 5 ≤ alive = rw five at (no_room (λ (s : Standing). s.live) (λ (s : Standing). not s.live) (λ s. refl) l (omega arith)) in
      le-leb 5 alive k

  -- the seat as the code finds it: by the place of the sender's live record, ..
  pub seat-known : (at : ℕ) (d : Standing) (repeats : Bool) → home l ≡ at → at < length l → (get_or l at d).repeats ≡ repeats
      → seat_of l ≡ cond repeats (Err Repeat) (Ok (Renewed at))
  unfolding seat_of is_repeat is_full first_of
  seat-known at d true e h r =
      let k : at < 5 = rw five at h in
      rw (e, lt-ltb at 5 k, get_or-map (λ (s : Standing). s.repeats) l at d false h, r)
  seat-known at d false e h r =
      let k : at < 5 = rw five at h in
      rw (e, lt-ltb at 5 k, get_or-map (λ (s : Standing). s.repeats) l at d false h, r)

  -- .. or by the first place that is not live
  module _ (strange : ltb (home l) (length l) ≡ false) where
    strange-in : ltb (home l) 5 ≡ false
    strange-in = rw five at strange

    pub seat-free : (at : ℕ) → free l ≡ at → at < length l → seat_of l ≡ Ok (Entered at)
    unfolding seat_of is_repeat is_full first_of
    seat-free at e h =
        let k : at < 5 = rw five at h in
        rw (strange-in, not-all (rw e (lt-ltb at 5 k)), e)

    pub seat-full : ltb (free l) (length l) ≡ false → seat_of l ≡ Err Full
    unfolding seat_of is_repeat is_full first_of
    seat-full e =
        let k : ltb (free l) 5 ≡ false = rw five at e in
        rw (strange-in, all k)

-- THEOREM. The seat settles an Announce that nothing else bars.
module _ (t : Table) (m : Announce) (interval now : ℕ) where
  pub seat-settles : settled_of (seat_of (standings_in t.records m interval now)) t m now ≡ seated_of t m interval now
  unfolding seat_of seated_of accepted_of
  seat-settles = by (first_of (of_announce (table_due (standings_in t.records m interval now)))) (is_known (standings_in t.records m interval now))
    where
      L : List Standing
      L = standings_in t.records m interval now

      by : (v : Ruling) (k : Bool)
          → settled_of (answer_by Err (cond k (Ok (Renewed (home L))) (Ok (Entered (free L)))) v) t m now
          ≡ admitted_by v t
          (cond k
          (record { answer = Ok (Renewed (home L)); table = record { records = set t.records (home L) (renewed_of (get_or t.records (home L) fresh_record) m now) } })
          (record { answer = Ok (Entered (free L)); table = record { records = set t.records (free L) (entered_of m now) } }))
      by (Err r) k = refl
      by (Ok _) true = refl
      by (Ok _) false = refl

-- THEOREM. An admission is the refusals that need no table, and then the seat.
module _ (t : Table) (m : Announce) (domain : ℕ) (own : Port) (a last now : ℕ) where
  pub admitted-parts : admitted_of t m domain own a last now ≡ admitted_by (barred_of m domain own last now) t (seated_of t m (interval_of a) now)
  unfolding admitted_of seated_of
  admitted-parts = rw two-parts (by (barred_of m domain own last now) _ _)
    where
      by : (v w : Ruling) (x : Admitted) → admitted_by (or_else v w) t x ≡ admitted_by v t (admitted_by w t x)
      by (Ok _) w x = refl
      by (Err r) w x = refl

  abbrev pub place : Answer
  place = seat_of (standings_in t.records m (interval_of a) now)

  pub admitted-by-seat : admitted_of t m domain own a last now ≡ admitted_by (barred_of m domain own last now) t (settled_of place t m now)
  admitted-by-seat = admitted-parts ∙ ap (admitted_by (barred_of m domain own last now) t) (sym (seat-settles t m (interval_of a) now))

  -- as the code goes: barred before the table is looked at, or by what is in it; or the place that an entry names is stored
  pub way-barred : (r : Refusal) → barred_of m domain own last now ≡ Err r → admitted_of t m domain own a last now ≡ record { answer = Err r; table = t }
  way-barred r e = admitted-by-seat ∙ rw e

  pub way-seated : (s : Answer) → barred_of m domain own last now ≡ Ok tt → s ≡ place → admitted_of t m domain own a last now ≡ settled_of s t m now
  way-seated s e p = admitted-by-seat ∙ rw (e, p)
