-- From an empty table, after any history, an Announce gets the answer that the history gives, and the master chosen is the one that it gives.
use Rattle.std.specs.Prelude.{Ok, Err}
use mathlib.Core.Path.{◌≡◌, refl, sym, ap, ◌∙◌, subst}
use mathlib.Core.List.{List, [], ◌∷◌, map}
use mathlib.Core.Option.{none, some}
use mathlib.Core.Bool.{Bool, true, false, cond, not, ◌&&◌}
use Prim.Native.Nat.{ℕ, zero, suc, ◌<◌, ◌≤◌}
use native.Mathlib.Omega.{arith}
use borrow.Author.Tests.{ltb-true, ltb-false, leb-false, eqb-true, eqb-false}
use lib.Dec.{leb, ltb, eqb}
use lib.ListN.{length, get_or, set, length-set}
use lib.Seq.{get_or-set_same, get_or-set_other}
use Rattle.numbers.specs.Grounds.{Ruling}
use Rattle.rules_masters.specs.Admitting.{Answer}
use Rattle.rules_masters.specs.declared.admission.Entry.TheVariants.{Renewed, Entered}
use Rattle.numbers.specs.Grounds.{first_of}
use Rattle.wire_layout.specs.declared.message.Port.{Port}
use Rattle.rules_masters.specs.declared.record.Announce.{Announce}
use Rattle.rules_masters.specs.declared.record.Record.{Record}
use Rattle.rules_masters.specs.declared.standing.Standing.{Standing}
use Rattle.rules_masters.specs.Admitting.{Admitted}
use Rattle.rules_masters.specs.Records.{interval_of, live_of, known_of, qualified_of, fresh_record, entered_of, renewed_of}
use Rattle.rules_masters.specs.Places.{place_of, count_of, fresh_table}
use Rattle.rules_masters.specs.Admitting.{is_repeat as repeat_in, is_full as full_in, standings_in, accepted_of, grounds_of, admitted_by, admitted_of}
use Rattle.rules_masters.specs.Choosing.{those, choice_among, in_order, choice_of}
use Rattle.rules_masters.specs.Holding.{chosen_at}
use Rattle.rules_masters.proofs.Barring.{clear-announce}
use Rattle.rules_masters.proofs.Placing.{place-holds, has_room, absent, opposite}
use Rattle.rules_masters.proofs.Order.{in-order}
use Rattle.rules_masters.proofs.Standings.{home_same as known-asked, free-same as free-asked, live_same as live-asked, repeat-same as repeat-asked}
use Rattle.story_lists.specs.Reading.{all, with_it}
use Rattle.story_masters.specs.Announces.{Log, came, passed, last_now, Arrival, sender_of, arrivals_at, places, is_home, better_announce}
use Rattle.story_masters.specs.Places.{is_last, home, free, is_repeat, is_full, seat_by, answer, as_master, chosen_in}
use Rattle.story_masters.specs.History.{Happening, arrives, passes, log_by, log, Memory, last_after, admission_of, machine}
use Rattle.story_masters.proofs.Seats.{Seat, seat-later, live_same, home_same, absent-same, renewed, entered as enters}
use Rattle.story_masters.proofs.Choices.{Alike, place_same, count_same, those-same, choice-same}

-- the memory tells the log
pub record Tells (interval : ℕ) (l : Log) (k : Memory) : Type 0 where
  pub last : k.last ≡ last_now l
  pub five : length k.table.records ≡ 5
  pub seats : (q : ℕ) → Seat (last_now l) interval (arrivals_at q l) (get_or k.table.records q fresh_record)

module _ (interval : ℕ) (l : Log) (k : Memory) (h : Tells interval l k) where
  abbrev T : List Record
  T = k.table.records

  in-places : Alike (last_now l) interval (places l) (in_order T)
  in-places = (h.seats 0, (h.seats 1, (h.seats 2, (h.seats 3, (h.seats 4, tt)))))

  alike : Alike (last_now l) interval (places l) T
  alike = subst (λ (t : List Record). Alike (last_now l) interval (places l) t) (in-order T h.five) in-places

  -- ---- an Announce
  module _ (m : Announce) (now : ℕ) where
    abbrev asked : List Standing
    asked = standings_in T m interval now

    abbrev home_in : ℕ
    home_in = place_of (known_of (sender_of m) now interval) T

    homes : home_in ≡ home l m interval now
    homes = place_same (last_now l) interval _ _ (home_same (last_now l) interval now (sender_of m)) (places l) T alike

    frees : place_of (absent now interval) T ≡ free l m interval now
    frees = place_same (last_now l) interval _ _ (absent-same (last_now l) interval now) (places l) T alike

    known-home : home_in < 5 → is_home now interval (sender_of m) (arrivals_at home_in l) ≡ true
    known-home c =
        let q = home_in in
        sym (home_same (last_now l) interval now (sender_of m) (arrivals_at q l) (get_or T q fresh_record) (h.seats q))
        ∙ place-holds (known_of (sender_of m) now interval) T fresh_record (rw h.five c)

    -- REPEAT and FULL
    sequence-same : (n : ℕ) (these : List Arrival) (r : Record) → Seat (last_now l) interval these r → is_home now interval (sender_of m) these ≡ true
        → eqb r.announce.header.sequence n ≡ is_last n these
    sequence-same n [] r s e = absurd (let z : ◌≡◌ {A = ℕ} 0 1 = cc in omega arith)
    sequence-same n (a ∷ these) r s e = rw s.announce

    abbrev Number : ℕ
    Number = m.header.sequence

    abbrev repeat_at : ℕ → Bool
    repeat_at place = get_or (map (λ (s : Standing). s.repeats) asked) place false

    repeats : (p : ℕ) → home_in ≡ p → ltb home_in 5 && repeat_at home_in ≡ ltb p 5 && is_last Number (arrivals_at p l)
    repeats p e = go (ltb home_in 5) refl ∙ ap (λ (q : ℕ). ltb q 5 && is_last Number (arrivals_at q l)) e
      where
        go : (b : Bool) → ltb home_in 5 ≡ b → b && repeat_at home_in ≡ b && is_last Number (arrivals_at home_in l)
        go true f =
            let c = ltb-true home_in 5 f in
            repeat-asked m interval now T home_in (rw h.five c)
            ∙ sequence-same Number (arrivals_at home_in l) (get_or T home_in fresh_record) (h.seats home_in) (known-home c)
        go false f = refl

    repeat-same : repeat_in asked ≡ is_repeat l m interval now
    unfolding repeat_in
    repeat-same = rw (known-asked m interval now T) (repeats (home l m interval now) homes)

    full-same : full_in asked ≡ is_full l m interval now
    unfolding full_in
    full-same =
        rw (known-asked m interval now T, live-asked m interval now T, homes, count_same (last_now l) interval _ _ (live_same (last_now l) interval now) (places l) T alike)

    -- one place has this Announce
    abbrev New : Arrival
    New = record { now = now; announce = m }

    placed : (p : ℕ) (r : Record) → p < 5 → last_now l ≤ now → Seat now interval (New ∷ arrivals_at p l) r
        → Tells interval (came p now m ∷ l) (record { table = record { records = set T p r }; last = now })
    unfolding all
    placed p r c later s = record { last = refl; five = length-set T p r ∙ h.five; seats = λ q. go q (eqb p q) refl }
      where
        go : (q : ℕ) (b : Bool) → eqb p q ≡ b → Seat now interval (with_it (cond b (some New) none) (arrivals_at q l)) (get_or (set T p r) q fresh_record)
        go q true e =
            subst (λ (i : ℕ). Seat now interval (New ∷ arrivals_at i l) (get_or (set T p r) i fresh_record)) (eqb-true p q e)
            (rw (get_or-set_same T p r fresh_record (rw h.five c)) s)
        go q false e =
            rw (get_or-set_other T p q r fresh_record (λ i. eqb-false p q e (sym i))) (seat-later (last_now l) now interval (arrivals_at q l) (get_or T q fresh_record) later (h.seats q))

    -- the answer, and the memory after it
    pub record Agrees (r : Admitted) (said : Answer) : Type 0 where
      pub says : r.answer ≡ said
      pub tells : Tells interval (log_by l now m said) (record { table = r.table; last = last_after k.last now r.answer })

    accepts : last_now l ≤ now → full_in asked ≡ false → Agrees (accepted_of T m interval now) (seat_by l m interval now (Ok tt))
    unfolding accepted_of full_in
    accepts later room =
        rw (known-asked m interval now T, free-asked m interval now T)
        (subst (λ (p : ℕ). Agrees put (cond (ltb p 5) (Ok (Renewed p)) (Ok (Entered (free l m interval now))))) homes
        (subst (λ (f : ℕ). Agrees put (cond (ltb P 5) (Ok (Renewed P)) (Ok (Entered f)))) frees
        (go (ltb P 5) refl (rw (known-asked m interval now T, live-asked m interval now T) at room))))
      where
        P : ℕ
        P = home_in

        F : ℕ
        F = place_of (absent now interval) T

        put : Admitted
        put =
            cond (ltb P 5) (record { answer = Ok (Renewed P); table = record { records = set T P (renewed_of (get_or T P fresh_record) m now) } })
            (record { answer = Ok (Entered F); table = record { records = set T F (entered_of m now) } })

        go : (b : Bool) → ltb P 5 ≡ b → (not b && leb 5 (count_of (live_of now interval) T)) ≡ false
            → Agrees
            (cond b (record { answer = Ok (Renewed P); table = record { records = set T P (renewed_of (get_or T P fresh_record) m now) } })
            (record { answer = Ok (Entered F); table = record { records = set T F (entered_of m now) } }))
            (cond b (Ok (Renewed P)) (Ok (Entered F)))
        go true e g =
            let c = ltb-true P 5 e in
            record { says = refl; tells = placed P _ c later (renewed (last_now l) interval now m later (arrivals_at P l) (get_or T P fresh_record) (h.seats P) (known-home c)) }
        go false e g =
            let n : count_of (live_of now interval) T < length T = rw h.five (leb-false 5 (count_of (live_of now interval) T) g) in
            let i = has_room (live_of now interval) (absent now interval) (opposite now interval) T n in
            let c : F < 5 = rw h.five at i in
            let d = sym (absent-same (last_now l) interval now (arrivals_at F l) (get_or T F fresh_record) (h.seats F)) ∙ place-holds (absent now interval) T fresh_record i in
            record { says = refl; tells = placed F _ c later (enters (last_now l) interval now m later (arrivals_at F l) (get_or T F fresh_record) (h.seats F) d) }

-- one Announce
module _ (domain : ℕ) (own : Port) (a : ℕ) (l : Log) (k : Memory) (h : Tells (interval_of a) l k) where
  pub step : (m : Announce) (now : ℕ) → Agrees (interval_of a) l k h m now (admission_of domain own a k m now) (answer domain own a l m now)
  unfolding admitted_of answer
  step m now =
      rw (← h.last, ← repeat-same (interval_of a) l k h m now, ← full-same (interval_of a) l k h m now) (go (first_of (grounds_of k.table m domain own a k.last now)) refl)
    where
      go : (v : Ruling) → first_of (grounds_of k.table m domain own a k.last now) ≡ v
          → Agrees (interval_of a) l k h m now (admitted_by v k.table (accepted_of k.table.records m (interval_of a) now)) (seat_by l m (interval_of a) now v)
      go (Ok tt) e =
          let n = clear-announce _ _ _ _ _ (asked (interval_of a) l k h m now) e in
          accepts (interval_of a) l k h m now (rw h.last at (ltb-false now k.last n.0)) n.2
      go (Err r) e = record { says = refl; tells = h }

  -- a call that carries now
  pub step-now : (now : ℕ) → Tells (interval_of a) (cond (ltb now (last_now l)) l (passed now ∷ l)) (record { table = k.table; last = cond (ltb now k.last) k.last now })
  unfolding all
  step-now now = rw h.last (go (ltb now (last_now l)) refl)
    where
      go : (b : Bool) → ltb now (last_now l) ≡ b → Tells (interval_of a) (cond b l (passed now ∷ l)) (record { table = k.table; last = cond b (last_now l) now })
      go true e = record { last = refl; five = h.five; seats = h.seats }
      go false e = record { last = refl; five = h.five; seats = λ q. seat-later (last_now l) now (interval_of a) (arrivals_at q l) _ (ltb-false now (last_now l) e) (h.seats q) }

  -- the choice at now, where no accepted now lies above it
  pub chooses : (now : ℕ) → last_now l ≤ now → chosen_at k.table.records now a ≡ chosen_in a l now
  unfolding choice_of chosen_in
  chooses now later =
      choice-same (those (qualified_of now (interval_of a)) (in_order k.table.records))
      ∙ ap (λ (r : List Announce). as_master (choice_among better_announce r))
      (sym (those-same (last_now l) (interval_of a) now later (places l) (in_order k.table.records) (in-places (interval_of a) l k h)))

-- an empty table
unheld : (q : ℕ) → (get_or fresh_table.records q fresh_record).held ≡ 0
unheld zero = refl
unheld (suc zero) = refl
unheld (suc (suc zero)) = refl
unheld (suc (suc (suc zero))) = refl
unheld (suc (suc (suc (suc zero)))) = refl
unheld (suc (suc (suc (suc (suc q))))) = refl

-- any history
module _ (domain : ℕ) (own : Port) (a : ℕ) where
  pub tells : (happened : List Happening) → Tells (interval_of a) (log domain own a happened) (machine domain own a happened)
  unfolding log machine all
  tells [] = record { last = refl; five = refl; seats = unheld }
  tells (arrives now m ∷ before) = (step domain own a (log domain own a before) (machine domain own a before) (tells before) m now).tells
  tells (passes now ∷ before) = step-now domain own a (log domain own a before) (machine domain own a before) (tells before) now

  -- the theorems
  pub refines : (before : List Happening) (m : Announce) (now : ℕ)
      → (admission_of domain own a (machine domain own a before) m now).answer ≡ answer domain own a (log domain own a before) m now
  refines before m now = (step domain own a (log domain own a before) (machine domain own a before) (tells before) m now).says

  pub chosen-told : (before : List Happening) (now : ℕ) → last_now (log domain own a before) ≤ now
      → chosen_at (machine domain own a before).table.records now a ≡ chosen_in a (log domain own a before) now
  chosen-told before now later = chooses domain own a (log domain own a before) (machine domain own a before) (tells before) now later
