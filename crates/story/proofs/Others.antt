-- The calls that the exchange is not told of: an Announce, the bare time call, the second pulse, the line and what is shown.
use Rattle.std.specs.Prelude.{Ok, Err}
use mathlib.Core.Path.{◌≡◌, refl, sym, ap, ◌∙◌, subst}
use mathlib.Core.List.{List, [], ◌∷◌, ◌++◌}
use mathlib.Core.Option.{Option, none, some}
use mathlib.Core.Bool.{Bool, true, false, cond, ◌||◌}
use Prim.Native.Nat.{ℕ, ◌≤◌, ◌%◌, ◌^◌}
use native.Mathlib.Omega.{arith}
use borrow.Author.Tests.{ltb-false}
use lib.Dec.{leb, ltb}
use lib.IntN.{ℤ, pos, nat_abs, ◌-ℤ◌}
use lib.Signed.{le_z}
use Rattle.numbers.specs.declared.refusal.Refusal.TheVariants.{Now, Tick}
use Rattle.numbers.specs.declared.units.Ppb.{Ppb}
use Rattle.numbers.specs.declared.stamp.Stamp.{Stamp}
use Rattle.numbers.specs.Grounds.{first_of}
use Rattle.numbers.specs.Orders.{none_due, due_with, of_time}
use Rattle.wire_layout.specs.declared.message.Header.{Header}
use Rattle.wire_layout.specs.declared.message.Offer.{Offer}
use Rattle.wire_layout.specs.declared.message.Body.TheVariants as bodies
use Rattle.rules_masters.specs.declared.table.Table.{Table}
use Rattle.rules_masters.specs.declared.chosen.Chosen.{Chosen}
use Rattle.rules_masters.specs.declared.chosen.Decision.TheVariants.{Same, Changed}
use Rattle.rules_masters.specs.declared.record.Announce.{Announce}
use Rattle.rules_masters.specs.Admitting.{Answer as Admission}
use Rattle.rules_masters.specs.declared.admission.Entry.TheVariants as admission
use Rattle.rules_watch.specs.Rules.{Outcome, Drift}
use Rattle.rules_masters.specs.Records.{interval_of}
use Rattle.rules_masters.specs.Holding.{chosen_at, same_master_of, decision_of}
use Rattle.rules_servo.specs.Shows.{is_holdover, is_tracking}
use Rattle.rules_servo.specs.declared.shown.Shown.TheVariants.{Holdover, Tracking, Adjusting}
use Rattle.rules_watch.specs.declared.settings.WatchSettings.{WatchSettings}
use Rattle.rules_watch.specs.declared.window.Sample.{Sample}
use Rattle.rules_watch.specs.declared.Pulse.TheVariants as pulse
use Rattle.rules_watch.specs.declared.judging.Judged.{Judged}
use Rattle.rules_watch.specs.declared.judging.Judged.TheVariants.{Wipe, Take}
use Rattle.rules_watch.specs.Rules.{Since, Stamps as Given, pulse_of, outcome, on_last, sample_after, outside_of, apart, line_since, since_by}
use Rattle.rules_watch.proofs.Outcomes.{outcome-is}
use Rattle.rules_watch.proofs.Story.{Proper, proper}
use Rattle.rules_settings.specs.declared.Settings.{Settings}
use Rattle.unit_core.specs.declared.calls.Call.{Call}
use Rattle.unit_core.specs.declared.calls.Call.TheVariants as calls
use Rattle.unit_core.specs.declared.calls.Answer.{Answer}
use Rattle.unit_core.specs.declared.calls.Answer.TheVariants as answers
use Rattle.unit_core.specs.Effects.{Stays, keeps, takes, unless}
use Rattle.unit_core.specs.Showing.{port_of, shows_of}
use Rattle.unit_choosing.specs.Choosing.{time_due, admission as admitting, with_chosen, holds_by, holds, time_passes, chooses as chooses_anew, admits, announces as announcing}
use Rattle.unit_ticking.specs.Ticking.{ticks, line_by}
use Rattle.unit.specs.Machine.{Past, past_by}
use Rattle.story_masters.specs.Announces.{Log as SeatLog, came, last_now as last_seen}
use Rattle.story_masters.specs.Places.{answer as seat_answer, chosen_in}
use Rattle.story_masters.specs.History.{log_by, last_after, log as seats_after}
use Rattle.story_masters.proofs.Refines.{Tells as SeatTells, step as seat-step, chooses as seat-chooses}
use Rattle.story_lists.specs.Reading.{all, since}
use Rattle.story.specs.Book.{Book, entry, a_now, a_pulse, a_request_call, an_exchange_entry, is_some, chosen, faulty, sequence, seats, last_measured, since_wipe, y_after, sample_of, ahead_first, samples_of, wipe_count}
use Rattle.story.specs.Saying.{unless_barred, choice_answer, admission_answer, pulse_answer, overdue, answer}
use Rattle.story.specs.Tale.{book_with}
use Rattle.story.proofs.Tells.{Tells, Agrees}
use Rattle.story.proofs.Exchanging.{wiped-tells}
use Rattle.story.proofs.Calling.{seats-now}

-- a pulse that is taken is the sample that the pulses before it make of it
abbrev since_of_pulses : WatchSettings → List Given → Since
since_of_pulses t l = record { origin = ahead_first l; samples = samples_of t l }

on-last : (x : Judged) (f : Sample → Judged) (l : List Sample) (z : Sample) → on_last x f (l ++ (z ∷ [])) ≡ f z
unfolding on_last
on-last x f [] z = refl
on-last x f (a ∷ []) z = refl
on-last x f (a ∷ b ∷ l) z = on-last x f (b ∷ l) z

pulse-taken : (t : WatchSettings) (l : List Given) (r c o : ℤ) (x : Sample) → outcome t (since_of_pulses t l) r c ≡ Ok (Take o x)
    → since_by (since_of_pulses t l) (Ok (Take o x)) ≡ since_of_pulses t (record { reference = r; clock = c } ∷ l)
unfolding ahead_first samples_of on_last
pulse-taken t [] r c o x e = go (outside_of r || outside_of c) (sym (outcome-is t (since_of_pulses t []) r c) ∙ e)
  where
    go : (i : Bool) → cond i (Err Tick) (Ok (Take (c -ℤ r) (record { reference = r; y = pos 0; valid = true }))) ≡ Ok (Take o x)
        → record { origin = o; samples = x ∷ [] } ≡ since_of_pulses t (record { reference = r; clock = c } ∷ [])
    go true f = absurd (let z : ◌≡◌ {A = ℕ} 0 1 = cc in omega arith)
    go false f = let u : o ≡ c -ℤ r = cc in let v : x ≡ record { reference = r; y = pos 0; valid = true } = cc in rw (u, v)
pulse-taken t (q ∷ l) r c o x e =
    go (outside_of r || outside_of c) (le_z r q.reference) (leb 1000000000 (nat_abs Y)) (ltb t.jump (apart Y (y_after q l)))
    (rw (on-last _ _ (samples_of t l) (sample_of t q l)) at (sym (outcome-is t (since_of_pulses t (q ∷ l)) r c) ∙ e))
  where
    Y : ℤ
    Y = c -ℤ r -ℤ ahead_first (q ∷ l)

    P : Given
    P = record { reference = r; clock = c }

    go : (i j k n : Bool)
        → cond i (Err Tick) (Ok (cond j (Wipe pulse.Back) (cond k (Wipe pulse.Range) (cond n (Wipe pulse.Jump) (Take (ahead_first (q ∷ l)) (sample_after t (sample_of t q l) r Y)))))) ≡ Ok (Take o x)
        → record { origin = o; samples = samples_of t (q ∷ l) ++ (x ∷ []) } ≡ since_of_pulses t (P ∷ q ∷ l)
    go true j k n f = absurd (let z : ◌≡◌ {A = ℕ} 0 1 = cc in omega arith)
    go false true k n f = absurd (let z : ◌≡◌ {A = ℕ} 0 1 = cc in omega arith)
    go false false true n f = absurd (let z : ◌≡◌ {A = ℕ} 0 1 = cc in omega arith)
    go false false false true f = absurd (let z : ◌≡◌ {A = ℕ} 0 1 = cc in omega arith)
    go false false false false f =
        let u : o ≡ ahead_first (q ∷ l) = cc in
        let v : x ≡ sample_of t P (q ∷ l) = cc in
        rw (u, v)

-- what is shown depends on these alone
abbrev shape : Stays → Bool → Bool → List ℤ → Ppb → ℕ → Answer
shape k m o l out n =
    answers.Shows
    (record {
      port = port_of k.faulty k.chosen.some m;
      servo = cond o Holdover (cond (is_tracking l) Tracking Adjusting);
      output = out;
      now = k.now;
      master = k.chosen;
      wipes = n;
      sequence = k.sequence;
    })

same-shown : {k k' : Stays} {m m' o o' : Bool} {l l' : List ℤ} {out out' : Ppb} {n n' : ℕ} → k ≡ k' → m ≡ m' → o ≡ o' → l ≡ l' → out ≡ out' → n ≡ n'
    → shape k m o l out n ≡ shape k' m' o' l' out' n'
same-shown u v w x y z = rw (u, v, w, x, y, z)

module _ (s : Settings) (b : Book) (p : Past) (h : Tells s b p) where
  abbrev K : Stays
  K = p.stays

  -- ---- a choice
  module _ (call : Call) (now : ℕ) (t : Table) (nows : (u : Answer) → a_now (entry call u) ≡ some now) (pulses : (u : Answer) → a_pulse (entry call u) ≡ none)
      (requests : (u : Answer) → a_request_call (entry call u) ≡ none) (entries : (u : Answer) → an_exchange_entry s.own (entry call u) ≡ none)
      (st : (u : Answer) → SeatTells (interval_of s.announce) (seats s (entry call u ∷ b)) (record { table = t; last = now })) where
    chosen-told : (c d : Chosen) → c ≡ d → Agrees s b p call t (answers.Choice (decision_of (chosen b) d)) (holds K p.progress now c)
    unfolding all since
    chosen-told c d e =
        subst (λ (i : Chosen). Agrees s b p call t (answers.Choice (decision_of (chosen b) i)) (holds K p.progress now c)) e
        (subst (λ (k : Stays). Agrees s b p call t (answers.Choice (decision_of k.chosen c)) (holds K p.progress now c)) h.stays
        (go (same_master_of K.chosen c)))
      where
        stay : (u : Answer) → with_chosen K now c ≡ record { now = now; chosen = c; faulty = faulty b; sequence = sequence b }
        stay u = ap (λ (k : Stays). with_chosen k now c) h.stays

        go : (i : Bool) → Agrees s b p call t (answers.Choice (cond i (Same c) (Changed c))) (holds_by K p.progress now c (cond i (Same c) (Changed c)))
        go true =
            let u = answers.Choice (Same c) in
            record {
              says = refl;
              tells =
                  record {
                    stays = rw (nows u, requests u) (stay u);
                    seats = st u;
                    exchange = rw (entries u) h.exchange;
                    servo = h.servo;
                    measured = h.measured;
                    since = rw (pulses u) h.since;
                    count = h.count;
                  };
            }
        go false = let u = answers.Choice (Changed c) in wiped-tells s b p h call t u (with_chosen K now c) refl refl (rw (nows u, requests u) (stay u)) (st u)

  -- ---- an Announce
  module _ (now : ℕ) (t2 : Stamp) (hd : Header) (stamp : Stamp) (offer : Offer) where
    abbrev M : Announce
    M = record { header = hd; stamp = stamp; offer = offer }

    abbrev Announced : Call
    Announced = calls.Receive now t2 (record { header = hd; body = bodies.Announce stamp offer })

    abbrev T : Table
    T = (admitting s K p.table now M).table

    abbrev Said : Admission
    Said = seat_answer s.domain s.own s.announce (seats s b) M now

    pub announce-told : Agrees s b p Announced T (admission_answer s b now M Said) (announcing s K p.progress p.table now M)
    unfolding announcing chooses_anew all seats_after
    announce-told =
        let d = seat-step s.domain s.own s.announce (seats s b) (record { table = p.table; last = K.now }) h.seats M now in
        subst (λ (a : Admission). Agrees s b p Announced T (admission_answer s b now M Said) (admits s K p.progress T now a)) (sym d.says)
        (go Said refl (subst (λ (a : Admission). SeatTells (interval_of s.announce) (log_by (seats s b) now M Said) (record { table = T; last = last_after K.now now a })) d.says d.tells))
      where
        told : (l : SeatLog) → last_seen l ≤ now → SeatTells (interval_of s.announce) l (record { table = T; last = now }) → log_by (seats s b) now M Said ≡ l
            → Agrees s b p Announced T (choice_answer s b now l) (chooses_anew s K p.progress T now)
        told l later st e =
            chosen-told Announced now T (λ u. refl) (λ u. refl) (λ u. refl) (λ u. refl) (λ u. rw e st) (chosen_at T.records now s.announce) (chosen_in s.announce l now)
            (seat-chooses s.domain s.own s.announce l (record { table = T; last = now }) st now later)

        go : (a : Admission) → Said ≡ a → SeatTells (interval_of s.announce) (log_by (seats s b) now M a) (record { table = T; last = last_after K.now now a })
            → Agrees s b p Announced T (admission_answer s b now M a) (admits s K p.progress T now a)
        go (Err n) e st =
            record {
              says = refl;
              tells =
                  record { stays = h.stays; seats = st; exchange = h.exchange; servo = h.servo; measured = h.measured; since = h.since; count = h.count };
            }
        go (Ok (admission.Renewed i)) e st = told (came i now M ∷ seats s b) (omega arith) st (ap (λ (a : Admission). log_by (seats s b) now M a) e)
        go (Ok (admission.Entered i)) e st = told (came i now M ∷ seats s b) (omega arith) st (ap (λ (a : Admission). log_by (seats s b) now M a) e)

  -- ---- the time call
  pub time-told : (now : ℕ) → Agrees s b p (calls.Time now) p.table (answer s b (calls.Time now)) (time_passes s K p.progress p.table now)
  unfolding answer time_passes chooses_anew all first_of
  time-told now =
      subst (λ (k : Stays). Agrees s b p (calls.Time now) p.table (unless_barred (first_of (of_time (time_due k.now now))) (choice_answer s b now (seats s b))) (time_passes s K p.progress p.table now)) h.stays
      (go (ltb now K.now) refl)
    where
      go : (i : Bool) → ltb now K.now ≡ i
          → Agrees s b p (calls.Time now) p.table (unless_barred (first_of (of_time (due_with Now i none_due))) (choice_answer s b now (seats s b))) (unless (first_of (of_time (due_with Now i none_due))) (chooses_anew s K p.progress p.table now))
      go true e = record { says = refl; tells = h }
      go false e =
          chosen-told (calls.Time now) now p.table (λ u. refl) (λ u. refl) (λ u. refl) (λ u. refl) (λ u. seats-now s b p h now e) (chosen_at p.table.records now s.announce) (chosen_in s.announce (seats s b) now)
          (seat-chooses s.domain s.own s.announce (seats s b) (record { table = p.table; last = K.now }) h.seats now (omega (arith, h.seats.last, ltb-false now K.now e)))

  -- ---- the second pulse
  pulse-told : (r c : ℤ) (o : Outcome) → outcome s.watch p.since r c ≡ o → Proper o → Agrees s b p (calls.Tick r c) p.table (pulse_answer s b o) (ticks K o)
  unfolding all since ahead_first samples_of
  pulse-told r c (Err n) e q = record { says = refl; tells = h }
  pulse-told r c (Ok (Wipe a)) e q = wiped-tells s b p h (calls.Tick r c) p.table (answers.Watch a) K refl (rw q) h.stays h.seats
  pulse-told r c (Ok (Take origin x)) e q = record { says = refl; tells = go x.valid }
    where
      taken : since_by p.since (Ok (Take origin x)) ≡ since_of_pulses s.watch (record { reference = r; clock = c } ∷ all a_pulse (since_wipe b))
      taken =
          ap (λ (z : Since). since_by z (Ok (Take origin x))) h.since
          ∙ pulse-taken s.watch (all a_pulse (since_wipe b)) r c origin x (ap (λ (z : Since). outcome s.watch z r c) (sym h.since) ∙ e)

      go : (v : Bool) → Tells s (book_with (calls.Tick r c) (answers.Watch (pulse_of v)) b) (past_by s p p.table (takes origin x))
      go true = record { stays = h.stays; seats = h.seats; exchange = h.exchange; servo = h.servo; measured = h.measured; since = taken; count = h.count }
      go false = record { stays = h.stays; seats = h.seats; exchange = h.exchange; servo = h.servo; measured = h.measured; since = taken; count = h.count }

  pub tick-told : (r c : ℤ) → Agrees s b p (calls.Tick r c) p.table (answer s b (calls.Tick r c)) (ticks K (outcome s.watch p.since r c))
  unfolding answer
  tick-told r c =
      subst (λ (z : Since). Agrees s b p (calls.Tick r c) p.table (pulse_answer s b (outcome s.watch z r c)) (ticks K (outcome s.watch p.since r c))) h.since
      (pulse-told r c (outcome s.watch p.since r c) refl (proper s.watch p.since r c))

  -- ---- the line
  line-by : (d : Drift) (n : ℕ) → Agrees s b p calls.Line p.table (line_by d n) (keeps (line_by d n))
  unfolding all since
  line-by (Err n) m = record { says = refl; tells = h }
  line-by (Ok l) m =
      record {
        says = refl;
        tells = record { stays = h.stays; seats = h.seats; exchange = h.exchange; servo = h.servo; measured = h.measured; since = h.since; count = h.count };
      }

  pub line-told : Agrees s b p calls.Line p.table (answer s b calls.Line) (keeps (line_by (line_since s.watch p.since) (p.count % 2 ^ 32)))
  unfolding answer
  line-told =
      subst (λ (z : Since). Agrees s b p calls.Line p.table (line_by (line_since s.watch z) (wipe_count b % 2 ^ 32)) (keeps (line_by (line_since s.watch p.since) (p.count % 2 ^ 32)))) h.since
      (subst (λ (n : ℕ). Agrees s b p calls.Line p.table (line_by (line_since s.watch p.since) (n % 2 ^ 32)) (keeps (line_by (line_since s.watch p.since) (p.count % 2 ^ 32)))) h.count
      (line-by (line_since s.watch p.since) (p.count % 2 ^ 32)))

  -- ---- what is shown
  shows_same : answers.Shows (shows_of K p.progress (p.count % 2 ^ 32)) ≡ answer s b calls.Show
  unfolding answer
  shows_same =
      same-shown h.stays (measured-is p.progress.measured p.progress.at ∙ ap (λ (o : Option ℕ). is_some o) h.measured)
      (overdue-is p.progress.measured p.progress.at K.now ∙ ap (λ (o : Option ℕ). overdue s b o K.now) h.measured ∙ ap (λ (k : Stays). overdue s b (last_measured b) k.now) h.stays)
      h.servo.held (ap (λ (z : ℤ). record { 0 = z }) h.servo.put) (ap (λ (n : ℕ). n % 2 ^ 32) h.count)
    where
      measured-is : (m : Bool) (t : ℕ) → m ≡ is_some (cond m (some t) none)
      measured-is true t = refl
      measured-is false t = refl

      overdue-is : (m : Bool) (t now : ℕ) → is_holdover m t now ≡ overdue s b (cond m (some t) none) now
      overdue-is true t now = refl
      overdue-is false t now = refl

  pub show-told : Agrees s b p calls.Show p.table (answer s b calls.Show) (keeps (answers.Shows (shows_of K p.progress (p.count % 2 ^ 32))))
  unfolding answer all since
  show-told =
      record {
        says = shows_same;
        tells = record { stays = h.stays; seats = h.seats; exchange = h.exchange; servo = h.servo; measured = h.measured; since = h.since; count = h.count };
      }
