-- A call that the exchange is told of: what each of its answers makes of the past and of the book.
use Rattle.std.specs.Prelude.{Ok, Err}
use mathlib.Core.Path.{◌≡◌, refl, sym, ap, ◌∙◌, subst}
use mathlib.Core.List.{[], ◌∷◌}
use mathlib.Core.Option.{Option, none, some}
use mathlib.Core.Bool.{true, false}
use Prim.Native.Nat.{ℕ, suc}
use native.Mathlib.Omega.{arith}
use lib.IntN.{ℤ, pos}
use Rattle.rules_masters.specs.declared.table.Table.{Table}
use Rattle.rules_masters.specs.Records.{interval_of}
use Rattle.rules_exchange.specs.declared.Exchange.{Exchange}
use Rattle.rules_exchange.specs.declared.Accepted.{Accepted}
use Rattle.rules_exchange.specs.declared.said.Said.{Said}
use Rattle.rules_exchange.specs.declared.said.Said.TheVariants as says
use Rattle.rules_exchange.specs.Events.{Answer as Told}
use Rattle.rules_exchange.specs.Said.{wipes_of, faults_of, verdict_of}
use Rattle.rules_exchange.specs.Table.{Event}
use Rattle.rules_exchange.specs.Events.{told}
use Rattle.rules_exchange.proofs.Promises.{Range, accepted-range}
use Rattle.numbers.proofs.Integers.{abs-parts, one_side}
use Rattle.rules_servo.proofs.Limits.{held_same}
use Rattle.rules_servo.specs.Steps.{held_offset, limit_of, stepped_servo}
use Rattle.rules_settings.specs.declared.Settings.{Settings}
use Rattle.unit_core.specs.declared.calls.Call.{Call}
use Rattle.unit_core.specs.declared.calls.Answer.{Answer}
use Rattle.unit_core.specs.declared.calls.Answer.TheVariants as answers
use Rattle.unit_core.specs.Effects.{Stays, goes, wipes}
use Rattle.unit_core.specs.Answers.{is_refusal}
use Rattle.unit_measuring.specs.Measuring.{by_said, by_answer, with_exchange, output_after, progress_after, faulty_at, exchanges}
use Rattle.unit.specs.Machine.{Past}
use Rattle.story_exchange.specs.Log.{entry as exchange_entry}
use Rattle.story_exchange.specs.History.{log_with, exchange_after}
use Rattle.story_exchange.specs.Rules.{answer as exchange_answer}
use Rattle.story_exchange.proofs.Tells.{Tells as ExchangeTells, fresh-tells}
use Rattle.story_exchange.proofs.Refines.{step as exchange-step}
use Rattle.story_servo.proofs.Refines.{Tells as ServoTells, step as servo-step}
use Rattle.story_masters.proofs.Refines.{Tells as SeatTells}
use Rattle.story_lists.specs.Reading.{all, since, unless-found}
use Rattle.story.specs.Book.{Book, entry, a_wipe, since_wipe, a_now, a_request_call, a_pulse, an_offset, an_exchange_entry, offset_by, then, said_by, chosen, faulty, sequence, stays_in, seats, exchange_log, offsets, ahead_first, samples_of}
use Rattle.story.specs.Saying.{output_of, unit_answer}
use Rattle.story.proofs.Tells.{Tells, Agrees, fresh-servo}

-- an accepted offset is taken as it is
small : (m : Accepted) → Range m → held_offset m.offset.0 ≡ m.offset.0
small m r = held_same 100000000 m.offset.0 (omega (arith, r.offset, abs-parts m.offset.0, one_side m.offset.0))

-- what a call of this kind writes down, whatever the answer: k stays after it
pub record Plain (s : Settings) (b : Book) (p : Past) (call : Call) (now : ℕ) (e : Event) (k : Stays) : Type 0 where
  pub nows : (u : Answer) → a_now (entry call u) ≡ some now
  pub pulses : (u : Answer) → a_pulse (entry call u) ≡ none
  pub requests : (u : Answer) → a_request_call (entry call u) ≡ none
  pub stays : k ≡ record { now = now; chosen = chosen b; faulty = faulty b; sequence = sequence b }
  pub seats : (u : Answer) → SeatTells (interval_of s.announce) (seats s (entry call u ∷ b)) (record { table = p.table; last = now })
  pub enters : (u : Answer) (said : Said) → said_by u ≡ some said → an_exchange_entry s.own (entry call u) ≡ some (exchange_entry e said)

module _ (s : Settings) (b : Book) (p : Past) (h : Tells s b p) where
  -- ---- a wipe
  pub wiped-tells : (call : Call) (t : Table) (u : Answer) (k : Stays) → is_refusal u ≡ false → a_wipe (entry call u) ≡ some u → k ≡ stays_in (entry call u ∷ b)
      → SeatTells (interval_of s.announce) (seats s (entry call u ∷ b)) (record { table = t; last = k.now }) → Agrees s b p call t u (wipes u k)
  unfolding all since ahead_first samples_of
  wiped-tells call t u k r w st se =
      let no-offsets : offsets (entry call u ∷ b) ≡ [] = ap (λ (o : Option Answer). all an_offset (unless-found o (entry call u ∷ since_wipe b))) w in
      record {
        says = refl;
        tells =
            rw r
            (record {
              stays = st;
              seats = se;
              exchange = rw w fresh-tells;
              servo = rw no-offsets (fresh-servo s);
              measured = rw w;
              since = rw w;
              count = rw w (ap suc h.count);
            });
      }

  -- the output, as the servo has it and as the offsets give it
  pub same-output : (said : Said) → answers.Exchange said p.progress.servo.output ≡ answers.Exchange said (output_of s (offsets b))
  same-output said = ap (λ (z : ℤ). answers.Exchange said (record { 0 = z })) h.servo.put

  module _ (call : Call) (now : ℕ) (e : Event) (k : Stays) (f : Plain s b p call now e k) where
    -- nothing but the exchange changes
    went : (said : Said) (x : Exchange) → wipes_of said ≡ false → then (verdict_of said) offset_by ≡ none → faults_of said ≡ false → ExchangeTells (exchange_entry e said ∷ exchange_log s b) x
        → Agrees s b p call p.table (answers.Exchange said (output_of s (offsets b))) (goes (answers.Exchange said p.progress.servo.output) k (with_exchange p.progress x))
    unfolding all since
    went said x w o y xt =
        let u = answers.Exchange said (output_of s (offsets b)) in
        record {
          says = same-output said;
          tells =
              record {
                stays = simp (f.nows u, y, f.requests u) f.stays;
                seats = rw f.stays (f.seats u);
                exchange = rw (w, f.enters u said refl) xt;
                servo = rw (w, o) h.servo;
                measured = rw (w, o) h.measured;
                since = rw (w, f.pulses u) h.since;
                count = rw w h.count;
              };
        }

    -- an accepted measurement: the servo too
    steered : (m : Accepted) (x : Exchange) → held_offset m.offset.0 ≡ m.offset.0 → ExchangeTells (exchange_entry e (says.Measured m) ∷ exchange_log s b) x
        → Agrees s b p call p.table (answers.Exchange (says.Measured m) (output_of s (m.offset.0 ∷ offsets b)))
        (goes (answers.Exchange (says.Measured m) (progress_after s p.progress x m now).servo.output) k (progress_after s p.progress x m now))
    unfolding all since
    steered m x small xt =
        let o = m.offset.0 in
        let v =
        subst (λ (z : ℤ). ServoTells s.kp s.ki s.sync (limit_of s.limit.0) (o ∷ offsets b) (stepped_servo p.progress.servo z s.sync (limit_of s.limit.0))) (sym small)
        (servo-step s.kp s.ki s.sync (limit_of s.limit.0) (offsets b) p.progress.servo h.servo o) in
        let u = answers.Exchange (says.Measured m) (output_of s (o ∷ offsets b)) in
        record {
          says = ap (λ (z : ℤ). answers.Exchange (says.Measured m) (record { 0 = z })) v.put;
          tells =
              record {
                stays = rw (f.nows u, f.requests u) f.stays;
                seats = rw f.stays (f.seats u);
                exchange = rw (f.enters u (says.Measured m) refl) xt;
                servo = v;
                measured = rw (f.nows u);
                since = rw (f.pulses u) h.since;
                count = h.count;
              };
        }

    -- HUGE for the third time
    faulted : (x : Exchange) → ExchangeTells (exchange_entry e says.HugeFaulty ∷ exchange_log s b) x
        → Agrees s b p call p.table (answers.Exchange says.HugeFaulty (output_of s (offsets b)))
        (goes (answers.Exchange says.HugeFaulty p.progress.servo.output) (faulty_at k.now k) (with_exchange p.progress x))
    unfolding all since
    faulted x xt =
        let u = answers.Exchange says.HugeFaulty (output_of s (offsets b)) in
        record {
          says = same-output says.HugeFaulty;
          tells =
              record {
                stays = rw (f.nows u, f.requests u, f.stays);
                seats = rw f.stays (f.seats u);
                exchange = rw (f.enters u says.HugeFaulty refl) xt;
                servo = h.servo;
                measured = h.measured;
                since = rw (f.pulses u) h.since;
                count = h.count;
              };
        }

    -- one of the exchange's three wipes: the output is 0 after it
    ended : (said : Said) → wipes_of said ≡ true → faults_of said ≡ false
        → Agrees s b p call p.table (answers.Exchange said (record { 0 = pos 0 })) (wipes (answers.Exchange said (record { 0 = pos 0 })) k)
    unfolding all since
    ended said w y =
        let u = answers.Exchange said (record { 0 = pos 0 }) in
        wiped-tells call p.table u k refl (rw w) (rw (f.nows u, y, f.requests u) f.stays) (rw f.stays (f.seats u))

    meet : (a : Told) → ((m : Accepted) → a ≡ Ok (says.Measured m) → held_offset m.offset.0 ≡ m.offset.0) → (x : Exchange)
        → ExchangeTells (log_with e a (exchange_log s b)) (exchange_after (record { answer = a; exchange = x })) → Agrees s b p call p.table (unit_answer s b a) (by_answer s k p.progress a x)
    unfolding by_said
    meet (Err n) g x xt = record { says = refl; tells = h }
    meet (Ok says.Held) g x xt = went says.Held x refl refl refl xt
    meet (Ok says.Paired) g x xt = went says.Paired x refl refl refl xt
    meet (Ok (says.Asked n)) g x xt = went (says.Asked n) x refl refl refl xt
    meet (Ok says.Stamped) g x xt = went says.Stamped x refl refl refl xt
    meet (Ok says.Back) g x xt = ended says.Back refl refl
    meet (Ok says.Neg) g x xt = went says.Neg x refl refl refl xt
    meet (Ok says.Long) g x xt = went says.Long x refl refl refl xt
    meet (Ok says.Huge) g x xt = went says.Huge x refl refl refl xt
    meet (Ok says.HugeFaulty) g x xt = faulted x xt
    meet (Ok says.Path) g x xt = went says.Path x refl refl refl xt
    meet (Ok says.PathWiped) g x xt = ended says.PathWiped refl refl
    meet (Ok (says.Step o)) g x xt = ended (says.Step o) refl refl
    meet (Ok (says.Measured m)) g x xt =
        subst (λ (n : ℕ). Agrees s b p call p.table (unit_answer s b (Ok (says.Measured m))) (goes (answers.Exchange (says.Measured m) (output_after s p.progress m)) k (progress_after s p.progress x m n)))
        (sym (ap (λ (j : Stays). j.now) f.stays)) (steered m x (g m refl) xt)

    pub exchange-told : Agrees s b p call p.table (unit_answer s b (exchange_answer (exchange_log s b) e)) (exchanges s k p.progress (told p.progress.exchange e))
    exchange-told =
        let d = exchange-step (exchange_log s b) p.progress.exchange h.exchange e in
        let a = exchange_answer (exchange_log s b) e in
        let x = (told p.progress.exchange e).exchange in
        subst (λ (t : Told). Agrees s b p call p.table (unit_answer s b a) (by_answer s k p.progress t x)) (sym d.says)
        (meet a (λ m q. small m (accepted-range p.progress.exchange e m (d.says ∙ q))) x
        (subst (λ (t : Told). ExchangeTells (log_with e a (exchange_log s b)) (exchange_after (record { answer = t; exchange = x }))) d.says d.tells))
