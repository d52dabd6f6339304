-- Every call: the machine's answer is the book's, and its past tells the book with one line more.
use Rattle.std.specs.Prelude.{Ok, Err}
use mathlib.Core.Path.{◌≡◌, refl, ap, ◌∙◌, subst}
use mathlib.Core.List.{List, ◌∷◌}
use mathlib.Core.Option.{some}
use mathlib.Core.Bool.{Bool, false, cond}
use Prim.Native.Nat.{ℕ, suc, ◌+◌, ◌%◌, ◌^◌}
use native.Mathlib.Omega.{arith}
use lib.Dec.{ltb}
use lib.ListN.{length}
use Rattle.numbers.specs.declared.stamp.Stamp.{Stamp}
use Rattle.numbers.specs.declared.refusal.Refusal.TheVariants.{Now}
use Rattle.numbers.specs.Grounds.{Ruling}
use Rattle.numbers.specs.Grounds.{Ground, first_of}
use Rattle.numbers.specs.Orders.{Due, of_exchange}
use Rattle.numbers.proofs.Grounds.{clear-cons}
use Rattle.wire_layout.specs.declared.message.Port.{Port}
use Rattle.wire_layout.specs.declared.message.Header.{Header}
use Rattle.wire_layout.specs.declared.message.Body.{Body}
use Rattle.wire_layout.specs.declared.message.Body.TheVariants as bodies
use Rattle.rules_masters.specs.Records.{interval_of}
use Rattle.rules_exchange.specs.declared.said.Said.{Said}
use Rattle.rules_exchange.specs.declared.said.Said.TheVariants as says
use Rattle.rules_exchange.specs.Table.{Event, sync, follow_up, requested, sent, delay_resp, row_by}
use Rattle.rules_exchange.specs.Halves.{asked}
use Rattle.rules_exchange.specs.Events.{field_of, told, tells_of, with_request, stamp_taken}
use Rattle.rules_settings.specs.declared.Settings.{Settings}
use Rattle.unit_core.specs.declared.calls.Call.{Call}
use Rattle.unit_core.specs.declared.calls.Call.TheVariants as calls
use Rattle.unit_core.specs.declared.calls.Answer.{Answer}
use Rattle.unit_core.specs.declared.calls.Answer.TheVariants as answers
use Rattle.unit_core.specs.Effects.{Stays, Effect, wipes, unless, with_now, unlocked}
use Rattle.unit_measuring.specs.Measuring.{by_said}
use Rattle.unit_measuring.specs.Barring.{field_in, message_due, own_due}
use Rattle.unit_measuring.specs.Hearing.{two_step_in, hears_event, hears}
use Rattle.unit_measuring.specs.Asking.{request_due, request_grounds, with_next_sequence, requests, sends}
use Rattle.unit_measuring.proofs.Barring.{unless-told}
use Rattle.unit.specs.Machine.{Past}
use Rattle.story_exchange.specs.Log.{entry as exchange_entry}
use Rattle.story_exchange.proofs.Tells.{Tells as ExchangeTells}
use Rattle.story_exchange.specs.Rules.{answer as exchange_answer, answer_unbarred}
use Rattle.story_exchange.proofs.Refines.{step as exchange-step}
use Rattle.story_masters.specs.History.{passes, log as seats_after}
use Rattle.story_masters.proofs.Refines.{Tells as SeatTells, step-now}
use Rattle.story_lists.specs.Reading.{all, since}
use Rattle.story.specs.Book.{Book, entry, a_happening, happening_by, a_request_call, an_exchange_entry, said_by, chosen, faulty, sequence, stays_in, seats, exchange_log}
use Rattle.story.specs.Saying.{unless_barred, calling, from_master, message_answer}
use Rattle.story.proofs.Tells.{Tells, Agrees}
use Rattle.story.proofs.Exchanging.{Plain, wiped-tells, same-output, exchange-told}

-- where nothing bars a call of the exchange, its now is taken
now-taken : (due : Due) → first_of (of_exchange due) ≡ Ok tt → due Now ≡ false
now-taken due q = (clear-cons _ _ (clear-cons _ _ q).1).0

module _ (s : Settings) (b : Book) (p : Past) (h : Tells s b p) where
  abbrev pub K : Stays
  K = p.stays

  -- a now that is taken
  pub seats-now : (now : ℕ) → ltb now K.now ≡ false
      → SeatTells (interval_of s.announce) (seats_after s.domain s.own s.announce (passes now ∷ all a_happening b)) (record { table = p.table; last = now })
  unfolding seats_after
  seats-now now e =
      subst
      (λ (c : Bool). SeatTells (interval_of s.announce) (seats_after s.domain s.own s.announce (passes now ∷ all a_happening b)) (record { table = p.table; last = cond c K.now now }))
      e (step-now s.domain s.own s.announce (seats s b) (record { table = p.table; last = K.now }) h.seats now)

  stays-now : (now : ℕ) → with_now now K ≡ record { now = now; chosen = chosen b; faulty = faulty b; sequence = sequence b }
  stays-now now = ap (λ (k : Stays). with_now now k) h.stays

  -- the refusals look at what stays through a wipe
  unless-barred : (call : Call) (bars : Stays → List Ground) (a : Answer) (e : Effect) → (first_of (bars K) ≡ Ok tt → Agrees s b p call p.table a e)
      → Agrees s b p call p.table (unless_barred (first_of (bars (stays_in b))) a) (unless (first_of (bars K)) e)
  unless-barred call bars a e f =
      subst (λ (k : Stays). Agrees s b p call p.table (unless_barred (first_of (bars k)) a) (unless (first_of (bars K)) e)) h.stays (go (first_of (bars K)) refl)
    where
      go : (v : Ruling) → first_of (bars K) ≡ v → Agrees s b p call p.table (unless_barred v a) (unless v e)
      go (Ok _) q = f q
      go (Err n) q = record { says = refl; tells = h }

  -- ---- a message other than an Announce
  module _ (now : ℕ) (t2 : Stamp) (hd : Header) where
    abbrev pub Heard : Body → Call
    Heard body = calls.Receive now t2 (record { header = hd; body = body })

    abbrev pub Hears : Body → Type 0
    Hears body = Agrees s b p (Heard body) p.table (message_answer s b now t2 hd body) (hears s K p.progress now t2 hd body)

    plain : (body : Body) (e : Event) → ltb now K.now ≡ false → ((u : Answer) (said : Said) → said_by u ≡ some said → an_exchange_entry s.own (entry (Heard body) u) ≡ some (exchange_entry e said))
        → happening_by now hd body ≡ passes now → Plain s b p (Heard body) now e (with_now now K)
    unfolding all
    plain body e q i c =
        record {
          nows = λ u. refl;
          pulses = λ u. refl;
          requests = λ u. refl;
          stays = stays-now now;
          seats = λ u. rw c (seats-now now q);
          enters = i;
        }

    -- what the master sends
    from-master : (body : Body) (e : Event) (field : Bool) → ((u : Answer) (said : Said) → said_by u ≡ some said → an_exchange_entry s.own (entry (Heard body) u) ≡ some (exchange_entry e said))
        → happening_by now hd body ≡ passes now → Agrees s b p (Heard body) p.table (from_master s b now hd field e) (hears_event s K p.progress now hd field e)
    from-master body e field i c =
        rw (unless-told s (with_now now K) p.progress p.progress.exchange e (message_due s K now hd field) refl refl refl)
        (unless-barred (Heard body) (λ (k : Stays). of_exchange (message_due s k now hd field)) _ _
        (λ q. exchange-told s b p h (Heard body) now e (with_now now K) (plain body e (now-taken (message_due s K now hd field) q) i c)))

    pub hears-sync : (t1 : Stamp) → Hears (bodies.Sync t1)
    unfolding hears
    hears-sync t1 = from-master (bodies.Sync t1) (sync (two_step_in hd) hd.sequence hd.correction t1 t2) (field_in t2 (bodies.Sync t1)) (λ u said i. rw i) refl

    pub hears-follow : (t1 : Stamp) → Hears (bodies.FollowUp t1)
    unfolding hears
    hears-follow t1 = from-master (bodies.FollowUp t1) (follow_up hd.sequence hd.correction t1) (field_in t2 (bodies.FollowUp t1)) (λ u said i. rw i) refl

    pub hears-resp : (t4 : Stamp) (r : Port) → Hears (bodies.DelayResp t4 r)
    unfolding hears
    hears-resp t4 r = from-master (bodies.DelayResp t4 r) (delay_resp hd.sequence hd.correction t4 r s.own) (field_in t2 (bodies.DelayResp t4 r)) (λ u said i. rw i) refl

    pub hears-req : (t : Stamp) → Hears (bodies.DelayReq t)
    unfolding hears
    hears-req t = record { says = refl; tells = h }

  -- ---- t3
  pub sent-told : (now n : ℕ) (t : Stamp) → Agrees s b p (calls.Sent now n t) p.table (calling s b (own_due (stays_in b) now (field_of t)) (sent n t)) (sends s K p.progress now n t)
  unfolding sends all
  sent-told now n t =
      rw (unless-told s (with_now now K) p.progress p.progress.exchange (sent n t) (own_due K now (field_of t)) refl refl refl)
      (unless-barred (calls.Sent now n t) (λ (k : Stays). of_exchange (own_due k now (field_of t))) _ _
      (λ q. exchange-told s b p h (calls.Sent now n t) now (sent n t) (with_now now K)
      (record {
        nows = λ u. refl;
        pulses = λ u. refl;
        requests = λ u. refl;
        stays = stays-now now;
        seats = λ u. seats-now now (now-taken (own_due K now (field_of t)) q);
        enters = λ u said i. rw i;
      })))

  -- ---- a request
  counted : (n : ℕ) → (n % 2 ^ 16 + 1) % 2 ^ 16 ≡ suc n % 2 ^ 16
  counted n = omega arith

  -- the exchange after it
  asked-tells : (n : ℕ) → ExchangeTells (exchange_entry (requested n) (says.Asked n) ∷ exchange_log s b) (with_request p.progress.exchange (asked n))
  unfolding told tells_of row_by stamp_taken first_of exchange_answer answer_unbarred
  asked-tells n = (exchange-step (exchange_log s b) p.progress.exchange h.exchange (requested n)).tells

  pub request-told : (now room : ℕ) → Agrees s b p (calls.Request now room) p.table (calling s b (request_due (stays_in b) now room) (requested (sequence b))) (requests s K p.progress now room)
  unfolding requests all since tells_of row_by stamp_taken by_said first_of exchange_answer answer_unbarred
  request-told now room =
      unless-barred (calls.Request now room) (λ (k : Stays). request_grounds k now room) _ _
      (λ q. record {
        says = ap (λ (k : Stays). answers.Exchange (says.Asked k.sequence) p.progress.servo.output) h.stays ∙ same-output s b p h (says.Asked (sequence b));
        tells =
            record {
              stays = ap (λ (k : Stays). with_next_sequence now k) h.stays ∙ ap (λ (n : ℕ). record { now = now; chosen = chosen b; faulty = faulty b; sequence = n }) (counted (length (all a_request_call b)));
              seats = seats-now now (now-taken (request_due K now room) q);
              exchange =
                  subst (λ (k : Stays). ExchangeTells (exchange_entry (requested k.sequence) (says.Asked k.sequence) ∷ exchange_log s b) (with_request p.progress.exchange (asked K.sequence))) h.stays
                  (asked-tells K.sequence);
              servo = h.servo;
              measured = h.measured;
              since = h.since;
              count = h.count;
            };
      })

  -- ---- the operator's reset
  pub reset-told : Agrees s b p calls.Reset p.table answers.Wiped (wipes answers.Wiped (unlocked K))
  unfolding all since
  reset-told = wiped-tells s b p h calls.Reset p.table answers.Wiped (unlocked K) refl refl (ap (λ (k : Stays). unlocked k) h.stays) h.seats
