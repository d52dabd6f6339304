-- The refusals, and the row of the table that the unit's memory leads to.
use Rattle.std.specs.Prelude.{Ok, Err}
use mathlib.Core.Path.{◌≡◌, refl, sym, ap, ◌∙◌}
use mathlib.Core.Bool.{Bool, true, false, cond}
use Prim.Native.Nat.{ℕ}
use lib.Dec.{eqb}
use lib.IntN.{ℤ, ◌+ℤ◌}
use Rattle.numbers.specs.Grounds.{Ruling, first_of}
use Rattle.numbers.specs.declared.refusal.Refusal.{Refusal}
use Rattle.numbers.specs.declared.stamp.Stamp.{Stamp}
use Rattle.numbers.specs.declared.refusal.Refusal.TheVariants.{Correction, Unmatched}
use Rattle.wire_layout.specs.declared.message.Port.{Port}
use Rattle.rules_exchange.specs.declared.halves.Sync.{Sync}
use Rattle.rules_exchange.specs.declared.halves.Request.{Request}
use Rattle.rules_exchange.specs.declared.Exchange.{Exchange}
use Rattle.rules_exchange.specs.declared.said.Said.TheVariants.{Held, Paired, Asked, Stamped}
use Rattle.rules_exchange.specs.Halves.{SyncHalf, no_sync, awaits, knows, RequestHalf, no_request, asked, stamped, sync_half, request_half, heard}
use Rattle.rules_exchange.specs.Inner.{sync_waits_for, waits, sync_complete, request_waits_for, pends, request_complete, partners, partners_of}
use Rattle.rules_measure.specs.Measure.{forward_of, back_of}
use Rattle.rules_exchange.specs.Table.{Event, sync, follow_up, requested, sent, delay_resp, Row, unmatched, puts_sync, puts_request, measures, row_by, same_port}
use Rattle.rules_exchange.specs.Events.{Answer, Answered, told, tells_of, stamp, local, correction_of, correction_in, row_of, is_unmatched, unless_barred, said_with, refused, with_sync, with_request, stamp_taken, finished, follows}
use Rattle.rules_delays.proofs.Tests.{never}

-- ---- a refusal that is due, or what the row says
module _ (x : Exchange) (e : Event) where
  -- CORRECTION comes first; UNMATCHED is what the row says by itself
  pub told_is : told x e ≡ cond (correction_in e) (refused Correction x) (tells_of x e)
  unfolding told first_of tells_of
  told_is = go (correction_in e) (row_of x e)
    where
      go : (b : Bool) (r : Row)
          → unless_barred x (cond b (Err Correction) (cond (is_unmatched r) (Err Unmatched) (Ok tt))) (follows x (local e) r)
          ≡ cond b (refused Correction x) (follows x (local e) r)
      go true r = refl
      go false unmatched = refl
      go false (puts_sync s h) = refl
      go false (puts_request s h) = refl
      go false (measures forward back) = refl

  pub told-correction : correction_in e ≡ true → told x e ≡ refused Correction x
  told-correction h = told_is ∙ rw h

  pub told-row : (r : Row) → correction_in e ≡ false → row_of x e ≡ r → told x e ≡ follows x (local e) r
  unfolding tells_of
  told-row r h k = told_is ∙ rw (h, k)

-- ---- CORRECTION, as the code asks it
err-ok : {n : Refusal} → ◌≡◌ {A = Ruling} (Err n) (Ok tt) → ⊥
err-ok z = cc

pub passed : (b : Bool) (v : Ruling) → v ≡ cond b (Err Correction) (Ok tt) → v ≡ Ok tt → b ≡ false
passed true v h g = let z : ◌≡◌ {A = Ruling} (Err Correction) (Ok tt) = sym h ∙ g in cc
passed false v h g = refl

pub told-barred : (x : Exchange) (e : Event) (n : Refusal) (v : Ruling) → v ≡ cond (correction_in e) (Err Correction) (Ok tt) → v ≡ Err n → refused n x ≡ told x e
told-barred x e n v h g = go (correction_in e) refl
  where
    by : Ruling → Answered
    by (Err k) = refused k x
    by (Ok _) = refused n x

    go : (b : Bool) → correction_in e ≡ b → refused n x ≡ told x e
    go true f = let z : ◌≡◌ {A = Ruling} (Err n) (Err Correction) = sym g ∙ h ∙ rw f in ap by z ∙ sym (told-correction x e f)
    go false f = let z : ◌≡◌ {A = Ruling} (Err n) (Ok tt) = sym g ∙ h ∙ rw f in absurd (err-ok z)

-- both clauses of an event
pub clauses : {a : Answer} {y : Exchange} {r : Answered} → ◌≡◌ {A = Answered} (record { answer = a; exchange = y }) r → record { answer : a ≡ r.answer; exchange : y ≡ r.exchange }
clauses h = record { answer = ap (λ (r : Answered). r.answer) h; exchange = ap (λ (r : Answered). r.exchange) h }

-- ---- the states of the halves, from the memory
pub record Waits (s : Sync) (n : ℕ) : Type 0 where
  pub held : s.held ≡ true
  pub half : sync_half s ≡ awaits s.sequence s.t2 s.correction
  pub same : eqb s.sequence n ≡ true

pub waits-is : (s : Sync) (n : ℕ) → sync_waits_for s n ≡ true → Waits s n
unfolding sync_half
waits-is s n h = go s.held refl s.known refl
  where
    go : (a : Bool) → s.held ≡ a → (b : Bool) → s.known ≡ b → Waits s n
    go true p false q = record { held = p; half = rw (p, q); same = rw (p, q) at h }
    go true p true q = absurd (never (rw (p, q) at h))
    go false p b q = absurd (never (rw p at h))

pub knows-is : (s : Sync) → sync_complete s ≡ true → sync_half s ≡ knows s.sequence s.t1 s.t2 s.correction s.follow
unfolding sync_half
knows-is s h = go s.held refl s.known refl
  where
    go : (a : Bool) → s.held ≡ a → (b : Bool) → s.known ≡ b → sync_half s ≡ knows s.sequence s.t1 s.t2 s.correction s.follow
    go true p true q = rw (p, q)
    go true p false q = absurd (never (rw (p, q) at h))
    go false p b q = absurd (never (rw p at h))

pub record Pends (r : Request) (n : ℕ) : Type 0 where
  pub pending : r.pending ≡ true
  pub half : request_half r ≡ asked r.sequence
  pub same : eqb r.sequence n ≡ true

pub pends-is : (r : Request) (n : ℕ) → request_waits_for r n ≡ true → Pends r n
unfolding request_half
pends-is r n h = go r.pending refl r.given refl
  where
    go : (a : Bool) → r.pending ≡ a → (b : Bool) → r.given ≡ b → Pends r n
    go true p false q = record { pending = p; half = rw (p, q); same = rw (p, q) at h }
    go true p true q = absurd (never (rw (p, q) at h))
    go false p b q = absurd (never (rw p at h))

pub record Given (r : Request) (n : ℕ) : Type 0 where
  pub half : request_half r ≡ stamped r.sequence r.t3
  pub same : eqb r.sequence n ≡ true

pub given_is : (r : Request) (n : ℕ) → request_complete r n ≡ true → Given r n
unfolding request_half
given_is r n h = go r.pending refl r.given refl
  where
    go : (a : Bool) → r.pending ≡ a → (b : Bool) → r.given ≡ b → Given r n
    go true p true q = record { half = rw (p, q); same = rw (p, q) at h }
    go true p false q = absurd (never (rw (p, q) at h))
    go false p b q = absurd (never (rw p at h))

-- ---- the rows that need a partner
module _ (s : Sync) (r : RequestHalf) (n : ℕ) (c : ℤ) (t : Stamp) where
  pub follow-row : sync_waits_for s n ≡ true → row_by (follow_up n c t) (sync_half s) r ≡ puts_sync Paired (knows s.sequence t s.t2 s.correction c)
  unfolding row_by
  follow-row h = let w = waits-is s n h in rw (w.half, w.same)

pub follow-none : (s : SyncHalf) (r : RequestHalf) (n : ℕ) (c : ℤ) (t : Stamp) → waits s n ≡ false → row_by (follow_up n c t) s r ≡ unmatched
unfolding row_by
follow-none no_sync r n c t h = refl
follow-none (awaits m t2 d) r n c t h = rw h
follow-none (knows m t1 t2 d f) r n c t h = refl

pub sent-row : (s : SyncHalf) (r : Request) (n : ℕ) (t : Stamp) → request_waits_for r n ≡ true → row_by (sent n t) s (request_half r) ≡ puts_request Stamped (stamped r.sequence t)
unfolding row_by
sent-row s r n t h = let w = pends-is r n h in rw (w.half, w.same)

pub sent-none : (s : SyncHalf) (r : RequestHalf) (n : ℕ) (t : Stamp) → pends r n ≡ false → row_by (sent n t) s r ≡ unmatched
unfolding row_by
sent-none s no_request n t h = refl
sent-none s (asked m) n t h = rw h
sent-none s (stamped m u) n t h = refl

-- what a Delay_Resp needs, one by one
pub record Partners (s : Sync) (r : Request) (n : ℕ) (p own : Port) : Type 0 where
  pub sync : sync_complete s ≡ true
  pub request : request_complete r n ≡ true
  pub port : same_port p own ≡ true

pub partners-are : (s : Sync) (r : Request) (n : ℕ) (p own : Port) → partners_of s r n p own ≡ true → Partners s r n p own
partners-are s r n p own h = go (sync_complete s) refl (request_complete r n) refl
  where
    go : (a : Bool) → sync_complete s ≡ a → (b : Bool) → request_complete r n ≡ b → Partners s r n p own
    go true e true f = record { sync = e; request = f; port = rw (e, f) at h }
    go true e false f = absurd (never (rw (e, f) at h))
    go false e b f = absurd (never (rw e at h))

module _ (n : ℕ) (c : ℤ) (t : Stamp) (p own : Port) where
  pub resp-row : (s : Sync) (r : Request) → partners_of s r n p own ≡ true
      → row_by (delay_resp n c t p own) (sync_half s) (request_half r) ≡ measures (forward_of s.t1 s.t2 s.correction s.follow) (back_of r.t3 t c)
  unfolding row_by
  resp-row s r h =
      let w = partners-are s r n p own h in
      let g = given_is r n w.request in
      rw (knows-is s w.sync, g.half, g.same, w.port)

  pub resp-none : (s : SyncHalf) (r : RequestHalf) → partners s r n p own ≡ false → row_by (delay_resp n c t p own) s r ≡ unmatched
  unfolding row_by
  resp-none no_sync r h = refl
  resp-none (awaits k t2 d) r h = refl
  resp-none (knows k t1 t2 d f) no_request h = refl
  resp-none (knows k t1 t2 d f) (asked m) h = refl
  resp-none (knows k t1 t2 d f) (stamped m t3) h = rw h

-- ---- a Sync and a request, which need no partner
pub told-sync : (x : Exchange) (two : Bool) (n : ℕ) (c : ℤ) (t1 t2 : Stamp) → correction_of c ≡ false
    → told x (sync two n c t1 t2) ≡ stamp_taken (stamp t2) Held x (with_sync x (heard two n c t1 t2))
unfolding row_by
told-sync x two n c t1 t2 h = told-row x (sync two n c t1 t2) (puts_sync Held (heard two n c t1 t2)) h refl

pub told-requested : (x : Exchange) (n : ℕ) → told x (requested n) ≡ said_with (Asked n) (with_request x (asked n))
unfolding row_by stamp_taken
told-requested x n = told-row x (requested n) (puts_request (Asked n) (asked n)) refl refl

-- ---- the half that goes on, as the code writes it
module _ (x : Exchange) (n : ℕ) where
  abbrev paired : Bool → ℤ → Stamp → Exchange
  paired h c t1 =
      record {
        sync = record { held = h; known = true; sequence = x.sync.sequence; t1 = t1; t2 = x.sync.t2; correction = x.sync.correction; follow = c };
        request = x.request;
        last = x.last;
        delays = x.delays;
        huge = x.huge;
        path = x.path;
      }

  pub told-paired : (c : ℤ) (t1 : Stamp) → correction_of c ≡ false → sync_waits_for x.sync n ≡ true → said_with Paired (paired x.sync.held c t1) ≡ told x (follow_up n c t1)
  unfolding stamp_taken
  told-paired c t1 h k =
      ap (λ (b : Bool). said_with Paired (paired b c t1)) (waits-is x.sync n k).held
      ∙ sym (told-row x (follow_up n c t1) _ h (follow-row x.sync (request_half x.request) n c t1 k))

  abbrev given : Bool → Stamp → Exchange
  given p t3 =
      record {
        sync = x.sync;
        request = record { pending = p; given = true; sequence = x.request.sequence; t3 = t3 };
        last = x.last;
        delays = x.delays;
        huge = x.huge;
        path = x.path;
      }

  pub told-stamped : (t3 : Stamp) → request_waits_for x.request n ≡ true → stamp_taken (stamp t3) Stamped x (given x.request.pending t3) ≡ told x (sent n t3)
  told-stamped t3 k =
      ap (λ (b : Bool). stamp_taken (stamp t3) Stamped x (given b t3)) (pends-is x.request n k).pending
      ∙ sym (told-row x (sent n t3) _ refl (sent-row (sync_half x.sync) x.request n t3 k))

-- ---- a Delay_Resp with all that it needs, and one without
module _ (x : Exchange) (n : ℕ) (c : ℤ) (t4 : Stamp) (p own : Port) (h : correction_of c ≡ false) where
  pub told-finished : partners_of x.sync x.request n p own ≡ true
      → told x (delay_resp n c t4 p own)
      ≡ finished x (forward_of x.sync.t1 x.sync.t2 x.sync.correction x.sync.follow)
      (forward_of x.sync.t1 x.sync.t2 x.sync.correction x.sync.follow +ℤ back_of x.request.t3 t4 c)
  told-finished k = told-row x (delay_resp n c t4 p own) _ h (resp-row n c t4 p own x.sync x.request k)

  pub told-stranger : partners_of x.sync x.request n p own ≡ false → told x (delay_resp n c t4 p own) ≡ refused Unmatched x
  told-stranger k = told-row x (delay_resp n c t4 p own) unmatched h (resp-none n c t4 p own (sync_half x.sync) (request_half x.request) k)
