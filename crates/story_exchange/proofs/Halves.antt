-- The events before a measurement: what they change of the halves and of the last local stamp, and UNMATCHED and BACK.
use Rattle.std.specs.Prelude.{Ok, Err}
use mathlib.Core.Path.{◌≡◌, refl, sym, ◌∙◌}
use mathlib.Core.List.{List, ◌∷◌}
use mathlib.Core.Option.{Option, none, some}
use mathlib.Core.Bool.{Bool, true, false, cond}
use Prim.Native.Nat.{ℕ}
use lib.Dec.{eqb}
use lib.IntN.{ℤ}
use Rattle.numbers.specs.Stamps.{below_of}
use Rattle.numbers.specs.declared.stamp.Stamp.{Stamp}
use Rattle.numbers.specs.declared.refusal.Refusal.{Refusal}
use Rattle.numbers.specs.declared.refusal.Refusal.TheVariants.{Unmatched}
use Rattle.rules_exchange.specs.declared.Last.{Last}
use Rattle.rules_exchange.specs.declared.Exchange.{Exchange}
use Rattle.rules_exchange.specs.declared.said.Said.{Said}
use Rattle.rules_exchange.specs.declared.said.Said.TheVariants.{Held, Paired, Stamped, Back}
use Rattle.rules_exchange.specs.Halves.{SyncHalf, knows, RequestHalf, asked, stamped, sync_half, request_half, heard}
use Rattle.rules_exchange.specs.Table.{Event, sync, follow_up, requested, sent, puts_sync, puts_request, row_by, if-matching}
use Rattle.rules_exchange.specs.Events.{said_with, refused, with_sync, with_request, with_last, stamp, no_local, is_above, stamp_taken, follows}
use Rattle.rules_exchange.proofs.Promises.{sync-held, request-held}
use Rattle.story_lists.specs.Reading.{all, since, newest, or_else}
use Rattle.story_exchange.specs.Log.{Log, events_in, answers_in, Origin, ASync, a_sync, a_request}
use Rattle.story_exchange.specs.Held.{unspent, held_sync, origin_of, origin, pending, stamp_of, t3, last_local}
use Rattle.story_exchange.specs.Rules.{wants_t1, wants_t3, is_below, unless_back, answer_unbarred}
use Rattle.story_exchange.proofs.Tells.{sync_read, request_read, sync_in, request_in, last_read, Tells, fresh-tells, Agrees}

-- ---- one half does not look at the events of the other
module _ (es : List Event) where
  sync-requested : (n : ℕ) → sync_in (requested n ∷ es) ≡ sync_in es
  unfolding all since
  sync-requested n = go (newest a_sync es)
    where
      go : (s : Option ASync) → sync_read s (origin_of s (requested n ∷ es)) ≡ sync_read s (origin_of s es)
      go none = refl
      go (some s) = refl

  sync-sent : (n : ℕ) (t : Stamp) → sync_in (sent n t ∷ es) ≡ sync_in es
  unfolding all since
  sync-sent n t = go (newest a_sync es)
    where
      go : (s : Option ASync) → sync_read s (origin_of s (sent n t ∷ es)) ≡ sync_read s (origin_of s es)
      go none = refl
      go (some s) = refl

  request-sync : (two : Bool) (n : ℕ) (c : ℤ) (t1 t2 : Stamp) → request_in (sync two n c t1 t2 ∷ es) ≡ request_in es
  unfolding all since
  request-sync two n c t1 t2 = go (newest a_request es)
    where
      go : (r : Option ℕ) → request_read r (stamp_of r (sync two n c t1 t2 ∷ es)) ≡ request_read r (stamp_of r es)
      go none = refl
      go (some m) = refl

  sync-heard : (two : Bool) (n : ℕ) (c : ℤ) (t1 t2 : Stamp) → heard two n c t1 t2 ≡ sync_in (sync two n c t1 t2 ∷ es)
  unfolding all since
  sync-heard true n c t1 t2 = refl
  sync-heard false n c t1 t2 = refl

  request-follow : (n : ℕ) (c : ℤ) (t1 : Stamp) → request_in (follow_up n c t1 ∷ es) ≡ request_in es
  unfolding all since
  request-follow n c t1 = go (newest a_request es)
    where
      go : (r : Option ℕ) → request_read r (stamp_of r (follow_up n c t1 ∷ es)) ≡ request_read r (stamp_of r es)
      go none = refl
      go (some m) = refl

  -- the Follow_Up that was wanted, and the t3
  sync-paired : (s : ASync) (n : ℕ) (c : ℤ) (t1 : Stamp) → newest a_sync es ≡ some s → origin_of (some s) es ≡ none → eqb s.sequence n ≡ true
      → sync_in (follow_up n c t1 ∷ es) ≡ knows s.sequence t1 s.t2 s.correction c
  unfolding all since
  sync-paired s n c t1 p q b = rw (p, not_own s.own _ q, b)
    where
      not_own : (o u : Option Origin) → or_else o u ≡ none → o ≡ none
      not_own none u e = refl
      not_own (some o) u e = e

  request-stamped : (m n : ℕ) (t : Stamp) → newest a_request es ≡ some m → eqb m n ≡ true → request_in (sent n t ∷ es) ≡ stamped m t
  unfolding all since
  request-stamped m n t p b = rw (p, b)

-- ---- BACK
back_read : (l : Last) (t : Stamp) → is_above l t ≡ is_below t (last_read l)
unfolding is_above
back_read l t = go l.taken
  where
    go : (b : Bool) → cond b (below_of t l.stamp) false ≡ is_below t (cond b (some l.stamp) none)
    go true = refl
    go false = refl

module _ (l : Log) (x : Exchange) (h : Tells l x) where
  pub refusing : (e : Event) (n : Refusal) → Agrees l e (Err n) (refused n x)
  refusing e n = record { says = refl; tells = h }

  stamping : (e : Event) (t : Stamp) (s : Said) (y : Exchange) → Agrees l e (Ok s) (said_with s (with_last y t)) → Agrees l e (Ok (unless_back l t s)) (stamp_taken (stamp t) s x y)
  unfolding stamp_taken
  stamping e t s y q = rw (back_read x.last t, h.last) (go (is_below t (last_local l)))
    where
      go : (b : Bool) → Agrees l e (Ok (cond b Back s)) (cond b (said_with Back x) (said_with s (with_last y t)))
      go true = record { says = refl; tells = fresh-tells }
      go false = q

  -- ---- a Sync
  module _ (two : Bool) (n : ℕ) (c : ℤ) (t1 t2 : Stamp) where
    abbrev Come : Event
    Come = sync two n c t1 t2

    pub come : (s : SyncHalf) (r : RequestHalf) → Agrees l Come (answer_unbarred l Come) (follows x (stamp t2) (row_by Come s r))
    unfolding answer_unbarred row_by events_in answers_in all since
    come s r =
        stamping Come t2 Held (with_sync x (heard two n c t1 t2))
        (record {
          says = refl;
          tells =
              record {
                sync = sync-held (heard two n c t1 t2) ∙ sync-heard (unspent l) two n c t1 t2;
                request = h.request ∙ sym (request-sync (unspent l) two n c t1 t2);
                last = refl;
                five = h.five;
                used = h.used;
                huge = h.huge;
                path = h.path;
              };
        })

  -- ---- a request
  pub request : (n : ℕ) (s : SyncHalf) (r : RequestHalf) → Agrees l (requested n) (answer_unbarred l (requested n)) (follows x no_local (row_by (requested n) s r))
  unfolding answer_unbarred row_by events_in answers_in all since stamp_taken
  request n s r =
      record {
        says = refl;
        tells =
            record {
              sync = h.sync ∙ sym (sync-requested (unspent l) n);
              request = request-held (asked n);
              last = h.last;
              five = h.five;
              used = h.used;
              huge = h.huge;
              path = h.path;
            };
      }

  -- ---- a Follow_Up
  module _ (n : ℕ) (c : ℤ) (t1 : Stamp) where
    abbrev Follow : Event
    Follow = follow_up n c t1

    pairing : (s : ASync) → held_sync l ≡ some s → origin_of (some s) (unspent l) ≡ none → eqb s.sequence n ≡ true
        → Agrees l Follow (Ok Paired) (said_with Paired (with_sync x (knows s.sequence t1 s.t2 s.correction c)))
    unfolding events_in answers_in all since
    pairing s p q b =
        record {
          says = refl;
          tells =
              record {
                sync = sync-held (knows s.sequence t1 s.t2 s.correction c) ∙ sym (sync-paired (unspent l) s n c t1 p q b);
                request = h.request ∙ sym (request-follow (unspent l) n c t1);
                last = h.last;
                five = h.five;
                used = h.used;
                huge = h.huge;
                path = h.path;
              };
        }

    pub follow : (r : RequestHalf) → Agrees l Follow (answer_unbarred l Follow) (follows x no_local (row_by Follow (sync_half x.sync) r))
    unfolding answer_unbarred row_by stamp_taken
    follow r = rw h.sync (go (held_sync l) refl (origin l) refl)
      where
        if-wanted : (s : ASync) → held_sync l ≡ some s → origin_of (some s) (unspent l) ≡ none → (b : Bool) → eqb s.sequence n ≡ b
            → Agrees l Follow (cond b (Ok Paired) (Err Unmatched)) (follows x no_local (if-matching b (puts_sync Paired (knows s.sequence t1 s.t2 s.correction c))))
        if-wanted s p q true e = pairing s p q e
        if-wanted s p q false e = refusing Follow Unmatched

        go : (s : Option ASync) → held_sync l ≡ s → (o : Option Origin) → origin_of s (unspent l) ≡ o
            → Agrees l Follow (cond (wants_t1 s o n) (Ok Paired) (Err Unmatched)) (follows x no_local (row_by Follow (sync_read s o) r))
        go none p o q = refusing Follow Unmatched
        go (some s) p none q = if-wanted s p q (eqb s.sequence n) refl
        go (some s) p (some o) q = refusing Follow Unmatched

  -- ---- t3
  module _ (n : ℕ) (t : Stamp) where
    abbrev Sent : Event
    Sent = sent n t

    giving : (m : ℕ) → pending l ≡ some m → eqb m n ≡ true → Agrees l Sent (Ok Stamped) (said_with Stamped (with_last (with_request x (stamped m t)) t))
    unfolding events_in answers_in all since
    giving m p b =
        record {
          says = refl;
          tells =
              record {
                sync = h.sync ∙ sym (sync-sent (unspent l) n t);
                request = request-held (stamped m t) ∙ sym (request-stamped (unspent l) m n t p b);
                last = refl;
                five = h.five;
                used = h.used;
                huge = h.huge;
                path = h.path;
              };
        }

    pub send : (s : SyncHalf) → Agrees l Sent (answer_unbarred l Sent) (follows x (stamp t) (row_by Sent s (request_half x.request)))
    unfolding answer_unbarred row_by
    send s = rw h.request (go (pending l) refl (t3 l))
      where
        if-wanted : (m : ℕ) → pending l ≡ some m → (b : Bool) → eqb m n ≡ b
            → Agrees l Sent (cond b (Ok (unless_back l t Stamped)) (Err Unmatched)) (follows x (stamp t) (if-matching b (puts_request Stamped (stamped m t))))
        if-wanted m p true e = stamping Sent t Stamped (with_request x (stamped m t)) (giving m p e)
        if-wanted m p false e = refusing Sent Unmatched

        go : (r : Option ℕ) → pending l ≡ r → (u : Option Stamp)
            → Agrees l Sent (cond (wants_t3 r u n) (Ok (unless_back l t Stamped)) (Err Unmatched)) (follows x (stamp t) (row_by Sent s (request_read r u)))
        go none p u = refusing Sent Unmatched
        go (some m) p none = if-wanted m p (eqb m n) refl
        go (some m) p (some u) = refusing Sent Unmatched
