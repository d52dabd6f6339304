-- A finished measurement: the verdicts, the third in a row, the last five delays and the delay last used.
use Rattle.std.specs.Prelude.{Ok, Err}
use mathlib.Core.Path.{◌≡◌, refl, ap, ◌∙◌}
use mathlib.Core.List.{List, [], ◌∷◌}
use mathlib.Core.Option.{Option, none, some}
use mathlib.Core.Bool.{Bool, true, false, not, cond, ◌&&◌}
use Prim.Native.Nat.{ℕ, suc, ◌+◌, min}
use native.Mathlib.Omega.{arith}
use borrow.Author.Tests.{le-ltb, ltb-true, ltb-false}
use lib.Dec.{ltb, eqb}
use lib.IntN.{ℤ, pos, ◌+ℤ◌, ◌-ℤ◌}
use lib.ListN.{take}
use lib.Seq.{take-take}
use Rattle.numbers.specs.declared.stamp.Stamp.{Stamp}
use Rattle.numbers.specs.declared.refusal.Refusal.TheVariants.{Unmatched}
use Rattle.wire_layout.specs.declared.message.Port.{Port}
use Rattle.rules_delays.specs.declared.Delays.{Delays}
use Rattle.rules_exchange.specs.declared.Exchange.{Exchange}
use Rattle.rules_exchange.specs.declared.said.Said.{Said}
use Rattle.rules_exchange.specs.declared.said.Said.TheVariants.{Neg, Long, Huge, HugeFaulty, Path, PathWiped, Step}
use Rattle.rules_measure.specs.declared.Sum.{Sum}
use Rattle.rules_measure.specs.declared.Sum.TheVariants.{Delay, Neg as SumNeg, Long as SumLong}
use Rattle.rules_delays.specs.Delays.{accepted_before, path_by, used_of, used_by as memory_uses, filtered}
use Rattle.rules_exchange.specs.Halves.{no_sync, no_request, sync_half, request_half}
use Rattle.rules_measure.specs.Measure.{ns, forward_of, back_of, sum_of, huge_of, is_step}
use Rattle.rules_exchange.specs.Said.{Verdict}
use Rattle.rules_exchange.specs.Table.{Event, delay_resp, same_port, measures, row_by, if-matching}
use Rattle.rules_exchange.specs.Events.{said_with, refused, with_rows, with_delay, spent, no_local, measured_with, huge_again, path_again, accepted as accepting, judged as judging, by_sum, follows}
use Rattle.rules_exchange.proofs.Promises.{sync-held, request-held}
use Rattle.rules_delays.proofs.Newest.{last-five}
use Rattle.story_lists.specs.Reading.{all, since, first}
use Rattle.story_exchange.specs.Log.{Log, entry, events_in, answers_in, Origin, ASync}
use Rattle.story_exchange.specs.Held.{held_sync, origin, pending, t3, verdicts, is_huge, is_path, last_two, delays, last_delay, last_used}
use Rattle.story_exchange.specs.Rules.{forward_by, back_by, far_from, used_by, used, offset, judged, responded, answer_unbarred}
use Rattle.story_exchange.proofs.Tells.{sync_read, request_read, row, Tells, fresh-tells, Agrees}
use Rattle.story_exchange.proofs.Halves.{refusing}

-- ---- the third in a row: a count up to 3 of the newest that are so tells whether the last two were
two-in-row : (so : Verdict → Bool) (l : List Verdict) → ltb (min 3 (row so l)) 2 ≡ not (last_two so l)
unfolding row last_two
two-in-row so [] = refl
two-in-row so (v ∷ []) = go (so v)
  where
    go : (a : Bool) → ltb (min 3 (cond a 1 0)) 2 ≡ true
    go true = refl
    go false = refl
two-in-row so (v ∷ w ∷ l) = go (so v) (so w)
  where
    go : (a b : Bool) → ltb (min 3 (cond a (suc (cond b (suc (row so l)) 0)) 0)) 2 ≡ not (a && b)
    go true true = le-ltb (min 3 (suc (suc (row so l)))) 2 (omega arith)
    go true false = refl
    go false b = refl

-- ---- the last accepted delay is the first of five, and one that is over 1,000 from the last used is filtered with the four before it
path-read : (l : List ℕ) (d : ℕ) → path_by (take 5 l) d ≡ far_from (first l) d
unfolding path_by
path-read [] d = refl
path-read (a ∷ l) d = refl

five-more : (m : Delays) (l : List ℕ) (d : ℕ) → accepted_before m ≡ take 5 l → accepted_before (filtered m d) ≡ take 5 (d ∷ l)
five-more m l d e = last-five m d ∙ rw e (ap (λ (r : List ℕ). d ∷ r) (take-take 4 5 l (omega arith)))

used-more : (m : Delays) (l : List ℕ) (d u f : ℕ) → accepted_before m ≡ take 5 l → used_of m d ≡ u → used_of (filtered m d) f ≡ used_by (some u) (d ∷ l) f
unfolding filtered memory_uses
used-more m l d u f e g =
    ap (λ (r : List ℕ). memory_uses r (used_of m d) f) (five-more m l d e) ∙ rw (g, take-take 3 4 l (omega arith))

module _ (l : Log) (x : Exchange) (h : Tells l x) (n : ℕ) (c : ℤ) (t4 : Stamp) (p own : Port) where
  abbrev Resp : Event
  Resp = delay_resp n c t4 p own

  -- the log with this measurement, where it was not accepted and does not wipe
  ended : (a : Said) (i j : ℕ) → delays (entry Resp a ∷ l) ≡ delays l → last_used (entry Resp a ∷ l) ≡ last_used l → i ≡ min 3 (row is_huge (verdicts (entry Resp a ∷ l)))
      → j ≡ min 3 (row is_path (verdicts (entry Resp a ∷ l))) → Tells (entry Resp a ∷ l) (with_rows (spent x) i j)
  unfolding events_in all since
  ended a i j ds us hs ps =
      record {
        sync = sync-held no_sync;
        request = request-held no_request;
        last = h.last;
        five = rw ds h.five;
        used = λ d. rw (ds, us) (h.used d);
        huge = hs;
        path = ps;
      }

  huge-again : Agrees l Resp (Ok (cond (last_two is_huge (verdicts l)) HugeFaulty Huge)) (huge_again (spent x))
  unfolding huge_again answers_in all row
  huge-again = go (last_two is_huge (verdicts l)) (ap (λ (k : ℕ). ltb k 2) h.huge ∙ two-in-row is_huge (verdicts l))
    where
      go : (b : Bool) → ltb x.huge 2 ≡ not b
          → Agrees l Resp (Ok (cond b HugeFaulty Huge)) (cond (ltb x.huge 2) (said_with Huge (with_rows (spent x) (x.huge + 1) 0)) (said_with HugeFaulty (with_rows (spent x) 3 0)))
      go true e = rw e (record { says = refl; tells = ended HugeFaulty 3 0 refl refl (omega (arith, ltb-false x.huge 2 e, h.huge)) refl })
      go false e = rw e (record { says = refl; tells = ended Huge (x.huge + 1) 0 refl refl (omega (arith, ltb-true x.huge 2 e, h.huge)) refl })

  path-again : Agrees l Resp (Ok (cond (last_two is_path (verdicts l)) PathWiped Path)) (path_again (spent x))
  unfolding path_again answers_in all row
  path-again = go (last_two is_path (verdicts l)) (ap (λ (k : ℕ). ltb k 2) h.path ∙ two-in-row is_path (verdicts l))
    where
      go : (b : Bool) → ltb x.path 2 ≡ not b
          → Agrees l Resp (Ok (cond b PathWiped Path)) (cond (ltb x.path 2) (said_with Path (with_rows (spent x) 0 (x.path + 1))) (said_with PathWiped (with_rows (spent x) 0 3)))
      go true e = rw e (record { says = refl; tells = fresh-tells })
      go false e = rw e (record { says = refl; tells = ended Path 0 (x.path + 1) refl refl refl (omega (arith, ltb-true x.path 2 e, h.path)) })

  accept : (forward : ℤ) (d : ℕ) (u : ℕ) → used_of x.delays d ≡ u → used l d ≡ u
      → Agrees l Resp (Ok (cond (is_step (forward -ℤ pos u)) (Step (ns (forward -ℤ pos u))) (measured_with d u (forward -ℤ pos u)))) (accepting (spent x) forward d)
  unfolding accepting events_in answers_in all since row
  accept forward d u e f = rw e (go (is_step (forward -ℤ pos u)))
    where
      go : (b : Bool)
          → Agrees l Resp (Ok (cond b (Step (ns (forward -ℤ pos u))) (measured_with d u (forward -ℤ pos u))))
          (cond b (said_with (Step (ns (forward -ℤ pos u))) (spent x)) (said_with (measured_with d u (forward -ℤ pos u)) (with_delay (spent x) d)))
      go true = record { says = refl; tells = fresh-tells }
      go false =
          record {
            says = refl;
            tells =
                record {
                  sync = sync-held no_sync;
                  request = request-held no_request;
                  last = h.last;
                  five = five-more x.delays (delays l) d h.five;
                  used = λ k. used-more x.delays (delays l) d u k h.five e;
                  huge = refl;
                  path = refl;
                };
          }

  judge : (forward : ℤ) (s : Sum) → Agrees l Resp (Ok (judged l forward s)) (by_sum (spent x) forward s)
  unfolding judging answers_in all row
  judge forward SumNeg = record { says = refl; tells = ended Neg 0 0 refl refl refl refl }
  judge forward SumLong = record { says = refl; tells = ended Long 0 0 refl refl refl refl }
  judge forward (Delay d) = rw (h.five, path-read (delays l) d) (go (huge_of (forward -ℤ pos d)) (far_from (last_delay l) d))
    where
      go : (a b : Bool)
          → Agrees l Resp
          (Ok (cond a (cond (last_two is_huge (verdicts l)) HugeFaulty Huge)
          (cond b (cond (last_two is_path (verdicts l)) PathWiped Path)
          (cond (is_step (offset l forward d)) (Step (ns (offset l forward d))) (measured_with d (used l d) (offset l forward d))))))
          (cond a (huge_again (spent x)) (cond b (path_again (spent x)) (accepting (spent x) forward d)))
      go true b = huge-again
      go false true = path-again
      go false false = accept forward d (used l d) (h.used d) refl

  -- ---- a Delay_Resp
  either : (b : Bool) → Agrees l Resp (cond b (Err Unmatched) (Err Unmatched)) (refused Unmatched x)
  either true = refusing l x h Resp Unmatched
  either false = refusing l x h Resp Unmatched

  pub respond : Agrees l Resp (answer_unbarred l Resp) (follows x no_local (row_by Resp (sync_half x.sync) (request_half x.request)))
  unfolding answer_unbarred row_by
  respond = rw (h.sync, h.request) (go (held_sync l) (origin l) (pending l) (t3 l))
    where
      both : (forward back : ℤ) (a b : Bool)
          → Agrees l Resp (cond a (responded l (some forward) (cond b (some back) none)) (Err Unmatched)) (follows x no_local (if-matching (cond b a false) (measures forward back)))
      both forward back true true = judge forward (sum_of (forward +ℤ back))
      both forward back true false = refusing l x h Resp Unmatched
      both forward back false true = refusing l x h Resp Unmatched
      both forward back false false = refusing l x h Resp Unmatched

      go : (s : Option ASync) (o : Option Origin) (r : Option ℕ) (t : Option Stamp)
          → Agrees l Resp (cond (same_port p own) (responded l (forward_by s o) (back_by r t n t4 c)) (Err Unmatched)) (follows x no_local (row_by Resp (sync_read s o) (request_read r t)))
      go none o r t = either (same_port p own)
      go (some s) none r t = either (same_port p own)
      go (some s) (some o) none t = either (same_port p own)
      go (some s) (some o) (some m) none = either (same_port p own)
      go (some s) (some o) (some m) (some t) = both (forward_of o.t1 s.t2 s.correction o.correction) (back_of t t4 c) (same_port p own) (eqb m n)
