-- All that an event can come to. What holds of each of these holds of every event in every state.
use mathlib.Core.Path.{◌≡◌, refl}
use mathlib.Core.Bool.{Bool, true, false, cond}
use Prim.Native.Nat.{ℕ, ◌+◌, ◌<◌, ◌≤◌}
use borrow.Author.Tests.{ltb-true, ltb-false}
use lib.Dec.{ltb, eqb}
use lib.IntN.{ℤ, pos, ◌-ℤ◌}
use Rattle.numbers.specs.declared.stamp.Stamp.{Stamp}
use Rattle.numbers.specs.declared.refusal.Refusal.{Refusal}
use Rattle.numbers.specs.declared.refusal.Refusal.TheVariants.{Correction, Unmatched}
use Rattle.rules_exchange.specs.declared.Exchange.{Exchange}
use Rattle.rules_exchange.specs.declared.said.Said.{Said}
use Rattle.rules_exchange.specs.declared.said.Said.TheVariants.{Held, Paired, Asked, Stamped, Back, Neg, Long, Huge, HugeFaulty, Path, PathWiped, Step}
use Rattle.rules_exchange.specs.Events.{Answered}
use Rattle.rules_measure.specs.declared.Sum.{Sum}
use Rattle.rules_measure.specs.declared.Sum.TheVariants.{Delay, Neg as SumNeg, Long as SumLong}
use Rattle.rules_delays.specs.Delays.{path_of, used_of}
use Rattle.rules_exchange.specs.Halves.{SyncHalf, no_sync, awaits, knows, RequestHalf, no_request, asked, stamped, sync_half, request_half, heard}
use Rattle.rules_measure.specs.Measure.{ns, sum_of, huge_of, is_step}
use Rattle.rules_exchange.specs.Table.{Event, sync, follow_up, requested, sent, delay_resp, Row, puts_sync, puts_request, measures, row_by, if-matching, same_port}
use Rattle.rules_exchange.specs.Events.{said_with, refused, with_sync, with_request, with_last, with_rows, with_delay, Local, no_local, stamp, local, correction_in, is_above, stamp_taken, spent, huge_again, path_again, measured_with, offset_of, accepted, judged, by_sum, finished, follows, tells_of, told}
use Rattle.rules_measure.proofs.Far.{Least, sum-range}
use Rattle.rules_exchange.proofs.Told.{told_is}

-- a finished measurement
pub record Ends (x : Exchange) (Q : Answered → Type 0) : Type 0 where
  pub neg : Q (said_with Neg (with_rows (spent x) 0 0))
  pub long : Q (said_with Long (with_rows (spent x) 0 0))
  pub huge : x.huge < 2 → Q (said_with Huge (with_rows (spent x) (x.huge + 1) 0))
  pub faulty : 2 ≤ x.huge → Q (said_with HugeFaulty (with_rows (spent x) 3 0))
  pub path : x.path < 2 → Q (said_with Path (with_rows (spent x) 0 (x.path + 1)))
  pub wipes : 2 ≤ x.path → Q (said_with PathWiped (with_rows (spent x) 0 3))
  pub step : (forward : ℤ) (delay : ℕ) → Q (said_with (Step (ns (offset_of x forward delay))) (spent x))
  pub measured : (forward : ℤ) (delay : ℕ) → delay ≤ 9999999 → is_step (offset_of x forward delay) ≡ false
      → Q (said_with (measured_with delay (used_of x.delays delay) (offset_of x forward delay)) (with_delay (spent x) delay))

-- any event
pub record Every (x : Exchange) (Q : Answered → Type 0) : Type 0 where
  pub refuses : (n : Refusal) → Q (refused n x)
  pub back : Q (said_with Back x)
  pub holds : (h : SyncHalf) (t2 : Stamp) → Q (said_with Held (with_last (with_sync x h) t2))
  pub pairs : (h : SyncHalf) → Q (said_with Paired (with_sync x h))
  pub asks : (n : ℕ) → Q (said_with (Asked n) (with_request x (asked n)))
  pub stamps : (h : RequestHalf) (t3 : Stamp) → Q (said_with Stamped (with_last (with_request x h) t3))
  pub ends : Ends x Q

module _ (x : Exchange) (Q : Answered → Type 0) (h : Ends x Q) where
  by-step : (forward : ℤ) (delay : ℕ) → delay ≤ 9999999 → Q (accepted (spent x) forward delay)
  unfolding accepted
  by-step forward delay d = go (is_step (offset_of x forward delay)) refl
    where
      go : (b : Bool) → is_step (offset_of x forward delay) ≡ b
          → Q (cond b (said_with (Step (ns (offset_of x forward delay))) (spent x)) (said_with (measured_with delay (used_of x.delays delay) (offset_of x forward delay)) (with_delay (spent x) delay)))
      go true e = h.step forward delay
      go false e = h.measured forward delay d e

  by-huge : Q (huge_again (spent x))
  unfolding huge_again
  by-huge = go (ltb x.huge 2) refl
    where
      go : (b : Bool) → ltb x.huge 2 ≡ b → Q (cond b (said_with Huge (with_rows (spent x) (x.huge + 1) 0)) (said_with HugeFaulty (with_rows (spent x) 3 0)))
      go true e = h.huge (ltb-true x.huge 2 e)
      go false e = h.faulty (ltb-false x.huge 2 e)

  by-path : Q (path_again (spent x))
  unfolding path_again
  by-path = go (ltb x.path 2) refl
    where
      go : (b : Bool) → ltb x.path 2 ≡ b → Q (cond b (said_with Path (with_rows (spent x) 0 (x.path + 1))) (said_with PathWiped (with_rows (spent x) 0 3)))
      go true e = h.path (ltb-true x.path 2 e)
      go false e = h.wipes (ltb-false x.path 2 e)

  by-sum : (forward : ℤ) (s : Sum) → Least s → Q (by_sum (spent x) forward s)
  unfolding judged
  by-sum forward SumNeg l = h.neg
  by-sum forward SumLong l = h.long
  by-sum forward (Delay delay) l = go (huge_of (forward -ℤ pos delay)) (path_of x.delays delay)
    where
      go : (a b : Bool) → Q (cond a (huge_again (spent x)) (cond b (path_again (spent x)) (accepted (spent x) forward delay)))
      go true b = by-huge
      go false true = by-path
      go false false = by-step forward delay l

  pub ends-all : (forward sum : ℤ) → Q (finished x forward sum)
  ends-all forward sum = by-sum forward (sum_of sum) (sum-range sum)

module _ (x : Exchange) (Q : Answered → Type 0) (h : Every x Q) where
  by-stamp : (t : Stamp) (s : Said) (y : Exchange) → Q (said_with s (with_last y t)) → Q (stamp_taken (stamp t) s x y)
  unfolding stamp_taken
  by-stamp t s y q = go (is_above x.last t)
    where
      go : (b : Bool) → Q (cond b (said_with Back x) (said_with s (with_last y t)))
      go true = h.back
      go false = q

  matching : (l : Local) (b : Bool) (r : Row) → Q (follows x l r) → Q (follows x l (if-matching b r))
  matching l true r q = q
  matching l false r q = h.refuses Unmatched

  by_row : (e : Event) (s : SyncHalf) (r : RequestHalf) → Q (follows x (local e) (row_by e s r))
  unfolding row_by stamp_taken
  by_row (sync two n c t1 t2) s r = by-stamp t2 Held (with_sync x (heard two n c t1 t2)) (h.holds (heard two n c t1 t2) t2)
  by_row (follow_up n f t1) no_sync r = h.refuses Unmatched
  by_row (follow_up n f t1) (awaits m t2 c) r = matching no_local (eqb m n) (puts_sync Paired (knows m t1 t2 c f)) (h.pairs (knows m t1 t2 c f))
  by_row (follow_up n f t1) (knows m u t2 c g) r = h.refuses Unmatched
  by_row (requested n) s r = h.asks n
  by_row (sent n t3) s no_request = h.refuses Unmatched
  by_row (sent n t3) s (asked m) =
      matching (stamp t3) (eqb m n) (puts_request Stamped (stamped m t3)) (by-stamp t3 Stamped (with_request x (stamped m t3)) (h.stamps (stamped m t3) t3))
  by_row (sent n t3) s (stamped m u) = h.refuses Unmatched
  by_row (delay_resp n b t4 p own) no_sync r = h.refuses Unmatched
  by_row (delay_resp n b t4 p own) (awaits k t2 c) r = h.refuses Unmatched
  by_row (delay_resp n b t4 p own) (knows k t1 t2 c f) no_request = h.refuses Unmatched
  by_row (delay_resp n b t4 p own) (knows k t1 t2 c f) (asked m) = h.refuses Unmatched
  by_row (delay_resp n b t4 p own) (knows k t1 t2 c f) (stamped m t3) =
      matching no_local (cond (eqb m n) (same_port p own) false) (measures _ _) (ends-all x Q h.ends _ _)

  pub every : (e : Event) → Q (told x e)
  unfolding tells_of
  every e = rw (told_is x e) (go (correction_in e))
    where
      go : (b : Bool) → Q (cond b (refused Correction x) (follows x (local e) (row_by e (sync_half x.sync) (request_half x.request))))
      go true = h.refuses Correction
      go false = by_row e (sync_half x.sync) (request_half x.request)
