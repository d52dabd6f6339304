-- The answer to an event, from the log alone.
use Rattle.std.specs.Prelude.{List, ◌∷◌, Bool, false, cond, ℕ, leb, ltb, eqb, ℤ, pos, ◌+ℤ◌, ◌-ℤ◌, take, Ok, Err}
use Rattle.std.proofs.Math.Option.{Option, none, some}
use Rattle.numbers.specs.Stamps.{below_of}
use Rattle.numbers.specs.Integers.{distance_of}
use Rattle.numbers.specs.Grounds.{first_of, answer_by}
use Rattle.numbers.specs.Orders.{none_due, of_exchange}
use Rattle.numbers.specs.declared.stamp.Stamp.{Stamp}
use Rattle.numbers.specs.declared.refusal.Refusal.TheVariants.{Unmatched}
use Rattle.rules_exchange.specs.Events.{Answer}
use Rattle.rules_exchange.specs.declared.said.Said.{Said}
use Rattle.rules_exchange.specs.declared.said.Said.TheVariants.{Held, Paired, Asked, Stamped, Back, Neg, Long, Huge, HugeFaulty, Path, PathWiped, Step}
use Rattle.rules_measure.specs.declared.Sum.{Sum}
use Rattle.rules_measure.specs.declared.Sum.TheVariants.{Delay, Neg as SumNeg, Long as SumLong}
use Rattle.rules_delays.specs.Median.{lower_middle}
use Rattle.rules_measure.specs.Measure.{ns, forward_of, back_of, sum_of, huge_of, is_step}
use Rattle.rules_exchange.specs.Table.{Event, sync, follow_up, requested, sent, delay_resp, same_port}
use Rattle.rules_exchange.specs.Events.{event_due, measured_with}
use Rattle.story_exchange.specs.Log.{Log, Origin, ASync}
use Rattle.story_exchange.specs.Held.{held_sync, origin, pending, t3, last_local, verdicts, is_huge, is_path, last_two, delays, last_delay, last_used}

-- ---- partners
-- the Sync held is of sequenceId n, and has no t1 yet (rule 7.4)
abbrev pub wants_t1 : Option ASync → Option Origin → ℕ → Bool
wants_t1 none o n = false
wants_t1 (some s) none n = eqb s.sequence n
wants_t1 (some s) (some o) n = false

-- the request pending is n, and has no t3 yet (rule 7.6)
abbrev pub wants_t3 : Option ℕ → Option Stamp → ℕ → Bool
wants_t3 none t n = false
wants_t3 (some m) none n = eqb m n
wants_t3 (some m) (some t) n = false

-- forward, where t1 and t2 are there
abbrev pub forward_by : Option ASync → Option Origin → Option ℤ
forward_by none o = none
forward_by (some s) none = none
forward_by (some s) (some o) = some (forward_of o.t1 s.t2 s.correction o.correction)

-- back, where n is the pending sequenceId and t3 is there
abbrev pub back_by : Option ℕ → Option Stamp → ℕ → Stamp → ℤ → Option ℤ
back_by none t n t4 c = none
back_by (some m) none n t4 c = none
back_by (some m) (some t) n t4 c = cond (eqb m n) (some (back_of t t4 c)) none

-- ---- BACK: below the last local stamp (rule 7.9)
abbrev pub is_below : Stamp → Option Stamp → Bool
is_below t none = false
is_below t (some u) = below_of t u

abbrev pub unless_back : Log → Stamp → Said → Said
unless_back l t s = cond (is_below t (last_local l)) Back s

-- ---- a finished measurement
-- PATH, of the last accepted delay and this one (rule 7.17)
abbrev pub far_from : Option ℕ → ℕ → Bool
far_from none d = false
far_from (some last) d = leb 1_000_000 (distance_of d last)

-- the delay that is used (rules 7.21 and 7.22)
abbrev pub used_by : Option ℕ → List ℕ → ℕ → ℕ
used_by none before d = d
used_by (some u) before d = cond (ltb 1000 (distance_of d u)) (lower_middle (take 5 (d ∷ before))) d

abbrev pub used : Log → ℕ → ℕ
used l d = used_by (last_used l) (delays l) d

-- rule 7.23
abbrev pub offset : Log → ℤ → ℕ → ℤ
offset l forward d = forward -ℤ pos (used l d)

-- rules 7.13 to 7.24
abbrev pub judged : Log → ℤ → Sum → Said
judged l forward SumNeg = Neg
judged l forward SumLong = Long
judged l forward (Delay d) =
    cond (huge_of (forward -ℤ pos d)) (cond (last_two is_huge (verdicts l)) HugeFaulty Huge)
    (cond (far_from (last_delay l) d) (cond (last_two is_path (verdicts l)) PathWiped Path)
    (cond (is_step (offset l forward d)) (Step (ns (offset l forward d)))
    (measured_with d (used l d) (offset l forward d))))

abbrev pub responded : Log → Option ℤ → Option ℤ → Answer
responded l none back = Err Unmatched
responded l (some forward) none = Err Unmatched
responded l (some forward) (some back) = Ok (judged l forward (sum_of (forward +ℤ back)))

-- ---- the whole: what bars the event whatever is held, and then what is held
unfoldable pub answer_unbarred : Log → Event → Answer
answer_unbarred l (sync two n c t1 t2) = Ok (unless_back l t2 Held)
answer_unbarred l (follow_up n c t1) = cond (wants_t1 (held_sync l) (origin l) n) (Ok Paired) (Err Unmatched)
answer_unbarred l (requested n) = Ok (Asked n)
answer_unbarred l (sent n t) = cond (wants_t3 (pending l) (t3 l) n) (Ok (unless_back l t Stamped)) (Err Unmatched)
answer_unbarred l (delay_resp n c t4 p own) =
    cond (same_port p own) (responded l (forward_by (held_sync l) (origin l)) (back_by (pending l) (t3 l) n t4 c)) (Err Unmatched)

unfoldable pub answer : Log → Event → Answer
answer l e = answer_by Err (answer_unbarred l e) (first_of (of_exchange (event_due e none_due)))
