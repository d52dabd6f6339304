-- Numbers, by computation. P1 to P12 together (rules 11.1 to 11.12): one statement over the list, each proved where its rules are. Then the formulas
-- without memory, each on both sides of each of its boundaries (rule 11.14); what is expected is worked out by hand from the rule that the line cites.
use Rattle.std.specs.Prelude.{Ok, Err}
use mathlib.Core.Path.{◌≡◌, refl, ap}
use mathlib.Core.Bool.{Bool, true, false}
use mathlib.Core.List.{List, [], ◌∷◌}
use Prim.Native.Nat.{ℕ, ◌+◌}
use lib.IntN.{ℤ, pos, negsuc, neg_ℤ}
use Rattle.numbers.specs.declared.stamp.Stamp.{Stamp}
use Rattle.numbers.specs.declared.refusal.Refusal.TheVariants.{Now, Faulty, Domain, NotMaster, Field, Room, Own, Alternate, Steps}
use Rattle.numbers.specs.Grounds.{Ruling}
use Rattle.rules_exchange.specs.Events.{Answer}
use Rattle.rules_watch.specs.Rules.{Drift}
use Rattle.numbers.specs.Grounds.{first_of}
use Rattle.numbers.specs.Orders.{none_due, of_exchange, of_time}
use Rattle.numbers.specs.Rounding.{rounded_of, half_to_even, floor_z, held_within}
use Rattle.numbers.specs.Stamps.{moment, sound_of, below_of}
use Rattle.wire_layout.specs.declared.message.Header.{Header}
use Rattle.wire_layout.specs.declared.message.Body.TheVariants.{Sync, FollowUp, DelayResp}
use Rattle.rules_masters.specs.declared.record.Record.{Record}
use Rattle.rules_masters.specs.Records.{interval_of, same_key_of, live_of, qualified_of, fresh_record}
use Rattle.rules_masters.specs.Holding.{is_master}
use Rattle.rules_masters.specs.Admitting.{alternate_of, grounds_with}
use Rattle.rules_masters.specs.Comparison.{smaller, better_of}
use Rattle.rules_delays.specs.Median.{count_below, middling, first_middling, lower_middle}
use Rattle.rules_delays.specs.Delays.{path_by, used_by}
use Rattle.rules_measure.specs.declared.Sum.TheVariants as sums
use Rattle.rules_measure.specs.Measure.{cut_of, forward_of, back_of, sum_of, huge_of, is_step}
use Rattle.rules_exchange.specs.declared.said.Said.TheVariants.{Neg, Long}
use Rattle.rules_exchange.specs.Events.{fresh_exchange, measured_with, correction_of}
use Rattle.rules_exchange.proofs.Examples.{Measurement, of, answers_to, p1, p2, p3, p4, p5, p5-long, p6, p9-no-step}
use Rattle.rules_servo.specs.Steps.{integral_with, output_with, fresh_servo, half_gain}
use Rattle.rules_servo.specs.Offsets.{opposites_in, swings_of}
use Rattle.rules_servo.specs.Shows.{sum, squares, near, is_tracking, is_holdover}
use Rattle.rules_servo.proofs.Theorems.{outputs, p7, p8, p9, p10}
use Rattle.rules_fit.specs.Nearest.{nearest_float}
use Rattle.rules_watch.specs.declared.Pulse.TheVariants.{Back, Range, Jump}
use Rattle.rules_watch.specs.declared.judging.Judged.{Judged}
use Rattle.rules_watch.specs.declared.judging.Judged.TheVariants.{Wipe, Take}
use Rattle.rules_watch.specs.Rules.{Stamps, fresh_since, outside_of, followed, on_last, inside}
use Rattle.rules_watch.specs.Watch.{fresh_watch, watch_after, watch_line}
use Rattle.rules_watch.proofs.Examples.{bench, p11, p12}
use Rattle.rules_settings.specs.declared.Given.{Given}
use Rattle.rules_settings.specs.Ranges.{steering_fits, watch_fits, bare_settings}
use Rattle.unit_core.specs.Effects.{Stays}
use Rattle.unit_choosing.specs.Choosing.{time_due}
use Rattle.unit_measuring.specs.Barring.{field_in, message_due, own_due}
use Rattle.unit_measuring.specs.Asking.{request_due}

abbrev pulse : ℕ → ℕ → Stamps
pulse r y = record { reference = pos r; clock = pos (r + y) }

-- what a number of the list is about: measurements from a fresh exchange, outputs of a fresh servo (k 0, limit 100,000), a line of a fresh watch
pub data Met : Type 0 where
  measured : List Answer → Met
  steered : List ℤ → Met
  lined : Drift → Met

abbrev answers_of : List Measurement → Met
answers_of l = measured (answers_to fresh_exchange l)

abbrev outputs_of : ℕ → ℕ → List ℤ → Met
outputs_of kp ki offsets = steered (outputs (fresh_servo kp ki) offsets)

abbrev line_after : List Stamps → Met
line_after l = lined (watch_line bench (watch_after bench fresh_watch l))

abbrev line_of : ℤ → ℤ → ℤ → Met
line_of b d thousand = lined (Ok (record { level = pos 0; slope = b; over = d; n = pos 3; ppm = nearest_float b thousand }))

abbrev saying : ℕ → ℕ → ℤ → Answer
saying delay used offset = Ok (measured_with delay used offset)

-- what the rules give, ..
abbrev pub given : List Met
given =
    answers_of (of (pos 10500) (pos 10000) ∷ [])
    ∷ answers_of (of (pos 10501) (pos 10000) ∷ [])
    ∷ answers_of (of (pos 10503) (pos 10000) ∷ [])
    ∷ answers_of (of (pos 10000) (negsuc 10000) ∷ [])
    ∷ answers_of (of (pos 9999999) (pos 9999999) ∷ [])
    ∷ answers_of (of (pos 9999999) (pos 10000000) ∷ [])
    ∷ answers_of (of (pos 10000) (pos 10000) ∷ of (pos 15000) (pos 15000) ∷ of (pos 15000) (pos 15000) ∷ [])
    ∷ outputs_of 700 300 (pos 250 ∷ (pos 250 ∷ []))
    ∷ outputs_of 700 300 (pos 50000 ∷ [])
    ∷ outputs_of 700 300 (pos 100000000 ∷ [])
    ∷ answers_of (of (pos 100010000) (negsuc 99989999) ∷ [])
    ∷ outputs_of 490 10 (pos 1 ∷ [])
    ∷ outputs_of 490 10 (pos 3 ∷ [])
    ∷ line_after (pulse 0 0 ∷ pulse 1000000000 50 ∷ pulse 2000000000 100 ∷ [])
    ∷ line_after (pulse 0 0 ∷ pulse 1000000000 50 ∷ pulse 2003000000 100 ∷ pulse 3003000000 150 ∷ [])
    ∷ []

-- .. and the numbers to meet
abbrev pub due : List Met
due =
    measured (saying 10250 10250 (pos 250) ∷ [])
    ∷ measured (saying 10250 10250 (pos 251) ∷ [])
    ∷ measured (saying 10252 10252 (pos 251) ∷ [])
    ∷ measured (Ok Neg ∷ [])
    ∷ measured (saying 9999999 9999999 (pos 0) ∷ [])
    ∷ measured (Ok Long ∷ [])
    ∷ measured (saying 10000 10000 (pos 0) ∷ saying 15000 10000 (pos 5000) ∷ saying 15000 15000 (pos 0) ∷ [])
    ∷ steered (pos 250 ∷ (pos 325 ∷ []))
    ∷ steered (pos 50000 ∷ [])
    ∷ steered (pos 100000 ∷ [])
    ∷ measured (saying 10000 10000 (pos 100000000) ∷ [])
    ∷ steered (pos 0 ∷ [])
    ∷ steered (pos 2 ∷ [])
    ∷ line_of (pos 300) (pos 6) (pos 6000)
    ∷ line_of (pos 700) (pos 14) (pos 14000)
    ∷ []

also : {x y : Met} {l m : List Met} → x ≡ y → l ≡ m → x ∷ l ≡ y ∷ m
also p q = rw (p, q)

also-answers : {a b : List Answer} {l m : List Met} → a ≡ b → l ≡ m → measured a ∷ l ≡ measured b ∷ m
also-answers p q = also (ap measured p) q

also-outputs : {a b : List ℤ} {l m : List Met} → a ≡ b → l ≡ m → steered a ∷ l ≡ steered b ∷ m
also-outputs p q = also (ap steered p) q

pub numbers-met : given ≡ due
numbers-met =
    also-answers p1 (also-answers p2 (also-answers p3 (also-answers p4 (also-answers p5 (also-answers p5-long (also-answers p6
    (also-outputs p7 (also-outputs p8 (also-outputs p9 (also-answers p9-no-step (also-outputs p10.0 (also-outputs p10.1
    (also (ap lined p11) (also (ap lined p12) refl))))))))))))))

-- ---- rounding and limits
abbrev minus : ℕ → ℤ
minus n = neg_ℤ (pos n)

-- the fraction over 2, as of a delay, and over 128,000, as of the output
pub half-to-even : (half_to_even 2 (pos 1) ≡ pos 0)  -- rule 1.5: 1/2
    × (half_to_even 2 (pos 2) ≡ pos 1)  -- rule 1.5: 1
    × (half_to_even 2 (pos 3) ≡ pos 2)  -- rule 1.5: 3/2
    × (half_to_even 2 (pos 5) ≡ pos 2)  -- rule 1.5: 5/2
    × (half_to_even 2 (minus 1) ≡ pos 0)  -- rule 1.5: -1/2
    × (half_to_even 2 (minus 3) ≡ minus 2)  -- rule 1.5: -3/2
    × (half_to_even 2 (minus 5) ≡ minus 2)  -- rule 1.5: -5/2
    × (half_to_even 128_000 (pos 63_999) ≡ pos 0)  -- rule 1.5: just under 1/2
    × (half_to_even 128_000 (pos 64_000) ≡ pos 0)  -- rule 1.5: 1/2
    × (half_to_even 128_000 (pos 64_001) ≡ pos 1)  -- rule 1.5: just over 1/2
    × (half_to_even 128_000 (pos 191_999) ≡ pos 1)  -- rule 1.5: just under 3/2
    × (half_to_even 128_000 (pos 192_000) ≡ pos 2)  -- rule 1.5: 3/2
    × (half_to_even 128_000 (pos 192_001) ≡ pos 2)  -- rule 1.5: just over 3/2
    × (half_to_even 128_000 (minus 63_999) ≡ pos 0)  -- rule 1.5: the same below 0
    × (half_to_even 128_000 (minus 64_000) ≡ pos 0)  -- rule 1.5
    × (half_to_even 128_000 (minus 64_001) ≡ minus 1)  -- rule 1.5
    × (half_to_even 128_000 (minus 191_999) ≡ minus 1)  -- rule 1.5
    × (half_to_even 128_000 (minus 192_000) ≡ minus 2)  -- rule 1.5
    × (half_to_even 128_000 (minus 192_001) ≡ minus 2)  -- rule 1.5
unfolding rounded_of
half-to-even = (refl, refl, refl, refl, refl, refl, refl, refl, refl, refl, refl, refl, refl, refl, refl, refl, refl, refl, refl)

pub corrections-cut : (cut_of (pos 0) ≡ pos 0)  -- rules 1.6 and 7.10
    × (cut_of (pos 65_535) ≡ pos 0)  -- rules 1.6 and 7.10
    × (cut_of (pos 65_536) ≡ pos 1)  -- rules 1.6 and 7.10
    × (cut_of (minus 1) ≡ minus 1)  -- rules 1.6 and 7.10
    × (cut_of (minus 65_536) ≡ minus 1)  -- rules 1.6 and 7.10
    × (cut_of (minus 65_537) ≡ minus 2)  -- rules 1.6 and 7.10
unfolding floor_z
corrections-cut = (refl, refl, refl, refl, refl, refl)

pub limits-held : (held_within 100 (pos 99) ≡ pos 99)  -- rule 1.7
    × (held_within 100 (pos 100) ≡ pos 100)  -- rule 1.7
    × (held_within 100 (pos 101) ≡ pos 100)  -- rule 1.7
    × (held_within 100 (minus 99) ≡ minus 99)  -- rule 1.7
    × (held_within 100 (minus 100) ≡ minus 100)  -- rule 1.7
    × (held_within 100 (minus 101) ≡ minus 100)  -- rule 1.7
limits-held = (refl, refl, refl, refl, refl, refl)

-- ---- stamps
abbrev at : ℕ → ℕ → Stamp
at seconds nanoseconds = record { seconds = seconds; nanoseconds = nanoseconds }

pub stamps-sound : (sound_of (at 7 999_999_999) ≡ true)  -- rules 1.2 and 3.5
    × (sound_of (at 7 1_000_000_000) ≡ false)  -- rules 1.2 and 3.5
    × (sound_of (at 281_474_976_710_655 0) ≡ true)  -- rules 1.2 and 3.5: 2^48 - 1
    × (sound_of (at 281_474_976_710_656 0) ≡ false)  -- rules 1.2 and 3.5
unfolding sound_of
stamps-sound = (refl, refl, refl, refl)

pub stamps-below : (below_of (at 7 500) (at 7 501) ≡ true)  -- rule 1.3
    × (below_of (at 7 500) (at 7 500) ≡ false)  -- rule 1.3
    × (below_of (at 7 501) (at 7 500) ≡ false)  -- rule 1.3
    × (below_of (at 7 999_999_999) (at 8 0) ≡ true)  -- rule 1.3
    × (below_of (at 8 0) (at 7 999_999_999) ≡ false)  -- rule 1.3
unfolding below_of
stamps-below = (refl, refl, refl, refl, refl)

-- ---- forward and back: t1 and t2, the Sync's correction and the Follow_Up's; t3 and t4, and the Delay_Resp's
pub forward-told : (forward_of (at 7 500) (at 7 11_000) (pos 0) (pos 0) ≡ pos 10_500)  -- rule 7.11
    × (forward_of (at 7 500) (at 7 500) (pos 0) (pos 0) ≡ pos 0)  -- rule 7.11
    × (forward_of (at 7 500) (at 7 499) (pos 0) (pos 0) ≡ minus 1)  -- rule 7.11
    × (forward_of (at 7 999_999_999) (at 8 0) (pos 0) (pos 0) ≡ pos 1)  -- rule 7.11: over a second's end
    × (forward_of (at 8 0) (at 7 999_999_999) (pos 0) (pos 0) ≡ minus 1)  -- rule 7.11
    × (forward_of (at 0 0) (at 281_474_976_710_655 0) (pos 0) (pos 0) ≡ pos 281_474_976_710_655_000_000_000)  -- rule 1.4: all 48 bits
    × (forward_of (at 7 500) (at 7 11_000) (pos 65_535) (pos 0) ≡ pos 10_500)  -- rule 7.10: each is cut by itself
    × (forward_of (at 7 500) (at 7 11_000) (pos 65_536) (pos 0) ≡ pos 10_499)  -- rule 7.10
    × (forward_of (at 7 500) (at 7 11_000) (minus 1) (pos 0) ≡ pos 10_501)  -- rule 7.10
    × (forward_of (at 7 500) (at 7 11_000) (pos 0) (pos 65_536) ≡ pos 10_499)  -- rule 7.10
    × (forward_of (at 7 500) (at 7 11_000) (pos 32_768) (pos 32_768) ≡ pos 10_500)  -- rule 7.10
    × (forward_of (at 7 500) (at 7 11_000) (minus 1) (minus 1) ≡ pos 10_502)  -- rule 7.10
unfolding forward_of moment floor_z
forward-told = (refl, refl, refl, refl, refl, refl, refl, refl, refl, refl, refl, refl)

pub back-told : (back_of (at 7 500) (at 7 10_500) (pos 0) ≡ pos 10_000)  -- rule 7.12
    × (back_of (at 7 500) (at 7 500) (pos 0) ≡ pos 0)  -- rule 7.12
    × (back_of (at 7 500) (at 7 499) (pos 0) ≡ minus 1)  -- rule 7.12: a t4 below t3 is nothing special
    × (back_of (at 7 500) (at 7 10_500) (pos 65_535) ≡ pos 10_000)  -- rule 7.12
    × (back_of (at 7 500) (at 7 10_500) (pos 65_536) ≡ pos 9_999)  -- rule 7.12
    × (back_of (at 7 500) (at 7 10_500) (minus 1) ≡ pos 10_001)  -- rule 7.12
unfolding back_of moment floor_z
back-told = (refl, refl, refl, refl, refl, refl)

pub corrections-refused : (correction_of (pos 65_535_999_999_999) ≡ false)  -- rule 3.19: a second is 65,536 x 1,000,000,000
    × (correction_of (pos 65_536_000_000_000) ≡ true)  -- rule 3.19
    × (correction_of (minus 65_535_999_999_999) ≡ false)  -- rule 3.19
    × (correction_of (minus 65_536_000_000_000) ≡ true)  -- rule 3.19
corrections-refused = (refl, refl, refl, refl)

-- ---- the verdicts on a measurement
pub sum-judged : (sum_of (minus 1) ≡ sums.Neg)  -- rule 7.13
    × (sum_of (pos 0) ≡ sums.Delay 0)  -- rule 7.13
    × (sum_of (pos 1) ≡ sums.Delay 0)  -- rule 7.15: 1/2
    × (sum_of (pos 3) ≡ sums.Delay 2)  -- rule 7.15: 3/2
    × (sum_of (pos 19_999_997) ≡ sums.Delay 9_999_998)  -- rule 7.15: a half above 9,999,998
    × (sum_of (pos 19_999_998) ≡ sums.Delay 9_999_999)  -- rule 7.14
    × (sum_of (pos 19_999_999) ≡ sums.Long)  -- rule 7.14
unfolding sum_of rounded_of
sum-judged = (refl, refl, refl, refl, refl, refl, refl)

pub huge-judged : (huge_of (pos 999_999_999) ≡ false)  -- rule 7.16
    × (huge_of (pos 1_000_000_000) ≡ true)  -- rule 7.16
    × (huge_of (minus 999_999_999) ≡ false)  -- rule 7.16
    × (huge_of (minus 1_000_000_000) ≡ true)  -- rule 7.16
huge-judged = (refl, refl, refl, refl)

pub path-judged : (path_by [] 9_999_999 ≡ false)  -- rule 7.17: none accepted since the wipe
    × (path_by (5_000_000 ∷ []) 5_999_999 ≡ false)  -- rule 7.17
    × (path_by (5_000_000 ∷ []) 6_000_000 ≡ true)  -- rule 7.17
    × (path_by (5_000_000 ∷ []) 4_000_001 ≡ false)  -- rule 7.17
    × (path_by (5_000_000 ∷ []) 4_000_000 ≡ true)  -- rule 7.17
    × (path_by (5_000_000 ∷ 6_000_000 ∷ []) 6_000_000 ≡ true)  -- rule 7.17: the last one accepted decides
unfolding path_by
path-judged = (refl, refl, refl, refl, refl, refl)

pub step-judged : (is_step (pos 100_000_000) ≡ false)  -- rule 7.24
    × (is_step (pos 100_000_001) ≡ true)  -- rule 7.24
    × (is_step (minus 100_000_000) ≡ false)  -- rule 7.24
    × (is_step (minus 100_000_001) ≡ true)  -- rule 7.24
step-judged = (refl, refl, refl, refl)

-- ---- the filter: the delays accepted, newest first, the one last used, and this one
pub delays-filtered : (used_by [] 0 9_000 ≡ 9_000)  -- rule 7.21: none used since the wipe
    × (used_by (10_000 ∷ 10_000 ∷ []) 10_000 11_000 ≡ 11_000)  -- rule 7.21: 1,000 away
    × (used_by (10_000 ∷ 10_000 ∷ []) 10_000 11_001 ≡ 10_000)  -- rule 7.21: one more: the median
    × (used_by (10_000 ∷ 10_000 ∷ []) 10_000 9_000 ≡ 9_000)  -- rule 7.21
    × (used_by (10_000 ∷ 10_000 ∷ []) 10_000 8_999 ≡ 10_000)  -- rule 7.21
    × (used_by (20_000 ∷ 20_000 ∷ 10_000 ∷ 10_000 ∷ []) 10_000 20_000 ≡ 20_000)  -- rule 7.22: of five
    × (used_by (20_000 ∷ 20_000 ∷ 10_000 ∷ 10_000 ∷ 10_000 ∷ []) 10_000 20_000 ≡ 20_000)  -- rule 7.22: a sixth counts no more
unfolding used_by count_below middling first_middling
delays-filtered = (refl, refl, refl, refl, refl, refl, refl)

pub medians : (lower_middle (7 ∷ []) ≡ 7)  -- rule 7.22
    × (lower_middle (9 ∷ 4 ∷ []) ≡ 4)  -- rule 7.22: of two the lower
    × (lower_middle (4 ∷ 9 ∷ []) ≡ 4)  -- rule 7.22
    × (lower_middle (9 ∷ 4 ∷ 6 ∷ []) ≡ 6)  -- rule 7.22
    × (lower_middle (9 ∷ 4 ∷ 6 ∷ 1 ∷ []) ≡ 4)  -- rule 7.22: of the middle two, 4 and 6, the lower
    × (lower_middle (9 ∷ 4 ∷ 6 ∷ 1 ∷ 8 ∷ []) ≡ 6)  -- rule 7.22
    × (lower_middle (5 ∷ 3 ∷ 5 ∷ 3 ∷ 5 ∷ []) ≡ 5)  -- rule 7.22: equal ones count each
    × (lower_middle (3 ∷ 5 ∷ 3 ∷ 5 ∷ 3 ∷ []) ≡ 3)  -- rule 7.22
unfolding count_below middling first_middling
medians = (refl, refl, refl, refl, refl, refl, refl, refl)

-- ---- masters
-- a header by its flags, its domain and its sender; a record by what the comparison asks of its Announce
abbrev headed : ℕ → ℕ → ℕ → ℕ → Header
headed flags domain clock number =
    record {
      sdo = 0;
      minor = 0;
      domain = domain;
      minorsdo = 0;
      flags = flags;
      correction = pos 0;
      specific = 0;
      source = record { clock = clock; number = number };
      sequence = 0;
      control = 5;
      interval = pos 0;
    }

abbrev announcing : ℕ → ℕ → ℕ → ℕ → ℕ → ℕ → ℕ → ℕ → ℕ → Record
announcing priority1 class accuracy variance priority2 grandmaster steps clock number =
    record {
      announce =
          record {
            header = headed 0 0 clock number;
            stamp = at 0 0;
            offer =
                record {
                  utc = pos 37;
                  reserved = 0;
                  priority1 = priority1;
                  class = class;
                  accuracy = accuracy;
                  variance = variance;
                  priority2 = priority2;
                  grandmaster = grandmaster;
                  steps = steps;
                  time = 32;
                };
          };
      held = 2;
      newer = 0;
      older = 0;
    }

-- of different grandmasters, by what is then asked, in its order
abbrev offering : ℕ → ℕ → ℕ → ℕ → ℕ → ℕ → Record
offering priority1 class accuracy variance priority2 grandmaster = announcing priority1 class accuracy variance priority2 grandmaster 0 1 1

-- of one grandmaster, by a priority1, which is not asked then, and by what is: steps, the sender's clock identity and its port number
abbrev sending : ℕ → ℕ → ℕ → ℕ → Record
sending priority1 steps clock number = announcing priority1 6 33 20_061 128 7 steps clock number

-- each rank by one, with every later rank the other way; the first is better, and the second is not
pub grandmasters-compared : (better_of (offering 8 9 9 9 9 9) (offering 9 8 8 8 8 8) ≡ true)  -- rule 5.9: priority1
    × (better_of (offering 9 8 8 8 8 8) (offering 8 9 9 9 9 9) ≡ false)  -- rule 5.9
    × (better_of (offering 5 8 9 9 9 9) (offering 5 9 8 8 8 8) ≡ true)  -- rule 5.9: clock class
    × (better_of (offering 5 9 8 8 8 8) (offering 5 8 9 9 9 9) ≡ false)  -- rule 5.9
    × (better_of (offering 5 5 8 9 9 9) (offering 5 5 9 8 8 8) ≡ true)  -- rule 5.9: accuracy
    × (better_of (offering 5 5 9 8 8 8) (offering 5 5 8 9 9 9) ≡ false)  -- rule 5.9
    × (better_of (offering 5 5 5 8 9 9) (offering 5 5 5 9 8 8) ≡ true)  -- rule 5.9: log variance
    × (better_of (offering 5 5 5 9 8 8) (offering 5 5 5 8 9 9) ≡ false)  -- rule 5.9
    × (better_of (offering 5 5 5 5 8 9) (offering 5 5 5 5 9 8) ≡ true)  -- rule 5.9: priority2
    × (better_of (offering 5 5 5 5 9 8) (offering 5 5 5 5 8 9) ≡ false)  -- rule 5.9
    × (better_of (offering 5 5 5 5 5 8) (offering 5 5 5 5 5 9) ≡ true)  -- rule 5.9: the grandmaster's identity
    × (better_of (offering 5 5 5 5 5 9) (offering 5 5 5 5 5 8) ≡ false)  -- rule 5.9
unfolding better_of smaller
grandmasters-compared = (refl, refl, refl, refl, refl, refl, refl, refl, refl, refl, refl, refl)

pub senders-compared : (better_of (sending 9 8 9 9) (sending 8 9 8 8) ≡ true)  -- rule 5.10: stepsRemoved, whatever priority1 says
    × (better_of (sending 8 9 8 8) (sending 9 8 9 9) ≡ false)  -- rule 5.10
    × (better_of (sending 9 5 8 9) (sending 8 5 9 8) ≡ true)  -- rule 5.10: the sender's clock identity
    × (better_of (sending 8 5 9 8) (sending 9 5 8 9) ≡ false)  -- rule 5.10
    × (better_of (sending 9 5 5 8) (sending 8 5 5 9) ≡ true)  -- rule 5.10: its port number
    × (better_of (sending 8 5 5 9) (sending 9 5 5 8) ≡ false)  -- rule 5.10
    × (better_of (sending 8 5 5 5) (sending 9 5 5 5) ≡ false)  -- rule 5.10: one sender is not better than itself
unfolding better_of smaller
senders-compared = (refl, refl, refl, refl, refl, refl, refl)

-- a record by its arrivals: how many, the newer and the older
abbrev arrived : ℕ → ℕ → ℕ → Record
arrived held newer older = record { announce = fresh_record.announce; held = held; newer = newer; older = older }

pub records-live : (live_of 9_000 (interval_of 0) (arrived 1 5_000 0) ≡ true)  -- rules 5.3 and 5.4: 4 intervals of 1,000 ms
    × (live_of 9_001 (interval_of 0) (arrived 1 5_000 0) ≡ false)  -- rules 5.3 and 5.4
    × (live_of 69_000 (interval_of 4) (arrived 1 5_000 0) ≡ true)  -- rules 5.3 and 5.4: of 16,000 ms
    × (live_of 69_001 (interval_of 4) (arrived 1 5_000 0) ≡ false)  -- rules 5.3 and 5.4
    × (live_of 5_000 (interval_of 0) (arrived 0 5_000 0) ≡ false)  -- rules 5.3 and 5.4: no arrival
unfolding live_of
records-live = (refl, refl, refl, refl, refl)

pub records-qualified : (qualified_of 9_000 (interval_of 0) (arrived 2 8_000 5_000) ≡ true)  -- rule 5.8: 4 intervals after the older
    × (qualified_of 9_001 (interval_of 0) (arrived 2 8_000 5_000) ≡ false)  -- rule 5.8
    × (qualified_of 9_000 (interval_of 0) (arrived 2 6_000 6_000) ≡ true)  -- rule 5.8: 3 after the newer
    × (qualified_of 9_001 (interval_of 0) (arrived 2 6_000 6_000) ≡ false)  -- rule 5.8
    × (qualified_of 9_000 (interval_of 0) (arrived 1 9_000 9_000) ≡ false)  -- rule 5.8: one arrival
unfolding qualified_of
records-qualified = (refl, refl, refl, refl, refl)

-- ---- the servo, fresh, with Kp 700 and Ki 300: the offset, the exponent k, and the limit of 100,000 ppb in units
abbrev integral : ℤ → ℕ → ℤ
integral offset k = integral_with (fresh_servo 700 300) offset k 12_800_000_000

abbrev output : ℤ → ℤ
output offset = output_with (fresh_servo 700 300) offset 0 12_800_000_000

pub integrals-held : (integral (pos 1) 0 ≡ pos 38_400)  -- rule 8.2
    × (integral (pos 1) 7 ≡ pos 300)  -- rule 8.2
    × (integral (pos 333_333) 0 ≡ pos 12_799_987_200)  -- rule 8.2
    × (integral (pos 333_334) 0 ≡ pos 12_800_000_000)  -- rule 8.2: held
    × (integral (minus 333_333) 0 ≡ minus 12_799_987_200)  -- rule 8.2
    × (integral (minus 333_334) 0 ≡ minus 12_800_000_000)  -- rule 8.2: held
unfolding integral_with
integrals-held = (refl, refl, refl, refl, refl, refl)

pub outputs-held : (output (pos 99_999) ≡ pos 99_999)  -- rule 8.3
    × (output (pos 100_000) ≡ pos 100_000)  -- rule 8.3
    × (output (pos 100_001) ≡ pos 100_000)  -- rule 8.3: held
    × (output (minus 99_999) ≡ minus 99_999)  -- rule 8.3
    × (output (minus 100_000) ≡ minus 100_000)  -- rule 8.3
    × (output (minus 100_001) ≡ minus 100_000)  -- rule 8.3: held
unfolding output_with integral_with rounded_of
outputs-held = (refl, refl, refl, refl, refl, refl)

-- ---- what is shown, and the swing
pub holdover-shown : (is_holdover true 5_000 15_000 ≡ false)  -- rule 6.2
    × (is_holdover true 5_000 15_001 ≡ true)  -- rule 6.2
    × (is_holdover false 5_000 15_001 ≡ false)  -- rule 6.2: nothing measured since the wipe
holdover-shown = (refl, refl, refl)

abbrev ten : ℤ → ℤ → ℤ → ℤ → ℤ → ℤ → ℤ → ℤ → ℤ → ℤ → List ℤ
ten a b c d e f g h i j = a ∷ b ∷ c ∷ d ∷ e ∷ f ∷ g ∷ h ∷ i ∷ j ∷ []

abbrev all_of : ℤ → List ℤ
all_of x = ten x x x x x x x x x x

pub tracking-shown : (is_tracking (all_of (pos 99)) ≡ true)  -- rule 6.3
    × (is_tracking (all_of (pos 100)) ≡ false)  -- rule 6.3
    × (is_tracking (all_of (minus 99)) ≡ true)  -- rule 6.3
    × (is_tracking (all_of (minus 100)) ≡ false)  -- rule 6.3
    × (is_tracking (ten (pos 10) (minus 10) (pos 10) (minus 10) (pos 7) (minus 7) (pos 0) (pos 0) (pos 0) (pos 0)) ≡ true)  -- rule 6.3: 10 x 498 - 0
    × (is_tracking (ten (pos 10) (minus 10) (pos 10) (minus 10) (pos 5) (minus 5) (pos 5) (minus 5) (pos 0) (pos 0)) ≡ false)  -- rule 6.3: 10 x 500 - 0
    × (is_tracking (pos 0 ∷ pos 0 ∷ pos 0 ∷ pos 0 ∷ pos 0 ∷ pos 0 ∷ pos 0 ∷ pos 0 ∷ pos 0 ∷ []) ≡ false)  -- rule 6.3: nine
unfolding is_tracking near sum squares
tracking-shown = (refl, refl, refl, refl, refl, refl, refl)

pub swings-counted : (swings_of (ten (pos 1) (minus 1) (pos 1) (minus 1) (pos 1) (minus 1) (pos 1) (pos 1) (pos 1) (pos 1)) ≡ true)  -- rule 8.6: six
    × (swings_of (ten (pos 1) (minus 1) (pos 1) (minus 1) (pos 1) (minus 1) (minus 1) (minus 1) (minus 1) (minus 1)) ≡ false)  -- rule 8.6: five
    × (swings_of (ten (pos 1) (minus 1) (pos 1) (minus 1) (pos 1) (minus 1) (pos 0) (pos 1) (pos 1) (pos 1)) ≡ false)  -- rule 8.6: a zero has no sign
unfolding opposites_in
swings-counted = (refl, refl, refl)

pub gains-halved : (half_gain 701 ≡ 350)  -- rule 8.7
    × (half_gain 2 ≡ 1)  -- rule 8.7
    × (half_gain 1 ≡ 1)  -- rule 8.7
gains-halved = (refl, refl, refl)

-- ---- a second pulse, with the settings of the bench (rule 4.14): spikes beyond 1 ms, jumps beyond 2 ms, a reference interval off by 2 ms at most
pub ticks-refused : (outside_of (minus 1) ≡ true)  -- rule 3.20
    × (outside_of (pos 0) ≡ false)  -- rule 3.20
    × (outside_of (pos 4_611_686_018_427_387_903) ≡ false)  -- rule 3.20: 2^62 - 1
    × (outside_of (pos 4_611_686_018_427_387_904) ≡ true)  -- rule 3.20
ticks-refused = (refl, refl, refl, refl)

-- the sample before has the reference of 5 s and the first y; then come the reference and the y of this one
abbrev judged_after : ℤ → ℕ → ℤ → Judged
judged_after before reference y = followed bench (pos 0) (record { reference = pos 5_000_000_000; y = before; valid = true }) (pos reference) y

abbrev valid : ℕ → ℤ → Judged
valid reference y = Take (pos 0) (record { reference = pos reference; y = y; valid = true })

abbrev invalid : ℕ → ℤ → Judged
invalid reference y = Take (pos 0) (record { reference = pos reference; y = y; valid = false })

pub pulses-judged : (judged_after (pos 0) 5_000_000_000 (pos 0) ≡ Wipe Back)  -- rule 9.4
    × (judged_after (pos 0) 5_000_000_001 (pos 0) ≡ invalid 5_000_000_001 (pos 0))  -- rule 9.4
    × (judged_after (pos 999_999_000) 6_000_000_000 (pos 999_999_999) ≡ valid 6_000_000_000 (pos 999_999_999))  -- rule 9.5
    × (judged_after (pos 999_999_000) 6_000_000_000 (pos 1_000_000_000) ≡ Wipe Range)  -- rule 9.5
    × (judged_after (minus 999_999_000) 6_000_000_000 (minus 999_999_999) ≡ valid 6_000_000_000 (minus 999_999_999))  -- rule 9.5
    × (judged_after (minus 999_999_000) 6_000_000_000 (minus 1_000_000_000) ≡ Wipe Range)  -- rule 9.5
    × (judged_after (pos 500) 6_000_000_000 (pos 2_000_500) ≡ invalid 6_000_000_000 (pos 2_000_500))  -- rule 9.6
    × (judged_after (pos 500) 6_000_000_000 (pos 2_000_501) ≡ Wipe Jump)  -- rule 9.6
    × (judged_after (pos 500) 6_000_000_000 (minus 1_999_500) ≡ invalid 6_000_000_000 (minus 1_999_500))  -- rule 9.6
    × (judged_after (pos 500) 6_000_000_000 (minus 1_999_501) ≡ Wipe Jump)  -- rule 9.6
    × (judged_after (pos 500) 6_000_000_000 (pos 1_000_500) ≡ valid 6_000_000_000 (pos 1_000_500))  -- rule 9.9: the spike
    × (judged_after (pos 500) 6_000_000_000 (pos 1_000_501) ≡ invalid 6_000_000_000 (pos 1_000_501))  -- rule 9.9
    × (judged_after (pos 500) 6_000_000_000 (minus 999_500) ≡ valid 6_000_000_000 (minus 999_500))  -- rule 9.9
    × (judged_after (pos 500) 6_000_000_000 (minus 999_501) ≡ invalid 6_000_000_000 (minus 999_501))  -- rule 9.9
    × (judged_after (pos 0) 6_002_000_000 (pos 0) ≡ valid 6_002_000_000 (pos 0))  -- rule 9.9: the tolerance
    × (judged_after (pos 0) 6_002_000_001 (pos 0) ≡ invalid 6_002_000_001 (pos 0))  -- rule 9.9
    × (judged_after (pos 0) 5_998_000_000 (pos 0) ≡ valid 5_998_000_000 (pos 0))  -- rule 9.9
    × (judged_after (pos 0) 5_997_999_999 (pos 0) ≡ invalid 5_997_999_999 (pos 0))  -- rule 9.9
pulses-judged = (refl, refl, refl, refl, refl, refl, refl, refl, refl, refl, refl, refl, refl, refl, refl, refl, refl, refl)

pub first_taken : inside bench fresh_since (pos 5_000_000_000) (pos 9_000_000_000)
    ≡ Take (pos 4_000_000_000) (record { reference = pos 5_000_000_000; y = pos 0; valid = true })  -- rules 9.2 and 9.3
unfolding on_last
first_taken = refl

-- ---- what bars a call. The unit's now is 5,000 and its domain 0; the master, where it has one, is port 1 of the clock 8
abbrev holding : (some faulty : Bool) → Stays
holding some faulty = record { now = 5_000; chosen = record { some = some; sender = record { clock = 8; number = 1 } }; faulty = faulty; sequence = 0 }

abbrev heard : Stays → ℕ → Header → Bool → Ruling
heard k now h field = first_of (of_exchange (message_due bare_settings k now h field))

pub messages-barred : (heard (holding true false) 5_000 (headed 0 0 8 1) false ≡ Ok tt)  -- rule 3.9: an equal now
    × (heard (holding true false) 4_999 (headed 0 0 8 1) false ≡ Err Now)  -- rule 3.9
    × (heard (holding true false) 5_000 (headed 0 0 8 2) false ≡ Err NotMaster)  -- rule 3.16: another port of it
    × (heard (holding true false) 5_000 (headed 0 0 9 1) false ≡ Err NotMaster)  -- rule 3.16
    × (heard (holding false false) 5_000 (headed 0 0 8 1) false ≡ Err NotMaster)  -- rule 3.16: there is none
    × (heard (holding true false) 5_000 (headed 0 1 9 1) false ≡ Err Domain)  -- rule 3.57: 10 before 16, ..
    × (heard (holding true true) 5_000 (headed 0 1 9 1) false ≡ Err Faulty)  -- rule 3.57: .. 18 before it, ..
    × (heard (holding true true) 4_999 (headed 0 1 9 1) false ≡ Err Now)  -- rule 3.57: .. then 9, ..
    × (heard (holding true true) 4_999 (headed 0 1 9 1) true ≡ Err Field)  -- rule 3.57: .. and 5 first
unfolding first_of is_master same_key_of
messages-barred = (refl, refl, refl, refl, refl, refl, refl, refl, refl)

-- by t2 and the message: one nanosecond or one second too many
pub fields-asked : (field_in (at 7 999_999_999) (Sync (at 7 999_999_999)) ≡ false)  -- rule 3.5
    × (field_in (at 7 1_000_000_000) (Sync (at 7 0)) ≡ true)  -- rule 3.57: t2
    × (field_in (at 7 0) (Sync (at 7 1_000_000_000)) ≡ true)  -- rule 3.67: t1
    × (field_in (at 7 1_000_000_000) (FollowUp (at 7 0)) ≡ false)  -- rule 3.57: it has no t2
    × (field_in (at 7 0) (FollowUp (at 281_474_976_710_656 0)) ≡ true)  -- rule 3.67
    × (field_in (at 7 1_000_000_000) (DelayResp (at 7 0) (record { clock = 8; number = 1 })) ≡ false)  -- rule 3.57
    × (field_in (at 7 0) (DelayResp (at 7 1_000_000_000) (record { clock = 8; number = 1 })) ≡ true)  -- rule 3.67: t4
unfolding sound_of
fields-asked = (refl, refl, refl, refl, refl, refl, refl)

abbrev asking : Stays → (now room : ℕ) → Ruling
asking k now room = first_of (of_exchange (request_due k now room))

abbrev sending-off : Stays → ℕ → Bool → Ruling
sending-off k now field = first_of (of_exchange (own_due k now field))

pub own-calls-barred : (asking (holding true false) 5_000 58 ≡ Ok tt)  -- rules 3.7 and 3.9: 14 octets and 44
    × (asking (holding true false) 5_000 57 ≡ Err Room)  -- rule 3.7
    × (asking (holding true false) 5_000 13 ≡ Err Room)  -- rule 3.7
    × (asking (holding false false) 5_000 57 ≡ Err NotMaster)  -- rule 3.60: 16 before 7, ..
    × (asking (holding false true) 5_000 57 ≡ Err Faulty)  -- rule 3.60: .. 18 before it, ..
    × (asking (holding false true) 4_999 57 ≡ Err Now)  -- rule 3.60: .. and 9 first
    × (sending-off (holding true false) 5_000 false ≡ Ok tt)  -- rule 3.61
    × (sending-off (holding false false) 5_000 false ≡ Err NotMaster)  -- rule 3.61
    × (sending-off (holding false true) 4_999 true ≡ Err Field)  -- rule 3.61: 5 first
unfolding first_of
own-calls-barred = (refl, refl, refl, refl, refl, refl, refl, refl, refl)

pub times-barred : (first_of (of_time (time_due 5_000 5_000)) ≡ Ok tt)  -- rule 3.62
    × (first_of (of_time (time_due 5_000 4_999)) ≡ Err Now)  -- rule 3.62
unfolding first_of
times-barred = (refl, refl)

-- an Announce at `now` by its flags, domain, sender and stepsRemoved, where the unit is port 1 of the clock 7 and nothing held bars it
abbrev announced : (now flags domain clock number steps : ℕ) → Ruling
announced now flags domain clock number steps =
    first_of (grounds_with (record { header = headed flags domain clock number; stamp = at 0 0; offer = (announcing 1 6 33 20_061 128 8 steps 8 1).announce.offer }) 0 (record { clock = 7; number = 1 }) 5_000 now none_due)

pub announces-barred : (announced 5_000 0 0 8 1 0 ≡ Ok tt)  -- rule 3.9
    × (announced 4_999 0 0 8 1 0 ≡ Err Now)  -- rule 3.9
    × (announced 5_000 0 1 8 1 0 ≡ Err Domain)  -- rule 3.10
    × (announced 5_000 0 0 7 2 0 ≡ Err Own)  -- rule 3.11: whatever its port
    × (announced 5_000 256 0 8 1 0 ≡ Err Alternate)  -- rules 2.3 and 3.12: the lowest bit of octet 6
    × (announced 5_000 65_279 0 8 1 0 ≡ Ok tt)  -- rules 2.3 and 3.12: all other bits
    × (announced 5_000 0 0 8 1 254 ≡ Ok tt)  -- rule 3.13
    × (announced 5_000 0 0 8 1 255 ≡ Err Steps)  -- rule 3.13
    × (announced 5_000 256 0 8 1 255 ≡ Err Alternate)  -- rule 3.56: 12 before 13, ..
    × (announced 5_000 256 0 7 1 255 ≡ Err Own)  -- rule 3.56: .. 11 before it, ..
    × (announced 5_000 256 1 7 1 255 ≡ Err Domain)  -- rule 3.56: .. then 10, ..
    × (announced 4_999 256 1 7 1 255 ≡ Err Now)  -- rule 3.56: .. and 9 first
unfolding first_of alternate_of
announces-barred = (refl, refl, refl, refl, refl, refl, refl, refl, refl, refl, refl, refl)

-- ---- the settings: announce and sync exponents, Kp, Ki, limit; then W, minimum, holdoff, tolerance, spike, jump
abbrev given-as : ℤ → ℤ → ℤ → ℤ → ℤ → ℤ → ℤ → ℤ → ℤ → ℤ → ℤ → Given
given-as announce sync kp ki limit window minimum holdoff tolerance spike jump =
    record {
      domain = 0;
      own = record { clock = 7; number = 1 };
      announce = announce;
      sync = sync;
      kp = kp;
      ki = ki;
      limit = limit;
      window = window;
      minimum = minimum;
      holdoff = holdoff;
      tolerance = tolerance;
      spike = spike;
      jump = jump;
    }

abbrev steers : ℤ → ℤ → ℤ → ℤ → ℤ → Bool
steers announce sync kp ki limit = steering_fits (given-as announce sync kp ki limit (pos 0) (pos 0) (pos 0) (pos 0) (pos 0) (pos 0))

pub steering-ranges : (steers (pos 0) (pos 0) (pos 100) (pos 10) (pos 1) ≡ true)  -- rules 4.3 to 4.7: the lower ends
    × (steers (pos 4) (pos 7) (pos 1_000) (pos 500) (pos 100_000) ≡ true)  -- rules 4.3 to 4.7: the upper ends
    × (steers (minus 1) (pos 0) (pos 100) (pos 10) (pos 1) ≡ false)  -- rule 4.3
    × (steers (pos 5) (pos 0) (pos 100) (pos 10) (pos 1) ≡ false)  -- rule 4.3
    × (steers (pos 0) (minus 1) (pos 100) (pos 10) (pos 1) ≡ false)  -- rule 4.4
    × (steers (pos 0) (pos 8) (pos 100) (pos 10) (pos 1) ≡ false)  -- rule 4.4
    × (steers (pos 0) (pos 0) (pos 99) (pos 10) (pos 1) ≡ false)  -- rule 4.5
    × (steers (pos 0) (pos 0) (pos 1_001) (pos 10) (pos 1) ≡ false)  -- rule 4.5
    × (steers (pos 0) (pos 0) (pos 100) (pos 9) (pos 1) ≡ false)  -- rule 4.6
    × (steers (pos 0) (pos 0) (pos 100) (pos 501) (pos 1) ≡ false)  -- rule 4.6
    × (steers (pos 0) (pos 0) (pos 100) (pos 10) (pos 0) ≡ false)  -- rule 4.7
    × (steers (pos 0) (pos 0) (pos 100) (pos 10) (pos 100_001) ≡ false)  -- rule 4.7
unfolding steering_fits
steering-ranges = (refl, refl, refl, refl, refl, refl, refl, refl, refl, refl, refl, refl)

abbrev watches : ℤ → ℤ → ℤ → ℤ → ℤ → ℤ → Bool
watches window minimum holdoff tolerance spike jump = watch_fits (given-as (pos 0) (pos 0) (pos 0) (pos 0) (pos 0) window minimum holdoff tolerance spike jump)

pub watching-ranges : (watches (pos 2) (pos 2) (pos 0) (pos 0) (pos 1) (pos 2) ≡ true)  -- rules 4.8 to 4.13: the lower ends
    × (watches (pos 128) (pos 128) (pos 10) (pos 100_000_000) (pos 999_999_998) (pos 999_999_999) ≡ true)  -- rules 4.8 to 4.13: the upper ends
    × (watches (pos 1) (pos 2) (pos 0) (pos 0) (pos 1) (pos 2) ≡ false)  -- rule 4.8
    × (watches (pos 129) (pos 2) (pos 0) (pos 0) (pos 1) (pos 2) ≡ false)  -- rule 4.8
    × (watches (pos 2) (pos 1) (pos 0) (pos 0) (pos 1) (pos 2) ≡ false)  -- rule 4.9
    × (watches (pos 8) (pos 9) (pos 0) (pos 0) (pos 1) (pos 2) ≡ false)  -- rule 4.9: over W
    × (watches (pos 2) (pos 2) (minus 1) (pos 0) (pos 1) (pos 2) ≡ false)  -- rule 4.10
    × (watches (pos 2) (pos 2) (pos 11) (pos 0) (pos 1) (pos 2) ≡ false)  -- rule 4.10
    × (watches (pos 2) (pos 2) (pos 0) (minus 1) (pos 1) (pos 2) ≡ false)  -- rule 4.11
    × (watches (pos 2) (pos 2) (pos 0) (pos 100_000_001) (pos 1) (pos 2) ≡ false)  -- rule 4.11
    × (watches (pos 2) (pos 2) (pos 0) (pos 0) (pos 0) (pos 2) ≡ false)  -- rule 4.12
    × (watches (pos 2) (pos 2) (pos 0) (pos 0) (pos 999_999_999) (pos 1_000_000_000) ≡ false)  -- rules 4.12 and 4.13
    × (watches (pos 2) (pos 2) (pos 0) (pos 0) (pos 5) (pos 5) ≡ false)  -- rule 4.13: not above the spike
    × (watches (pos 2) (pos 2) (pos 0) (pos 0) (pos 5) (pos 1_000_000_000) ≡ false)  -- rule 4.13
unfolding watch_fits
watching-ranges = (refl, refl, refl, refl, refl, refl, refl, refl, refl, refl, refl, refl, refl, refl)
