-- What is demanded of the whole, each as a theorem with the demand above it. The files beside this one prove what it cites, and need not be read.
--
-- `served_of c call` is what a unit answers to a call as it is handed over, and the unit after it: the promise of the compiled `unit_handing::receive`,
-- `unit_handing::time`, `unit_handing::serve` and `request_into`. `lends p call` is what a call for C leaves of the parts that it is lent, octet by octet: the promise
-- of the exports of the crate door. None of these functions asks anything of its caller, so whatever stands here holds of every call that is made.
-- A list of calls holds octets, frames and the lengths of lent tables. `book s calls` has those that were not refused, each with its answer.
use Rattle.std.specs.Prelude.{Ok, Err}
use mathlib.Core.Path.{◌≡◌, refl, sym, ap, subst, ◌∙◌}
use mathlib.Core.Logic.{◌⊎◌, ◌↔◌}
use mathlib.Core.Bool.{true, false}
use mathlib.Core.List.{List, [], ◌∷◌, ◌++◌, map, reverse}
use Prim.Native.Nat.{ℕ, ◌-◌, ◌≤◌}
use native.Mathlib.Nat.{le_trans}
use lib.IntN.{nat_abs}
use lib.ListN.{length, take}
use Rattle.numbers.specs.Integers.{up}
use Rattle.numbers.specs.declared.refusal.Refusal.{Refusal}
use Rattle.numbers.specs.declared.refusal.Refusal.TheVariants as refusals
use Rattle.numbers.specs.Orders.{number_of}
use Rattle.wire_octets.proofs.Digits.{Octets}
use Rattle.wire_layout.specs.declared.message.Message.{Message}
use Rattle.wire_layout.specs.declared.message.Part.{Part}
use Rattle.wire_layout.specs.Kinds.{body_size}
use Rattle.wire_layout.specs.Reading.{read_of, suffix_in}
use Rattle.wire_layout.specs.Writing.{octets_of, write_of, left_by}
use Rattle.wire_layout.proofs.Ranges.{MessageIn}
use Rattle.wire_layout.proofs.Trips.{there_and_back, written_read}
use Rattle.wire_frames.specs.Frames.{request_of}
use Rattle.rules_watch.specs.declared.window.Sample.{Sample}
use Rattle.rules_watch.specs.declared.totals.Line.{Line as DriftLine}
use Rattle.rules_watch.specs.Totals.{points_of, line_through}
use Rattle.rules_watch.specs.Lines.{Right}
use Rattle.rules_watch.specs.Watch.{samples_in}
use Rattle.rules_settings.specs.declared.Settings.{Settings}
use Rattle.rules_settings.specs.declared.Given.{Given}
use Rattle.rules_settings.specs.Ranges.{as_given, settings_of}
use Rattle.unit_core.specs.declared.calls.Answer.{Answer}
use Rattle.unit_core.specs.declared.calls.Answer.TheVariants as answers
use Rattle.unit_core.specs.Wipe.{one_more}
use Rattle.unit_core.specs.Answers.{is_refusal, wipes_of}
use Rattle.unit_measuring.specs.Frame.{framed}
use Rattle.unit.specs.declared.Unit.{Unit}
use Rattle.unit_handing.specs.Handing.{Handed, request, reset, line, asked_of, served_of, frame_in, frame_left, served_all}
use Rattle.unit_handing.proofs.Served.{refusal-keeps-frame}
use Rattle.unit_handing.proofs.Served as served
use Rattle.story.specs.Book.{sequence}
use Rattle.story.specs.Tale.{book, answer_to, answer_by_history}
use Rattle.story.proofs.Refines.{unit-refines}
use Rattle.door_records.specs.Unit.{core_in}
use Rattle.door_words.specs.declared.messages.MessageWords.{MessageWords}
use Rattle.door_words.specs.Messages.{message_by, written_by, left_words}
use Rattle.door_words.specs.Answers.{refusing, lining, answer_words}
use Rattle.door_loop.specs.Loop.{Parts, unit_in, Table, counted_in, lends, looped, Meant, means}
use Rattle.door_loop.proofs.Loop.{answers-told as loop-answers}
use Rattle.demands.specs.Words.{unit_after, parts_after, output_in, chosen_by, faulty_by, now_in, table_found, Emptied, Grown, taken_in, window, is_due, wipes_counted, TooFew, stray_in, is_refused, says_wiped}
use Rattle.demands.proofs.Refusing.{reason, in_table, set-or-not, written_or_not}
use Rattle.demands.proofs.Requests.{sequence-told, whole}
use Rattle.demands.proofs.Lines.{line-told, right, held}
use Rattle.demands.proofs.Waiting.{settings-stay, waiting}
use Rattle.demands.proofs.Keeping.{refusal-keeps-parts}
use Rattle.demands.proofs.Wiping.{wiped-by, kept_by, spares, table-found, faulty-stays, words-refused, wiped-words}
use Rattle.demands.proofs.Limiting.{limited, words-output}
use Rattle.demands.proofs.Samples.{grown, emptied}
use Rattle.demands.proofs.Parts.{means-unit, unit-wiped, number-told, waiting-lent}

-- ==== Demand 1. Any call gets an answer; a refusal carries its number, and leaves all that was lent as it was.

-- an answer is a refusal exactly where it is one with its reason, ..
pub refused-exactly : (a : Answer) → (is_refusal a ≡ true) ↔ ((r : Refusal) × (a ≡ answers.Refused r))
refused-exactly a = (reason a, λ h. ap is_refusal h.1)

-- .. and each reason has a number of the table, 1 to 21
pub numbered : (r : Refusal) → (1 ≤ number_of r) × (number_of r ≤ 21)
numbered r = in_table r

-- of the unit: in any state, for any octets, frame, stamp and table
pub refusal-keeps : (c : Unit) (call : Handed ℕ) → is_refusal (served_of c call).answer ≡ true → ((served_of c call).unit ≡ c) × (frame_left c call ≡ frame_in call)
refusal-keeps c call h = (served.refusal-keeps c call h, refusal-keeps-frame c call h)

-- of writing: what was refused leaves the lent part
pub refused-writing-keeps : (m : Message) (suffix part : List ℕ) (r : Refusal) → write_of m suffix (length part) ≡ Err r
    → left_by (write_of m suffix (length part)) m suffix part ≡ part
refused-writing-keeps m suffix part r h = rw h

-- of settings: they are taken as they were given, or refused
pub settings-answered : (g : Given) → (settings_of g ≡ Ok (as_given g)) ⊎ (settings_of g ≡ Err refusals.Settings)
settings-answered g = set-or-not g

-- of every call for C: whatever octets are in the parts, and however long the table is
pub door-refusal-keeps : (p : Parts) (call : Handed Table) → is_refused (lends p call).answer ≡ true
    → ((lends p call).parts ≡ p) × ((lends p call).frame ≡ frame_in call) × ((lends p call).stray ≡ stray_in call)
door-refusal-keeps p call h = refusal-keeps-parts p call h

-- and of writing for C: whatever is in the message
pub door-refused-writing-keeps : (w : MessageWords) (suffix part : List ℕ)
    → ((written_by (message_by w) suffix (length part)).refused ≡ 0)
    ⊎ ((r : Refusal) × ((written_by (message_by w) suffix (length part)).refused ≡ number_of r) × (left_words (message_by w) suffix part ≡ part))
door-refused-writing-keeps w suffix part = written_or_not suffix part (message_by w)

-- any two answers that a contract permits are equal: every contract here says that the answer, and everything lent, is what a definition gives
pub one_answer : {A : Type 0} (definition a b : A) → a ≡ definition → b ≡ definition → a ≡ b
one_answer definition a b p q = p ∙ sym q

-- ==== Demand 2. Messages as IEEE 1588-2019 lays them out; choice, delay, offset and output by the rules.

-- what was written is read
pub read-what-was-written : (m : Message) (suffix part : List ℕ) (n : ℕ) → MessageIn m → write_of m suffix (length part) ≡ Ok n
    → read_of (left_by (Ok n) m suffix part) ≡ Ok (m, record { from = body_size m.body; to = n })
read-what-was-written m suffix part n i h = there_and_back m suffix part n i h

-- what was read is written: the same octets, up to messageLength
pub write-what-was-read : (octets : List ℕ) (m : Message) (p : Part) → Octets octets → read_of octets ≡ Ok (m, p) → octets_of m p.to ++ suffix_in octets ≡ take p.to octets
write-what-was-read octets m p o h = written_read octets m p o h

-- from a fresh unit, whatever its settings, after any list of calls, the oldest first, refused ones of every kind among them
module _ (s : Settings) (list : List (Handed ℕ)) where
  -- every answer, and so every choice, delay, offset and output, is the one that is read off the calls and answers before it
  pub answers-told : (call : Handed ℕ) → (served_of (unit_after s list) call).answer ≡ answer_by_history s (reverse list) call
  answers-told call = unit-refines s list call

  -- no output passes the limit
  pub output-limited : (call : Handed ℕ) → nat_abs (output_in (served_of (unit_after s list) call).answer) ≤ up s.limit.0
  unfolding answer_by_history
  output-limited call = rw (answers-told call) (limited s (book s (reverse list)) (asked_of call))

  -- the octets of a request have the sequenceId that the book gives
  pub request-told : (frame : List ℕ) (at : ℕ) → is_refusal (served_of (unit_after s list) (request frame at)).answer ≡ false
      → frame_left {T = ℕ} (unit_after s list) (request frame at) ≡ framed (request_of s.domain s.own (sequence (book s (reverse list)))) frame
  request-told frame at h = sequence-told s list frame at h

  -- and it is written whole, 44 octets: so what is read of them is that message, by the first round trip above
  pub request-written : (frame : List ℕ) (at n : ℕ) → is_refusal (served_of (unit_after s list) (request frame at)).answer ≡ false
      → write_of (request_of s.domain s.own n) [] (length frame - 14) ≡ Ok 44
  request-written frame at n h = whole s list frame at n h

-- ==== Demand 3. A line is given exactly when the valid samples taken since the last wipe and still in the window reach the set minimum and the holdoff
-- has run out; it is the line of least squares through them.

-- from a fresh unit whose settings were accepted, in terms of what was set
module _ (g : Given) (set : settings_of g ≡ Ok (as_given g)) (list : List (Handed ℕ)) where
  abbrev answered : Answer
  answered = (served_of (unit_after (as_given g) list) line).answer

  pub line-when-due : is_due g list ≡ true → answered ≡ answers.Line (line_through (points_of (window g list))) (wipes_counted g list)
  line-when-due h = line-told g set list ∙ rw h

  pub line-only-when-due : is_due g list ≡ false → answered ≡ answers.Refused refusals.NotReady
  line-only-when-due h = line-told g set list ∙ rw h

  -- the line given: n counts the valid samples in the window, any other line with fractions for level and slope has a larger sum of squares, no f64 is
  -- nearer to the slope in ppm (`Right`), and the wipe count is that of the calls
  pub line-is-theirs : (q : DriftLine) (n : ℕ) → answered ≡ answers.Line q n → Right (window g list) q × (n ≡ wipes_counted g list)
  line-is-theirs q n e = right g set list q n e

  -- the window in memory is those samples
  pub window-told : samples_in (unit_after (as_given g) list).watch ≡ window g list
  window-told = held g set list

-- ==== The accident. An answer says that it wiped exactly when the call wipes.

-- of any unit, in any state: after an answer that says so, exchange, servo and watch are those of a fresh unit with these settings, and one wipe more is
-- counted; ..
pub says-wiped : (c : Unit) (call : Handed ℕ) → wipes_of (served_of c call).answer ≡ true
    → Emptied c.core.settings (served_of c call).unit × ((served_of c call).unit.core.domain.wipes ≡ one_more c.core.domain.wipes)
unfolding served_of
says-wiped c call h = wiped-by c (asked_of call) h

-- .. after any other no wipe is counted, and the watch is as it was, or has one sample more
pub says-not-wiped : (c : Unit) (call : Handed ℕ) → wipes_of (served_of c call).answer ≡ false
    → ((served_of c call).unit.core.domain.wipes ≡ c.core.domain.wipes) × Grown c.core.settings c.watch (served_of c call).unit.watch
unfolding served_of
says-not-wiped c call h = kept_by c (asked_of call) h

-- from a fresh unit: an answer that says so leaves no sample, any other leaves all that were taken since the last wipe, and adds one at most to them
module _ (s : Settings) (list : List (Handed ℕ)) (call : Handed ℕ) where
  abbrev said : Answer
  said = (served_of (unit_after s list) call).answer

  pub nothing_left : wipes_of said ≡ true → taken_in s (book s (call ∷ reverse list)) ≡ []
  nothing_left h = emptied s (reverse list) call (ap wipes_of (sym (answers-told s list call)) ∙ h)

  pub nothing-lost : wipes_of said ≡ false → (new : List Sample) × (length new ≤ 1) × (taken_in s (book s (call ∷ reverse list)) ≡ taken_in s (book s (reverse list)) ++ new)
  nothing-lost h = grown s (reverse list) call (ap wipes_of (sym (answers-told s list call)) ∙ h)

-- no line is given until samples taken after it are enough: with fewer pulses after it than the minimum, or than the holdoff, there is none, whatever the
-- unit was before and whatever else came
pub no-line-after-wipe : (c : Unit) (call : Handed ℕ) → wipes_of (served_of c call).answer ≡ true → (later : List (Handed ℕ)) → TooFew c.core.settings later
    → (served_of (served_all (served_of c call).unit later) line).answer ≡ answers.Refused refusals.NotReady
no-line-after-wipe c call h later k =
    waiting (served_of c call).unit (says-wiped c call h).0.watch later (subst (λ (s : Settings). TooFew s later) (sym (settings-stay c call)) k)

-- ---- what stays over a wipe: the table but for an Announce, now and master but for what the call itself sets, the sequenceId, FAULTY but for a reset
pub wipe-spares : (c : Unit) (call : Handed ℕ) → wipes_of (served_of c call).answer ≡ true
    → ((served_of c call).unit.core.now ≡ now_in call c.core.now)
    × ((served_of c call).unit.core.domain.chosen ≡ chosen_by (served_of c call).answer c.core.domain.chosen)
    × ((served_of c call).unit.core.domain.sequence ≡ c.core.domain.sequence)
    × ((served_of c call).unit.core.domain.faulty ≡ faulty_by (served_of c call).answer c.core.domain.faulty)
unfolding served_of
wipe-spares c call h = spares c call h

pub wipe-spares-table : (c : Unit) (call : Handed ℕ) → (served_of c call).unit.table ≡ table_found c (asked_of call)
unfolding served_of
wipe-spares-table c call = table-found c (asked_of call)

-- FAULTY ends with a reset, and with nothing else
pub only-reset-ends-faulty : (c : Unit) (call : Handed ℕ) → c.core.domain.faulty ≡ true → ((served_of c call).unit.core.domain.faulty ≡ true) ⊎ (call ≡ reset)
only-reset-ends-faulty c call h = faulty-stays c call h

pub reset-ends-faulty : (c : Unit) → (served_of c reset).unit.core.domain.faulty ≡ false
unfolding served_of asked_of
reset-ends-faulty c = refl

-- ==== The same at the door. The parts are the unit: what is handed over is octets, and what is answered numbers.

-- an answer is refused, or says that it wiped, in numbers as it does in words
pub refused-words : (a : Answer) → is_refused (answer_words a) ≡ is_refusal a
refused-words a = words-refused a

pub says-wiped-words : (a : Answer) → says_wiped (answer_words a) ≡ wipes_of a
says-wiped-words a = wiped-words a

-- of any octets in the parts, the table being of five
module _ (p : Parts) (five : length p.table ≡ 5) (call : Handed Table) where
  -- what the parts tell is what the unit that they told before becomes by that call, and the answer is its answer: so all of the above holds of them
  pub door-is-unit : (unit_in (lends p call).parts ≡ (served_of (unit_in p) (counted_in call)).unit) × ((lends p call).answer ≡ answer_words (served_of (unit_in p) (counted_in call)).answer)
  door-is-unit = means-unit p five call

  -- a refusal has its number, and nothing else
  pub door-numbered : is_refused (lends p call).answer ≡ true → (r : Refusal) × ((lends p call).answer ≡ refusing (number_of r))
  door-numbered h = number-told p five call h

  -- after an answer that says that it wiped, exchange, servo and watch are those of a fresh unit with these settings, servo and watch octet by octet; ..
  pub door-says-wiped : says_wiped (lends p call).answer ≡ true → Emptied (core_in p.unit).settings (unit_in (lends p call).parts)
  door-says-wiped h = subst (Emptied (core_in p.unit).settings) (sym door-is-unit.0) (says-wiped (unit_in p) (counted_in call) (sym (unit-wiped p five call) ∙ h)).0

  -- .. after any other the watch is as it was, or has one sample more
  pub door-says-not-wiped : says_wiped (lends p call).answer ≡ false → Grown (core_in p.unit).settings p.watch (lends p call).parts.watch
  door-says-not-wiped h =
      subst (λ (c : Unit). Grown (core_in p.unit).settings p.watch c.watch) (sym door-is-unit.0) (says-not-wiped (unit_in p) (counted_in call) (sym (unit-wiped p five call) ∙ h)).1

  -- and no line is given until samples taken after it are enough
  pub door-no-line-after-wipe : says_wiped (lends p call).answer ≡ true → (later : List (Handed Table)) → TooFew (core_in p.unit).settings later
      → (lends (looped (lends p call).parts later) line).answer ≡ refusing (number_of refusals.NotReady)
  door-no-line-after-wipe h later k = waiting-lent p five call h later k

-- whatever list of calls a fresh unit got, refused ones of every kind among them, a table that is not of five too
module _ (s : Settings) (list : List (Handed Table)) where
  -- every answer is the one that is read off the calls and answers before it, as numbers
  pub door-answers-told : (call : Handed Table) → (lends (parts_after s list) call).answer ≡ answer_words (answer_by_history s (reverse (map counted_in list)) (counted_in call))
  unfolding means
  door-answers-told call = ap (λ (m : Meant). m.answer) (loop-answers s list call) ∙ ap answer_words (answers-told s (map counted_in list) (counted_in call))

  -- no output passes the limit
  pub door-output-limited : (call : Handed Table) → nat_abs (lends (parts_after s list) call).answer.output.0 ≤ up s.limit.0
  unfolding answer_by_history
  door-output-limited call =
      rw (door-answers-told call) (le_trans (words-output (answer_to s (book s (reverse (map counted_in list))) (asked_of (counted_in call)))) (limited s (book s (reverse (map counted_in list))) (asked_of (counted_in call))))

  -- a request's octets have the sequenceId that the book gives
  pub door-request-told : (frame : List ℕ) (at : ℕ) → is_refused (lends (parts_after s list) (request frame at)).answer ≡ false
      → (lends (parts_after s list) (request frame at)).frame ≡ framed (request_of s.domain s.own (sequence (book s (reverse (map counted_in list))))) frame
  unfolding means
  door-request-told frame at h =
      let e = loop-answers s list (request frame at) in
      ap (λ (m : Meant). m.frame) e
      ∙ request-told s (map counted_in list) frame at (sym (refused-words (served_of (unit_after s (map counted_in list)) (request frame at)).answer) ∙ ap (λ (m : Meant). is_refused m.answer) (sym e) ∙ h)

-- demand 3, in numbers
module _ (g : Given) (set : settings_of g ≡ Ok (as_given g)) (list : List (Handed Table)) where
  door-line : (lends (parts_after (as_given g) list) line).answer ≡ answer_words (answered g set (map counted_in list))
  unfolding means
  door-line = ap (λ (m : Meant). m.answer) (loop-answers (as_given g) list line)

  pub door-line-when-due : is_due g (map counted_in list) ≡ true
      → (lends (parts_after (as_given g) list) line).answer ≡ lining (line_through (points_of (window g (map counted_in list)))) (wipes_counted g (map counted_in list))
  door-line-when-due h = door-line ∙ ap answer_words (line-when-due g set (map counted_in list) h)

  pub door-line-only-when-due : is_due g (map counted_in list) ≡ false → (lends (parts_after (as_given g) list) line).answer ≡ refusing (number_of refusals.NotReady)
  door-line-only-when-due h = door-line ∙ ap answer_words (line-only-when-due g set (map counted_in list) h)

  -- and that line is theirs
  pub door-line-is-theirs : is_due g (map counted_in list) ≡ true → Right (window g (map counted_in list)) (line_through (points_of (window g (map counted_in list))))
  door-line-is-theirs h = (line-is-theirs g set (map counted_in list) _ _ (line-when-due g set (map counted_in list) h)).0
