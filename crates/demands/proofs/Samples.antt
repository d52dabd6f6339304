-- The samples that the book has: an answer that says that it wiped leaves none, any other leaves all and adds one at most.
use Rattle.std.specs.Prelude.{Ok, Err}
use mathlib.Core.Path.{◌≡◌, refl, sym, ap, ◌∙◌}
use mathlib.Core.Bool.{Bool, true, false, cond}
use mathlib.Core.List.{List, [], ◌∷◌, ◌++◌, append-nil}
use Prim.Native.Nat.{ℕ, ◌≤◌}
use native.Mathlib.Omega.{arith}
use lib.ListN.{length}
use Rattle.rules_masters.specs.declared.chosen.Decision.TheVariants as decisions
use Rattle.rules_watch.specs.declared.window.Sample.{Sample}
use Rattle.rules_watch.specs.Rules.{Stamps}
use Rattle.rules_settings.specs.declared.Settings.{Settings}
use Rattle.unit_core.specs.declared.calls.Call.{Call}
use Rattle.unit_core.specs.declared.calls.Call.TheVariants.{Receive, Request, Sent, Time, Reset, Tick, Line, Show}
use Rattle.unit_core.specs.declared.calls.Answer.{Answer}
use Rattle.unit_core.specs.declared.calls.Answer.TheVariants as answers
use Rattle.unit_core.specs.Answers.{is_refusal, wipes_of}
use Rattle.unit_handing.specs.Handing.{Asked}
use Rattle.unit_handing.specs.Handing.{Handed, asked_of}
use Rattle.unit.proofs.Refusals.{never}
use Rattle.story_lists.specs.Reading.{all, since}
use Rattle.story.specs.Book.{Book, entry, since_wipe, a_pulse, samples_of, sample_of}
use Rattle.story.specs.Saying.{answer}
use Rattle.story.specs.Tale.{book_with, answer_to, book_by, book, answer_by_history}
use Rattle.demands.specs.Words.{taken_in}

module _ (s : Settings) (b : Book) where
  abbrev before : List Stamps
  before = all a_pulse (since_wipe b)

  abbrev Longer : Book → Type 0
  Longer c = (new : List Sample) × (length new ≤ 1) × (taken_in s c ≡ taken_in s b ++ new)

  nothing-new : Longer b
  nothing-new = ([], omega arith, sym (append-nil (taken_in s b)))

  -- a call that is written, and does not wipe
  written-since : (call : Call) (a : Answer) → wipes_of a ≡ false → since_wipe (entry call a ∷ b) ≡ entry call a ∷ since_wipe b
  unfolding since
  written-since call a h = rw h

  pulse-new : (call : Call) (a : Answer) → (new : List Sample) × (length new ≤ 1) × (samples_of s.watch (all a_pulse (entry call a ∷ since_wipe b)) ≡ samples_of s.watch before ++ new)
  unfolding all samples_of
  pulse-new (Receive now arrival m) a = nothing-new
  pulse-new (Request now room) a = nothing-new
  pulse-new (Sent now sequence t3) a = nothing-new
  pulse-new (Time now) a = nothing-new
  pulse-new Reset a = nothing-new
  pulse-new (Tick reference clock) a = (sample_of s.watch (record { reference = reference; clock = clock }) before ∷ [], omega arith, refl)
  pulse-new Line a = nothing-new
  pulse-new Show a = nothing-new

  written-grown : (call : Call) (a : Answer) → wipes_of a ≡ false → Longer (entry call a ∷ b)
  written-grown call a h = let g = pulse-new call a in (g.0, g.1, ap (λ (l : Book). samples_of s.watch (all a_pulse l)) (written-since call a h) ∙ g.2)

  call-grown : (call : Call) (a : Answer) → wipes_of a ≡ false → Longer (book_with call a b)
  call-grown call a h = go (is_refusal a)
    where
      go : (r : Bool) → Longer (cond r b (entry call a ∷ b))
      go true = nothing-new
      go false = written-grown call a h

  -- one that wipes is written, and nothing is left
  wipe-written : (a : Answer) → wipes_of a ≡ true → is_refusal a ≡ false
  wipe-written (answers.Refused n) h = absurd (never h)
  wipe-written (answers.Choice (decisions.Same m)) h = refl
  wipe-written (answers.Choice (decisions.Changed m)) h = refl
  wipe-written (answers.Exchange said output) h = refl
  wipe-written (answers.Watch p) h = refl
  wipe-written answers.Wiped h = refl
  wipe-written (answers.Line l n) h = refl
  wipe-written (answers.Shows x) h = refl

  call-emptied : (call : Call) (a : Answer) → wipes_of a ≡ true → taken_in s (book_with call a b) ≡ []
  unfolding since all samples_of
  call-emptied call a h = rw (wipe-written a h, h)

  asked-grown : (a : Asked) → wipes_of (answer_to s b a) ≡ false → Longer (book_by s b a)
  asked-grown (Err r) h = nothing-new
  asked-grown (Ok call) h = call-grown call (answer s b call) h

  asked-emptied : (a : Asked) → wipes_of (answer_to s b a) ≡ true → taken_in s (book_by s b a) ≡ []
  asked-emptied (Err r) h = absurd (never h)
  asked-emptied (Ok call) h = call-emptied call (answer s b call) h

module _ (s : Settings) (calls : List (Handed ℕ)) (call : Handed ℕ) where
  pub grown : wipes_of (answer_by_history s calls call) ≡ false → (new : List Sample) × (length new ≤ 1) × (taken_in s (book s (call ∷ calls)) ≡ taken_in s (book s calls) ++ new)
  unfolding book answer_by_history
  grown h = asked-grown s (book s calls) (asked_of call) h

  pub emptied : wipes_of (answer_by_history s calls call) ≡ true → taken_in s (book s (call ∷ calls)) ≡ []
  unfolding book answer_by_history
  emptied h = asked-emptied s (book s calls) (asked_of call) h
