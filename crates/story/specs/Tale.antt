-- The book after calls as they were handed over, the newest first, and the answer to the next.
use Rattle.std.specs.Prelude.{ℕ, List, [], ◌∷◌, cond, Ok, Err}
use Rattle.rules_settings.specs.declared.Settings.{Settings}
use Rattle.unit_core.specs.declared.calls.Call.{Call}
use Rattle.unit_core.specs.declared.calls.Answer.{Answer}
use Rattle.unit_core.specs.declared.calls.Answer.TheVariants.{Refused}
use Rattle.unit_core.specs.Answers.{is_refusal}
use Rattle.unit_handing.specs.Handing.{Asked}
use Rattle.unit_handing.specs.Handing.{Handed, asked_of}
use Rattle.story.specs.Book.{Book, entry}
use Rattle.story.specs.Saying.{answer}

-- what was refused is not written
abbrev pub book_with : Call → Answer → Book → Book
book_with call a b = cond (is_refusal a) b (entry call a ∷ b)

-- a call that is barred before the unit is asked is refused like any other
abbrev pub answer_to : Settings → Book → Asked → Answer
answer_to s b (Err r) = Refused r
answer_to s b (Ok call) = answer s b call

abbrev pub book_by : Settings → Book → Asked → Book
book_by s b (Err r) = b
book_by s b (Ok call) = book_with call (answer s b call) b

unfoldable pub book : Settings → List (Handed ℕ) → Book
book s [] = []
book s (call ∷ before) = book_by s (book s before) (asked_of call)

unfoldable pub answer_by_history : Settings → List (Handed ℕ) → Handed ℕ → Answer
answer_by_history s before call = answer_to s (book s before) (asked_of call)
