-- The watch's memory: what it tells of the samples since the wipe, and what each call makes of it.
use Rattle.std.specs.Prelude.{Bool, false, cond, List, [], ◌∷◌, ℕ, ◌%◌, ℤ, pos, set, replicate, Ok, Err}
use Rattle.rules_watch.specs.declared.settings.WatchSettings.{WatchSettings}
use Rattle.rules_watch.specs.declared.window.Sample.{Sample}
use Rattle.rules_watch.specs.declared.window.Head.{Head}
use Rattle.rules_watch.specs.declared.Watch.{Watch}
use Rattle.rules_watch.specs.Rules.{Answer, Drift, Outcome}
use Rattle.rules_watch.specs.declared.judging.Judged.TheVariants.{Wipe, Take}
use Rattle.rules_watch.specs.Settings.{size_of}
use Rattle.rules_watch.specs.Window.{mark_of, ring_of, held_in, fresh_head, head_after}
use Rattle.rules_watch.specs.Rules.{Since, Stamps, pulse_of, wipes_of, outcome, line_if_due}

-- a watch of a head and three columns, wherever these are
abbrev pub watch_with : Head → List ℤ → List ℤ → List ℕ → Watch
watch_with head references ys marks = record { head = head; references = references; ys = ys; marks = marks }

-- what is held, oldest first
unfoldable pub samples_in : Watch → List Sample
samples_in w = held_in w.head (ring_of w.references w.ys w.marks)

-- an empty watch, its memory cleared (rule 10.13)
abbrev pub fresh_watch : Watch
fresh_watch = watch_with fresh_head (replicate 128 (pos 0)) (replicate 128 (pos 0)) (replicate 128 0)

-- s is written over the place that is next
abbrev pub pushed : ℕ → ℤ → Sample → Watch → Watch
pushed size origin s w =
    watch_with (head_after size origin w.head)
    (set w.references (w.head.next % 128) s.reference)
    (set w.ys (w.head.next % 128) s.y)
    (set w.marks (w.head.next % 128) (mark_of s.valid))

-- what a pulse leaves: the watch, and the answer
pub record Taken : Type 0 where
  pub watch : Watch
  pub answer : Answer

-- a taken sample enters the window
abbrev pub sample_taken : WatchSettings → Watch → ℤ → Sample → Taken
sample_taken t w origin s = record { answer = Ok (pulse_of s.valid); watch = pushed (size_of t) origin s w }

-- a pulse that is refused or wipes leaves the watch as it is: the unit empties it, with all else that a wipe empties
abbrev pub taken_by : WatchSettings → Watch → Outcome → Taken
taken_by t w (Err r) = record { answer = Err r; watch = w }
taken_by t w (Ok (Wipe p)) = record { answer = Ok p; watch = w }
taken_by t w (Ok (Take origin s)) = sample_taken t w origin s

-- what is held, read as samples since the wipe: the rules ask for the last of them alone
abbrev pub since_of : Watch → Since
since_of w = record { origin = w.head.origin; samples = samples_in w }

abbrev pub taken_of : WatchSettings → Watch → ℤ → ℤ → Taken
taken_of t w reference clock = taken_by t w (outcome t (since_of w) reference clock)

-- the watch that the next call finds, once the unit has emptied it where the answer wipes
abbrev pub wipes_by : Answer → Bool
wipes_by (Err r) = false
wipes_by (Ok p) = wipes_of p

abbrev pub next_watch : Taken → Watch
next_watch x = cond (wipes_by x.answer) fresh_watch x.watch

-- the watch after a list of pulses
abbrev pub watch_after : WatchSettings → Watch → List Stamps → Watch
watch_after t w [] = w
watch_after t w (p ∷ l) = watch_after t (next_watch (taken_of t w p.reference p.clock)) l

abbrev pub watch_line : WatchSettings → Watch → Drift
watch_line t w = line_if_due t w.head.taken (samples_in w)

-- a line asks for no reference: every watch with this head, ys and marks has the line of one with no references (proofs/Places.antt, line-in)
abbrev pub unreferenced : Head → List ℤ → List ℕ → Watch
unreferenced head ys marks = watch_with head [] ys marks

abbrev pub line_in : WatchSettings → Head → List ℤ → List ℕ → Drift
line_in t head ys marks = watch_line t (unreferenced head ys marks)
