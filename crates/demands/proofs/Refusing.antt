-- What is refused has its reason, and each reason its number; settings are taken as they were given, or refused.
use Rattle.std.specs.Prelude.{Ok, Err}
use mathlib.Core.Path.{◌≡◌, refl}
use mathlib.Core.Logic.{◌⊎◌, inl, inr}
use mathlib.Core.Bool.{Bool, true, false, cond, ◌&&◌}
use mathlib.Core.List.{List}
use Prim.Native.Nat.{ℕ, ◌≤◌}
use native.Mathlib.Omega.{arith}
use lib.ListN.{length}
use Rattle.numbers.specs.declared.refusal.Refusal.{Refusal}
use Rattle.numbers.specs.declared.refusal.Refusal.TheVariants as refusals
use Rattle.numbers.specs.Orders.{number_of}
use Rattle.wire_layout.specs.declared.message.Message.{Message}
use Rattle.wire_layout.specs.Writing.{Written}
use Rattle.door_words.specs.Messages.{Handed}
use Rattle.wire_layout.specs.Writing.{write_of, left_by}
use Rattle.rules_settings.specs.declared.Given.{Given}
use Rattle.rules_settings.specs.Ranges.{steering_fits, watch_fits, as_given, settings_of}
use Rattle.rules_settings.proofs.Accepting.{settings-is}
use Rattle.unit_core.specs.declared.calls.Answer.{Answer}
use Rattle.unit_core.specs.declared.calls.Answer.TheVariants as answers
use Rattle.unit_core.specs.Answers.{is_refusal}
use Rattle.unit.proofs.Refusals.{never}
use Rattle.door_words.specs.Messages.{written_words, written_by, left_words}

pub reason : (a : Answer) → is_refusal a ≡ true → (r : Refusal) × (a ≡ answers.Refused r)
reason (answers.Refused r) h = (r, refl)
reason (answers.Choice d) h = absurd (never h)
reason (answers.Exchange said output) h = absurd (never h)
reason (answers.Watch p) h = absurd (never h)
reason answers.Wiped h = absurd (never h)
reason (answers.Line l n) h = absurd (never h)
reason (answers.Shows x) h = absurd (never h)

pub in_table : (r : Refusal) → (1 ≤ number_of r) × (number_of r ≤ 21)
in_table refusals.Short = (omega arith, omega arith)
in_table refusals.Version = (omega arith, omega arith)
in_table refusals.Kind = (omega arith, omega arith)
in_table refusals.Length = (omega arith, omega arith)
in_table refusals.Field = (omega arith, omega arith)
in_table refusals.Suffix = (omega arith, omega arith)
in_table refusals.Room = (omega arith, omega arith)
in_table refusals.Settings = (omega arith, omega arith)
in_table refusals.Now = (omega arith, omega arith)
in_table refusals.Domain = (omega arith, omega arith)
in_table refusals.Own = (omega arith, omega arith)
in_table refusals.Alternate = (omega arith, omega arith)
in_table refusals.Steps = (omega arith, omega arith)
in_table refusals.Repeat = (omega arith, omega arith)
in_table refusals.Full = (omega arith, omega arith)
in_table refusals.NotMaster = (omega arith, omega arith)
in_table refusals.Unmatched = (omega arith, omega arith)
in_table refusals.Faulty = (omega arith, omega arith)
in_table refusals.Correction = (omega arith, omega arith)
in_table refusals.Tick = (omega arith, omega arith)
in_table refusals.NotReady = (omega arith, omega arith)

pub set-or-not : (g : Given) → (settings_of g ≡ Ok (as_given g)) ⊎ (settings_of g ≡ Err refusals.Settings)
set-or-not g = go (steering_fits g && watch_fits g) (settings-is g)
  where
    go : (b : Bool) → settings_of g ≡ cond b (Ok (as_given g)) (Err refusals.Settings) → (settings_of g ≡ Ok (as_given g)) ⊎ (settings_of g ≡ Err refusals.Settings)
    go true h = inl h
    go false h = inr h

-- ---- writing for C
module _ (suffix part : List ℕ) where
  abbrev Written? : Handed → Type 0
  Written? w =
      ((written_by w suffix (length part)).refused ≡ 0)
      ⊎ ((r : Refusal) × ((written_by w suffix (length part)).refused ≡ number_of r) × (left_words w suffix part ≡ part))

  by-writing : (m : Message) (x : Written)
      → ((written_words x).refused ≡ 0) ⊎ ((r : Refusal) × ((written_words x).refused ≡ number_of r) × (left_by x m suffix part ≡ part))
  by-writing m (Ok n) = inl refl
  by-writing m (Err r) = inr (r, refl, refl)

  pub written_or_not : (w : Handed) → Written? w
  written_or_not (Ok m) = by-writing m (write_of m suffix (length part))
  written_or_not (Err r) = inr (r, refl, refl)
