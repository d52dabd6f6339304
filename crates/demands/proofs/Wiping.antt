-- What an answer that says that it wiped leaves, and what any other leaves of the watch and of the count of wipes.
use Rattle.std.specs.Prelude.{Ok, Err}
use mathlib.Core.Path.{◌≡◌, refl, sym, subst, ◌∙◌}
use mathlib.Core.Logic.{◌⊎◌, inl, inr}
use mathlib.Core.Bool.{true, false}
use Prim.Native.Nat.{ℕ}
use native.Mathlib.Omega.{arith}
use lib.ListN.{length}
use Rattle.numbers.specs.declared.stamp.Stamp.{Stamp}
use Rattle.numbers.specs.declared.refusal.Refusal.TheVariants.{Settings as Outside}
use Rattle.numbers.specs.Grounds.{Ruling, answer_by, first_of}
use Rattle.wire_layout.specs.Reading.{Read}
use Rattle.unit_handing.specs.Handing.{Asked as Asking}
use Rattle.numbers.specs.Orders.{none_due, due_with, of_handing, of_time}
use Rattle.wire_layout.specs.Reading.{read_of}
use Rattle.rules_masters.specs.declared.table.Table.{Table}
use Rattle.rules_masters.specs.declared.chosen.Decision.TheVariants as decisions
use Rattle.rules_exchange.specs.declared.said.Said.{Said}
use Rattle.rules_exchange.specs.declared.said.Said.TheVariants.{Held, Paired, Asked, Stamped, Back, Neg, Long, Huge, HugeFaulty, Path, PathWiped, Step, Measured}
use Rattle.rules_watch.specs.declared.Pulse.TheVariants as pulses
use Rattle.rules_watch.specs.Rules.{outcome}
use Rattle.rules_watch.specs.Watch.{since_of, watch_line}
use Rattle.numbers.specs.declared.units.Ppb.{Ppb}
use Rattle.unit_core.specs.declared.calls.Call.{Call}
use Rattle.unit_core.specs.declared.calls.Call.TheVariants as calls
use Rattle.unit_core.specs.declared.calls.Answer.{Answer}
use Rattle.unit_core.specs.declared.calls.Answer.TheVariants as answers
use Rattle.unit_core.specs.Wipe.{one_more}
use Rattle.unit_core.specs.Effects.{Effect, keeps, goes, takes, wipes, stays_of, progress_of}
use Rattle.unit_core.specs.Answers.{is_refusal, wipes_of}
use Rattle.unit.specs.declared.Unit.{Unit}
use Rattle.unit.specs.declared.Stepped.{Stepped}
use Rattle.unit.specs.Calls.{applied, unit_effect, unit_table, step_of}
use Rattle.unit_handing.specs.Handing.{Handed, receive, request, sent, time, reset, tick, line, show, is_delay_req, is_stray, message_asked, read_asked, time_asked, asked_of, stepped_by, served_of}
use Rattle.unit.specs.Machine.{is_wipe}
use Rattle.unit.proofs.Refusals.{never}
use Rattle.unit.proofs.Faults.{faulty-lasts}
use Rattle.unit.proofs.Wipes.{says-wiped}
use Rattle.door_words.specs.Answers.{answer_words}
use Rattle.demands.specs.Words.{Emptied, Grown, chosen_by, faulty_by, now_in, table_found, is_refused, says_wiped}
use Rattle.demands.proofs.Staying.{Staying, now_of, staying}
use Rattle.demands.proofs.Keeping.{said-speaks, pulse-speaks}

always : true ≡ false → ⊥
always e = never (sym e)

-- ---- by the effect
module _ (c : Unit) (x : Table) where
  after-wiped : (e : Effect) → is_wipe e ≡ true → Emptied c.core.settings (applied c x e).unit × ((applied c x e).unit.core.domain.wipes ≡ one_more c.core.domain.wipes)
  after-wiped (keeps a) h = absurd (never h)
  after-wiped (goes a k r) h = absurd (never h)
  after-wiped (takes origin y) h = absurd (never h)
  after-wiped (wipes a k) h = (record { run = refl; servo = refl; watch = refl }, refl)

  after_kept : (e : Effect) → is_wipe e ≡ false → ((applied c x e).unit.core.domain.wipes ≡ c.core.domain.wipes) × Grown c.core.settings c.watch (applied c x e).unit.watch
  after_kept (keeps a) h = (refl, inl refl)
  after_kept (goes a k r) h = (refl, inl refl)
  after_kept (takes origin y) h = (refl, inr (origin, y, refl))
  after_kept (wipes a k) h = absurd (always h)

-- ---- by the answer
module _ (c : Unit) where
  pub wiped-by : (a : Asking) → wipes_of (stepped_by c a).answer ≡ true
      → Emptied c.core.settings (stepped_by c a).unit × ((stepped_by c a).unit.core.domain.wipes ≡ one_more c.core.domain.wipes)
  wiped-by (Err r) h = absurd (never h)
  wiped-by (Ok call) h = after-wiped c (unit_table c call) (unit_effect c call) (sym (says-wiped c call) ∙ h)

  pub kept_by : (a : Asking) → wipes_of (stepped_by c a).answer ≡ false → ((stepped_by c a).unit.core.domain.wipes ≡ c.core.domain.wipes) × Grown c.core.settings c.watch (stepped_by c a).unit.watch
  kept_by (Err r) h = (refl, inl refl)
  kept_by (Ok call) h = after_kept c (unit_table c call) (unit_effect c call) (sym (says-wiped c call) ∙ h)

  -- what stays
  abbrev Spared : Answer → ℕ → Unit → Type 0
  Spared a now d =
      (d.core.now ≡ now) × (d.core.domain.chosen ≡ chosen_by a c.core.domain.chosen) × (d.core.domain.sequence ≡ c.core.domain.sequence)
      × (d.core.domain.faulty ≡ faulty_by a c.core.domain.faulty)

  spared-by : (x : Table) (now : ℕ) (e : Effect) → Staying (stays_of c.core) now e → is_wipe e ≡ true → Spared (applied c x e).answer now (applied c x e).unit
  spared-by x now (keeps a) f h = absurd (never h)
  spared-by x now (goes a k r) f h = absurd (never h)
  spared-by x now (takes origin y) f h = absurd (never h)
  spared-by x now (wipes a k) f h = f

  spares-call : (call : Call) → wipes_of (stepped_by c (Ok call)).answer ≡ true → Spared (stepped_by c (Ok call)).answer (now_of call c.core.now) (stepped_by c (Ok call)).unit
  spares-call call h =
      spared-by (unit_table c call) (now_of call c.core.now) (unit_effect c call)
      (staying c.core.settings (stays_of c.core) (progress_of c.core c.servo) c.table c.core.domain.wipes
      (outcome c.core.settings.watch (since_of c.watch)) (watch_line c.core.settings.watch c.watch) call)
      (sym (says-wiped c call) ∙ h)

  -- the now that the unit is asked with is the one that the call carries
  abbrev Carried : Asking → ℕ → Type 0
  Carried (Err r) now = ◌≡◌ {A = ℕ} 0 0
  Carried (Ok call) now = now_of call c.core.now ≡ now

  carried-by : (v : Ruling) (call : Call) → Carried (answer_by Err (Ok call) v) (now_of call c.core.now)
  carried-by (Ok _) call = refl
  carried-by (Err r) call = refl

  carried-read : (lent : ℕ) (r : Read) (now : ℕ) (arrival : Stamp) → Carried (read_asked lent r now arrival) now
  unfolding message_asked
  carried-read lent (Err r) now arrival = refl
  carried-read lent (Ok (m, part)) now arrival = carried-by (first_of (of_handing (is_delay_req m.body) (is_stray lent))) (calls.Receive now arrival m)

  carried : (call : Handed ℕ) → Carried (asked_of call) (now_in call c.core.now)
  unfolding asked_of time_asked
  carried (receive lent octets now arrival) = carried-read lent (read_of octets) now arrival
  carried (request frame now) = refl
  carried (sent now sequence t3) = refl
  carried (time lent now) = carried-by (first_of (of_time (due_with Outside (is_stray lent) none_due))) (calls.Time now)
  carried reset = refl
  carried (tick reference clock) = refl
  carried line = refl
  carried show = refl

  spares-asked : (a : Asking) (now : ℕ) → Carried a now → wipes_of (stepped_by c a).answer ≡ true → Spared (stepped_by c a).answer now (stepped_by c a).unit
  spares-asked (Err r) now e h = absurd (never h)
  spares-asked (Ok call) now e h = subst (λ (n : ℕ). Spared (stepped_by c (Ok call)).answer n (stepped_by c (Ok call)).unit) e (spares-call call h)

  pub spares : (call : Handed ℕ) → wipes_of (stepped_by c (asked_of call)).answer ≡ true → Spared (stepped_by c (asked_of call)).answer (now_in call c.core.now) (stepped_by c (asked_of call)).unit
  spares call h = spares-asked (asked_of call) (now_in call c.core.now) (carried call) h

  -- FAULTY lasts until a reset
  abbrev Faulty : Stepped → Type 0
  Faulty d = d.unit.core.domain.faulty ≡ true

  faulty-ruled : c.core.domain.faulty ≡ true → (v : Ruling) (call : Call) → Faulty (step_of c call) → Faulty (stepped_by c (answer_by Err (Ok call) v))
  faulty-ruled f (Ok _) call h = h
  faulty-ruled f (Err r) call h = f

  faulty-read : c.core.domain.faulty ≡ true → (lent : ℕ) (r : Read) (now : ℕ) (arrival : Stamp) → Faulty (stepped_by c (read_asked lent r now arrival))
  unfolding message_asked
  faulty-read f lent (Err r) now arrival = f
  faulty-read f lent (Ok (m, part)) now arrival =
      faulty-ruled f (first_of (of_handing (is_delay_req m.body) (is_stray lent))) (calls.Receive now arrival m) (faulty-lasts c f (calls.Receive now arrival m) (λ e. let z : ◌≡◌ {A = ℕ} 0 1 = cc in absurd (omega arith)))

  pub faulty-stays : (call : Handed ℕ) → c.core.domain.faulty ≡ true → ((served_of c call).unit.core.domain.faulty ≡ true) ⊎ (call ≡ reset)
  unfolding served_of asked_of time_asked
  faulty-stays (receive lent octets now arrival) f = inl (faulty-read f lent (read_of octets) now arrival)
  faulty-stays (request frame now) f = inl (faulty-lasts c f (calls.Request now (length frame)) (λ e. let z : ◌≡◌ {A = ℕ} 0 1 = cc in absurd (omega arith)))
  faulty-stays (sent now sequence t3) f = inl (faulty-lasts c f (calls.Sent now sequence t3) (λ e. let z : ◌≡◌ {A = ℕ} 0 1 = cc in absurd (omega arith)))
  faulty-stays (time lent now) f =
      inl (faulty-ruled f (first_of (of_time (due_with Outside (is_stray lent) none_due))) (calls.Time now) (faulty-lasts c f (calls.Time now) (λ e. let z : ◌≡◌ {A = ℕ} 0 1 = cc in absurd (omega arith))))
  faulty-stays reset f = inr refl
  faulty-stays (tick reference clock) f = inl (faulty-lasts c f (calls.Tick reference clock) (λ e. let z : ◌≡◌ {A = ℕ} 0 1 = cc in absurd (omega arith)))
  faulty-stays line f = inl f
  faulty-stays show f = inl f

  pub table-by : (x : Table) (e : Effect) → (applied c x e).unit.table ≡ x
  table-by x (keeps a) = refl
  table-by x (goes a k r) = refl
  table-by x (takes origin y) = refl
  table-by x (wipes a k) = refl

  pub table-found : (a : Asking) → (stepped_by c a).unit.table ≡ table_found c a
  table-found (Err r) = refl
  table-found (Ok call) = table-by (unit_table c call) (unit_effect c call)

-- ---- the same at the door, where an answer is numbers
said-words : (said : Said) (output : Ppb) → says_wiped (answer_words (answers.Exchange said output)) ≡ wipes_of (answers.Exchange said output)
said-words Held output = refl
said-words Paired output = refl
said-words (Asked n) output = refl
said-words Stamped output = refl
said-words Back output = refl
said-words Neg output = refl
said-words Long output = refl
said-words Huge output = refl
said-words HugeFaulty output = refl
said-words Path output = refl
said-words PathWiped output = refl
said-words (Step offset) output = refl
said-words (Measured found) output = refl

pub wiped-words : (a : Answer) → says_wiped (answer_words a) ≡ wipes_of a
wiped-words (answers.Refused r) = refl
wiped-words (answers.Choice (decisions.Same m)) = refl
wiped-words (answers.Choice (decisions.Changed m)) = refl
wiped-words (answers.Exchange said output) = said-words said output
wiped-words (answers.Watch pulses.Valid) = refl
wiped-words (answers.Watch pulses.Invalid) = refl
wiped-words (answers.Watch pulses.Back) = refl
wiped-words (answers.Watch pulses.Range) = refl
wiped-words (answers.Watch pulses.Jump) = refl
wiped-words answers.Wiped = refl
wiped-words (answers.Line l n) = refl
wiped-words (answers.Shows x) = refl

pub words-refused : (a : Answer) → is_refused (answer_words a) ≡ is_refusal a
words-refused (answers.Refused r) = refl
words-refused (answers.Choice (decisions.Same m)) = refl
words-refused (answers.Choice (decisions.Changed m)) = refl
words-refused (answers.Exchange said output) = said-speaks said
words-refused (answers.Watch p) = pulse-speaks p
words-refused answers.Wiped = refl
words-refused (answers.Line l n) = refl
words-refused (answers.Shows x) = refl
