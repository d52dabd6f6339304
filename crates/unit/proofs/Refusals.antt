-- A refusal leaves the unit as it was, whatever its bits are.
use Rattle.std.specs.Prelude.{Ok, Err}
use mathlib.Core.Path.{◌≡◌, refl, sym, ◌∙◌, subst}
use mathlib.Core.Bool.{Bool, true, false}
use Prim.Native.Nat.{ℕ}
use lib.Dec.{T}
use Rattle.numbers.specs.declared.stamp.Stamp.{Stamp}
use Rattle.wire_layout.specs.declared.message.Header.{Header}
use Rattle.wire_layout.specs.declared.message.Body.{Body}
use Rattle.wire_layout.specs.declared.message.Body.TheVariants as bodies
use Rattle.rules_masters.specs.declared.record.Announce.{Announce}
use Rattle.rules_masters.specs.declared.table.Table.{Table}
use Rattle.rules_masters.specs.Admitting.{Admitted}
use Rattle.numbers.specs.Grounds.{Ruling}
use Rattle.rules_masters.specs.Records.{interval_of}
use Rattle.numbers.specs.Grounds.{first_of}
use Rattle.rules_masters.specs.Holding.{chosen_at, decision_of, wipes_of}
use Rattle.rules_masters.specs.Admitting.{grounds_of, is_known, standings_in, accepted_of, admitted_by, admitted_of}
use Rattle.rules_watch.specs.Watch.{since_of}
use Rattle.unit_core.specs.declared.calls.Call.{Call}
use Rattle.unit_core.specs.declared.calls.Call.TheVariants.{Receive, Request, Sent, Time, Reset, Tick, Line, Show}
use Rattle.unit_core.specs.declared.calls.Answer.TheVariants.{Watch as Watched}
use Rattle.rules_watch.specs.Rules.{pulse_of}
use Rattle.unit_core.specs.Effects.{Effect, keeps, goes, takes, wipes, stays_of, progress_of, moved_by}
use Rattle.unit_core.specs.Answers.{is_refusal}
use Rattle.unit_choosing.specs.Choosing.{chooses, admits, announces}
use Rattle.unit_ticking.specs.Ticking.{ticks}
use Rattle.unit_ticking.proofs.Pulses.{by_test, every-outcome}
use Rattle.unit.proofs.Fair.{Fair}
use Rattle.unit.specs.declared.Unit.{Unit}
use Rattle.unit.specs.Receiving.{receives, table_by}
use Rattle.unit.specs.Calls.{applied, unit_effect, unit_table}
use Rattle.unit.proofs.Fairly.{most, fair}

pub never : false ≡ true → ⊥
never e = subst T (sym e) tt

module _ (c : Unit) where
  abbrev Refused : Effect → Type 0
  Refused e = is_refusal (moved_by c.core c.servo e).answer ≡ true

  -- ---- the table: an Announce that is refused does not change it
  not_chosen : (t : Table) (now : ℕ) → Refused (chooses c.core.settings (stays_of c.core) (progress_of c.core c.servo) t now) → ⊥
  unfolding chooses
  not_chosen t now = by_test (λ e. Refused e → ⊥) (wipes_of (decision_of c.core.domain.chosen (chosen_at t.records now c.core.settings.announce))) never never

  abbrev ends : ℕ → Admitted → Effect
  ends now a = admits c.core.settings (stays_of c.core) (progress_of c.core c.servo) a.table now a.answer

  not-accepted : (m : Announce) (interval now : ℕ) → Refused (ends now (accepted_of c.table.records m interval now)) → ⊥
  unfolding accepted_of
  not-accepted m interval now = by_test (λ (a : Admitted). Refused (ends now a) → ⊥) (is_known (standings_in c.table.records m interval now)) (not_chosen _ now) (not_chosen _ now)

  by-verdict : (m : Announce) (interval now : ℕ) (v : Ruling) → Refused (ends now (admitted_by v c.table (accepted_of c.table.records m interval now)))
      → (admitted_by v c.table (accepted_of c.table.records m interval now)).table ≡ c.table
  by-verdict m interval now (Ok _) h = absurd (not-accepted m interval now h)
  by-verdict m interval now (Err n) h = refl

  same-table : (now : ℕ) (arrival : Stamp) (h : Header) (b : Body)
      → Refused (receives c.core.settings (stays_of c.core) (progress_of c.core c.servo) c.table now arrival h b)
      → table_by c.core.settings (stays_of c.core) c.table now h b ≡ c.table
  unfolding announces admitted_of
  same-table now arrival h (bodies.Announce stamp offer) e =
      let m : Announce = record { header = h; stamp = stamp; offer = offer } in
      let i = interval_of c.core.settings.announce in
      by-verdict m i now (first_of (grounds_of c.table m c.core.settings.domain c.core.settings.own c.core.settings.announce c.core.now now)) e
  same-table now arrival h (bodies.DelayReq stamp) e = refl
  same-table now arrival h (bodies.Sync t1) e = refl
  same-table now arrival h (bodies.FollowUp t1) e = refl
  same-table now arrival h (bodies.DelayResp t4 requester) e = refl

  refused-table : (call : Call) → Refused (unit_effect c call) → unit_table c call ≡ c.table
  refused-table (Receive now arrival m) e = same-table now arrival m.header m.body e
  refused-table (Request now room) e = refl
  refused-table (Sent now sequence t3) e = refl
  refused-table (Time now) e = refl
  refused-table Reset e = refl
  refused-table (Tick reference clock) e = refl
  refused-table Line e = refl
  refused-table Show e = refl

  -- ---- and all else
  abbrev Same : Effect → Type 0
  Same e = Refused e → (applied c c.table e).unit ≡ c

  same-fair : (e : Effect) → Fair (most c) e → Same e
  same-fair (keeps a) f h = refl
  same-fair (goes a k r) f h = absurd (never (sym f.0 ∙ h))
  same-fair (takes origin x) f h = absurd f
  same-fair (wipes a k) f h = absurd (never (sym f.0 ∙ h))

  marked : (b : Bool) → is_refusal (Watched (pulse_of b)) ≡ true → ⊥
  marked true h = never h
  marked false h = never h

  same_by : (call : Call) → Fair (most c) (unit_effect c call) → Same (unit_effect c call)
  same_by call = same-fair (unit_effect c call)

  same_rest : (call : Call) → Same (unit_effect c call)
  same_rest (Receive now arrival m) = same_by (Receive now arrival m) (fair c (Receive now arrival m))
  same_rest (Request now room) = same_by (Request now room) (fair c (Request now room))
  same_rest (Sent now sequence t3) = same_by (Sent now sequence t3) (fair c (Sent now sequence t3))
  same_rest (Time now) = same_by (Time now) (fair c (Time now))
  same_rest Reset = same_by Reset (fair c Reset)
  same_rest (Tick reference clock) =
      every-outcome (λ o. Same (ticks (stays_of c.core) o)) (λ n h. refl) (λ a k h. absurd (never h))
      (λ origin x h. absurd (marked x.valid h))
      c.core.settings.watch (since_of c.watch) reference clock
  same_rest Line = same_by Line (fair c Line)
  same_rest Show = same_by Show (fair c Show)

  pub refused-same : (call : Call) → Refused (unit_effect c call) → (applied c (unit_table c call) (unit_effect c call)).unit ≡ c
  refused-same call h = rw (refused-table call h) (same_rest call h)
