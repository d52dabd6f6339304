-- Calls as they are handed over: a refusal leaves unit and frame as they were, and a list of them is the list of those that reach the unit.
use Rattle.std.specs.Prelude.{Ok, Err}
use mathlib.Core.Path.{◌≡◌, refl, ◌∙◌}
use mathlib.Core.Bool.{true}
use mathlib.Core.List.{List, [], ◌∷◌, reverse, reverse_aux}
use Prim.Native.Nat.{ℕ}
use lib.ListN.{length}
use Rattle.numbers.specs.Grounds.{Ruling}
use Rattle.unit_handing.specs.Handing.{Asked}
use Rattle.numbers.specs.Grounds.{first_of}
use Rattle.rules_exchange.specs.Table.{requested, row_by}
use Rattle.rules_exchange.specs.Events.{tells_of, stamp_taken}
use Rattle.wire_frames.specs.Frames.{request_of}
use Rattle.unit_core.specs.declared.calls.Call.{Call}
use Rattle.unit_core.specs.Effects.{unless, stays_of, progress_of}
use Rattle.unit_core.specs.Answers.{is_refusal}
use Rattle.unit_measuring.specs.Measuring.{by_said, exchanges}
use Rattle.unit_measuring.specs.Asking.{request_grounds, with_next_sequence, requests}
use Rattle.unit_measuring.specs.Frame.{frame_by}
use Rattle.unit.specs.declared.Unit.{Unit}
use Rattle.unit.specs.Calls.{applied}
use Rattle.unit_handing.specs.Handing.{Handed, receive, request, sent, time, reset, tick, line, show, asked_of, stepped_by, served_of, frame_in, frame_left, served_all, with_asked, calls_in}
use Rattle.unit.proofs.Refusals.{never, refused-same}
use Rattle.unit.proofs.Simulation.{played}

-- ---- a refusal leaves the unit as it was, ..
kept : (c : Unit) (a : Asked) → is_refusal (stepped_by c a).answer ≡ true → (stepped_by c a).unit ≡ c
kept c (Err r) e = refl
kept c (Ok call) e = refused-same c call e

pub refusal-keeps : (c : Unit) (call : Handed ℕ) → is_refusal (served_of c call).answer ≡ true → (served_of c call).unit ≡ c
unfolding served_of
refusal-keeps c call e = kept c (asked_of call) e

-- .. and the lent frame
frame-by : (c : Unit) (now : ℕ) (v : Ruling) (f : List ℕ)
    → is_refusal (applied c c.table (unless v (exchanges c.core.settings (with_next_sequence now (stays_of c.core)) (progress_of c.core c.servo) (tells_of c.core.domain.run.exchange (requested c.core.domain.sequence))))).answer ≡ true
    → frame_by v (request_of c.core.settings.domain c.core.settings.own c.core.domain.sequence) f ≡ f
unfolding tells_of row_by stamp_taken by_said
frame-by c now (Ok _) f e = absurd (never e)
frame-by c now (Err n) f e = refl

pub refusal-keeps-frame : (c : Unit) (call : Handed ℕ) → is_refusal (served_of c call).answer ≡ true → frame_left c call ≡ frame_in call
unfolding served_of asked_of requests
refusal-keeps-frame c (receive lent octets now arrival) e = refl
refusal-keeps-frame c (request frame now) e = frame-by c now (first_of (request_grounds (stays_of c.core) now (length frame))) frame e
refusal-keeps-frame c (sent now sequence t3) e = refl
refusal-keeps-frame c (time lent now) e = refl
refusal-keeps-frame c reset e = refl
refusal-keeps-frame c (tick reference clock) e = refl
refusal-keeps-frame c line e = refl
refusal-keeps-frame c show e = refl

-- ---- a list of calls
played-by : (c : Unit) (l : List Call) (a : Asked) → played (stepped_by c a).unit l ≡ played c (with_asked a l)
unfolding played
played-by c l (Err r) = refl
played-by c l (Ok call) = refl

pub served-is : (c : Unit) (l : List (Handed ℕ)) → served_all c l ≡ played c (calls_in l)
unfolding served_all served_of calls_in played
served-is c [] = refl
served-is c (call ∷ l) = served-is (stepped_by c (asked_of call)).unit l ∙ played-by c (calls_in l) (asked_of call)

-- the same list the other way round
asked-onto : (l before : List Call) (a : Asked) → reverse_aux l (with_asked a before) ≡ reverse_aux (with_asked a l) before
asked-onto l before (Err r) = refl
asked-onto l before (Ok call) = refl

calls-onto : (l before : List (Handed ℕ)) → calls_in (reverse_aux l before) ≡ reverse_aux (calls_in l) (calls_in before)
unfolding calls_in
calls-onto [] before = refl
calls-onto (call ∷ l) before = calls-onto l (call ∷ before) ∙ asked-onto (calls_in l) (calls_in before) (asked_of call)

pub calls-reversed : (l : List (Handed ℕ)) → calls_in (reverse l) ≡ reverse (calls_in l)
unfolding calls_in
calls-reversed l = calls-onto l []
