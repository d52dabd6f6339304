-- Whatever calls a fresh unit got, its next answer is the one that the book of those calls gives.
use Rattle.std.specs.Prelude.{Ok, Err}
use mathlib.Core.Path.{◌≡◌, refl, ap, ◌∙◌, subst}
use mathlib.Core.List.{List, [], ◌∷◌, reverse}
use Prim.Native.Nat.{ℕ}
use Rattle.wire_layout.specs.declared.message.Header.{Header}
use Rattle.wire_layout.specs.declared.message.Body.{Body}
use Rattle.wire_layout.specs.declared.message.Body.TheVariants as bodies
use Rattle.numbers.specs.declared.stamp.Stamp.{Stamp}
use Rattle.rules_settings.specs.declared.Settings.{Settings}
use Rattle.unit_core.specs.declared.calls.Call.{Call}
use Rattle.unit_core.specs.declared.calls.Call.TheVariants as calls
use Rattle.unit.specs.declared.Unit.{Unit}
use Rattle.unit_handing.specs.Handing.{Asked}
use Rattle.unit.specs.Receiving.{receives, table_by}
use Rattle.unit.specs.Machine.{Past, effect_after, past, answer_after}
use Rattle.unit.specs.Calls.{table_after, fresh_unit}
use Rattle.unit_handing.specs.Handing.{Handed, asked_of, stepped_by, served_of, served_all, with_asked, calls_in}
use Rattle.unit.proofs.Simulation.{played, all-answers}
use Rattle.unit_handing.proofs.Served.{served-is, calls-reversed}
use Rattle.story.specs.Book.{Book}
use Rattle.story.specs.Saying.{message_answer, answer}
use Rattle.story.specs.Tale.{answer_to, book_by, book, answer_by_history}
use Rattle.story.proofs.Tells.{Tells, start-tells, Agrees}
use Rattle.story.proofs.Calling.{hears-sync, hears-follow, hears-resp, hears-req, sent-told, request-told, reset-told}
use Rattle.story.proofs.Others.{announce-told, time-told, tick-told, line-told, show-told}

module _ (s : Settings) (b : Book) (p : Past) (h : Tells s b p) where
  receive-told : (now : ℕ) (t2 : Stamp) (hd : Header) (body : Body)
      → Agrees s b p (calls.Receive now t2 (record { header = hd; body = body })) (table_by s p.stays p.table now hd body) (message_answer s b now t2 hd body)
      (receives s p.stays p.progress p.table now t2 hd body)
  receive-told now t2 hd (bodies.Announce stamp offer) = announce-told s b p h now t2 hd stamp offer
  receive-told now t2 hd (bodies.DelayReq t) = hears-req s b p h now t2 hd t
  receive-told now t2 hd (bodies.Sync t1) = hears-sync s b p h now t2 hd t1
  receive-told now t2 hd (bodies.FollowUp t1) = hears-follow s b p h now t2 hd t1
  receive-told now t2 hd (bodies.DelayResp t4 r) = hears-resp s b p h now t2 hd t4 r

  -- one call
  pub step : (call : Call) → Agrees s b p call (table_after s p.stays p.table call) (answer s b call) (effect_after s p call)
  unfolding answer
  step (calls.Receive now t2 m) = receive-told now t2 m.header m.body
  step (calls.Request now room) = request-told s b p h now room
  step (calls.Sent now n t3) = sent-told s b p h now n t3
  step (calls.Time now) = time-told s b p h now
  step calls.Reset = reset-told s b p h
  step (calls.Tick r c) = tick-told s b p h r c
  step calls.Line = line-told s b p h
  step calls.Show = show-told s b p h

-- any list of calls, the newest first
asked-tells : (s : Settings) (b : Book) (before : List Call) → Tells s b (past s before) → (a : Asked) → Tells s (book_by s b a) (past s (with_asked a before))
unfolding past
asked-tells s b before t (Err r) = t
asked-tells s b before t (Ok call) = (step s b (past s before) t call).tells

pub tells : (s : Settings) (before : List (Handed ℕ)) → Tells s (book s before) (past s (calls_in before))
unfolding book past calls_in
tells s [] = start-tells s
tells s (call ∷ before) = asked-tells s (book s before) (calls_in before) (tells s before) (asked_of call)

-- and so for the unit itself, whatever its settings: the calls oldest first, refused ones among them
pub past-tells : (s : Settings) (list : List (Handed ℕ)) → Tells s (book s (reverse list)) (past s (reverse (calls_in list)))
past-tells s list = subst (λ (l : List Call). Tells s (book s (reverse list)) (past s l)) (calls-reversed list) (tells s (reverse list))

asked-refines : (s : Settings) (list : List (Handed ℕ)) (a : Asked) → (stepped_by (played (fresh_unit s) (calls_in list)) a).answer ≡ answer_to s (book s (reverse list)) a
unfolding answer_after
asked-refines s list (Err r) = refl
asked-refines s list (Ok call) = all-answers s (calls_in list) call ∙ (step s (book s (reverse list)) (past s (reverse (calls_in list))) (past-tells s list) call).says

pub unit-refines : (s : Settings) (list : List (Handed ℕ)) (call : Handed ℕ) → (served_of (served_all (fresh_unit s) list) call).answer ≡ answer_by_history s (reverse list) call
unfolding served_of answer_by_history
unit-refines s list call = ap (λ (c : Unit). (stepped_by c (asked_of call)).answer) (served-is (fresh_unit s) list) ∙ asked-refines s list (asked_of call)
