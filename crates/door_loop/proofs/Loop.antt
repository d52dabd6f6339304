-- A loop that lends the parts as the last call left them is the unit: after any list of calls the parts tell the unit's state, and every answer is the
-- unit's answer as numbers. So what is proved of a list of calls of the unit holds of the loop.
use Rattle.std.specs.Prelude.{Ok, Err}
use mathlib.Core.Path.{◌≡◌, refl, sym, ap, ◌∙◌}
use mathlib.Core.Bool.{Bool, true, false, cond, not}
use mathlib.Core.List.{List, [], ◌∷◌, map}
use Prim.Native.Nat.{ℕ}
use lib.Dec.{eqb}
use lib.ListN.{length, length-map}
use borrow.Author.Tests.{eq-eqb}
use Rattle.numbers.specs.declared.stamp.Stamp.{Stamp}
use Rattle.numbers.specs.Grounds.{first_of}
use Rattle.wire_layout.specs.declared.message.Header.{Header}
use Rattle.wire_layout.specs.declared.message.Body.{Body}
use Rattle.wire_layout.specs.declared.message.Body.TheVariants as bodies
use Rattle.wire_layout.specs.Reading.{Read}
use Rattle.unit_handing.specs.Handing.{Asked}
use Rattle.wire_layout.specs.Reading.{read_of}
use Rattle.rules_masters.proofs.Admissions.{admission-five}
use Rattle.rules_settings.specs.declared.Settings.{Settings}
use Rattle.unit_core.specs.declared.calls.Call.TheVariants.{Receive, Request, Sent, Time, Reset, Tick, Line, Show}
use Rattle.unit_choosing.specs.Choosing.{announces}
use Rattle.unit_measuring.specs.Hearing.{hears}
use Rattle.unit_measuring.proofs.Barring.{heard-by}
use Rattle.unit.specs.declared.Unit.{Unit}
use Rattle.unit.specs.Calls.{unit_table, fresh_unit}
use Rattle.unit_handing.specs.Handing.{Handed, receive, request, sent, time, reset, tick, line, show, message_asked, read_asked, time_asked, asked_of, stepped_by, served_of, served_all}
use Rattle.door_records.specs.declared.masters.MasterWords.{MasterWords}
use Rattle.door_records.specs.Masters.{record_in}
use Rattle.door_core.specs.Receiving.{received_by, sorted_by}
use Rattle.door_loop.specs.Lending.{Lent, received_in, time_of}
use Rattle.door_loop.specs.Loop.{Parts, unit_in, Table, own, stray, counted_in, from_lent, from_turned, lends, looped, Meant, means, fresh_parts}
use Rattle.door_loop.proofs.Calls.{meant_in, stepped, u, c, set, stays, progress, by, heard-same, sent-same, requested-same, ticked-same, lined-same}
use Rattle.door_loop.proofs.Choosing.{announced-same, passed-same}

-- a table of five is taken
tabled : (n : ℕ) → n ≡ 5 → (a b : Lent) → meant_in (from_lent (cond (eqb n 5) a b)) ≡ meant_in (from_lent a)
tabled n e a b = rw (eq-eqb n 5 e)

-- one that is not of five is not
strayed : (b : Bool) → not b ≡ true → b ≡ false
strayed true e = sym e
strayed false e = refl

module _ (p : Parts) where
  -- ---- a message that was read, with the loop's own table, ..
  module _ (five : length p.table ≡ 5) where
    message-same : (now : ℕ) (t2 : Stamp) (h : Header) (b : Body)
        → meant_in (from_lent (received_in (u p) p.servo p.table p.watch (sorted_by (record { header = h; body = b }) b) now t2)) ≡ stepped (stepped_by (c p) (message_asked 5 (record { header = h; body = b }) now t2))
    unfolding announces hears message_asked first_of
    message-same now t2 h (bodies.Sync s) = tabled (length p.table) five _ _ ∙ heard-same p now t2 h (bodies.Sync s) ∙ ap (by p) (heard-by (set p) (stays p) (progress p) now t2 h (bodies.Sync s))
    message-same now t2 h (bodies.DelayReq s) = refl
    message-same now t2 h (bodies.FollowUp s) = tabled (length p.table) five _ _ ∙ heard-same p now t2 h (bodies.FollowUp s) ∙ ap (by p) (heard-by (set p) (stays p) (progress p) now t2 h (bodies.FollowUp s))
    message-same now t2 h (bodies.DelayResp s x) = tabled (length p.table) five _ _ ∙ heard-same p now t2 h (bodies.DelayResp s x) ∙ ap (by p) (heard-by (set p) (stays p) (progress p) now t2 h (bodies.DelayResp s x))
    message-same now t2 h (bodies.Announce s o) = tabled (length p.table) five _ _ ∙ (announced-same p five now (record { header = h; body = bodies.Announce s o }))

    -- octets: those that cannot be read change nothing
    read_same : (r : Read) (now : ℕ) (t2 : Stamp) → meant_in (from_lent (received_in (u p) p.servo p.table p.watch (received_by r) now t2)) ≡ stepped (stepped_by (c p) (read_asked 5 r now t2))
    read_same (Err n) now t2 = refl
    read_same (Ok (m, part)) now t2 = message-same now t2 m.header m.body

    timed-same : (now : ℕ) → meant_in (lends p (time own now)) ≡ means (c p) (time own now)
    unfolding lends means served_of asked_of time_asked first_of
    timed-same now = tabled (length p.table) five _ _ ∙ passed-same p five now

  -- ---- .. and with another that is not of five: refused, whatever it holds
  module _ (t : List MasterWords) (e : eqb (length t) 5 ≡ false) where
    stray-message : (now : ℕ) (t2 : Stamp) (h : Header) (b : Body)
        → meant_in (from_turned p (received_in (u p) p.servo t p.watch (sorted_by (record { header = h; body = b }) b) now t2)) ≡ stepped (stepped_by (c p) (message_asked (length t) (record { header = h; body = b }) now t2))
    unfolding message_asked first_of
    stray-message now t2 h (bodies.Sync s) = rw e
    stray-message now t2 h (bodies.DelayReq s) = refl
    stray-message now t2 h (bodies.FollowUp s) = rw e
    stray-message now t2 h (bodies.DelayResp s x) = rw e
    stray-message now t2 h (bodies.Announce s o) = rw e

    stray-read : (r : Read) (now : ℕ) (t2 : Stamp) → meant_in (from_turned p (received_in (u p) p.servo t p.watch (received_by r) now t2)) ≡ stepped (stepped_by (c p) (read_asked (length t) r now t2))
    stray-read (Err n) now t2 = refl
    stray-read (Ok (m, part)) now t2 = stray-message now t2 m.header m.body

    stray-time : (now : ℕ) → meant_in (from_turned p (time_of (u p) p.servo t p.watch now)) ≡ stepped (stepped_by (c p) (time_asked (length t) now))
    unfolding time_asked first_of
    stray-time now = rw e

  -- ---- every call
  module _ (five : length p.table ≡ 5) where
    pub same : (call : Handed Table) → meant_in (lends p call) ≡ means (unit_in p) call
    unfolding lends means served_of asked_of
    same (receive own octets now arrival) = read_same five (read_of octets) now arrival
    same (receive (stray t e) octets now arrival) = stray-read t (strayed (eqb (length t) 5) e) (read_of octets) now arrival
    same (request frame now) = requested-same p frame now
    same (sent now sequence t3) = sent-same p now sequence t3
    same (time own now) = timed-same five now
    same (time (stray t e) now) = stray-time t (strayed (eqb (length t) 5) e) now
    same reset = refl
    same (tick reference clock) = ticked-same p reference clock
    same line = lined-same p
    same show = refl

-- ---- five they stay: a unit's table of five is one of five after any call
five-kind : (x : Unit) → length x.table.records ≡ 5 → (now : ℕ) (arrival : Stamp) (h : Header) (b : Body) → length (unit_table x (Receive now arrival (record { header = h; body = b }))).records ≡ 5
five-kind x five now arrival h (bodies.Sync s) = five
five-kind x five now arrival h (bodies.DelayReq s) = five
five-kind x five now arrival h (bodies.FollowUp s) = five
five-kind x five now arrival h (bodies.DelayResp s q) = five
five-kind x five now arrival h (bodies.Announce s o) = admission-five x.table (record { header = h; stamp = s; offer = o }) _ _ _ _ _ five

five-asked : (x : Unit) → length x.table.records ≡ 5 → (asked : Asked) → length (stepped_by x asked).unit.table.records ≡ 5
five-asked x five (Err r) = five
five-asked x five (Ok (Receive now arrival m)) = five-kind x five now arrival m.header m.body
five-asked x five (Ok (Request now room)) = five
five-asked x five (Ok (Sent now sequence t3)) = five
five-asked x five (Ok (Time now)) = five
five-asked x five (Ok Reset) = five
five-asked x five (Ok (Tick reference clock)) = five
five-asked x five (Ok Line) = five
five-asked x five (Ok Show) = five

pub five-after : (p : Parts) → length p.table ≡ 5 → (call : Handed Table) → length (lends p call).parts.table ≡ 5
unfolding means served_of
five-after p five call =
    sym (length-map (lends p call).parts.table record_in)
    ∙ ap (λ (m : Meant). length m.unit.table.records) (same p five call)
    ∙ five-asked (unit_in p) (length-map p.table record_in ∙ five) (asked_of (counted_in call))

-- ---- any list of calls, the oldest first
pub five-looped : (p : Parts) → length p.table ≡ 5 → (calls : List (Handed Table)) → length (looped p calls).table ≡ 5
unfolding looped
five-looped p five [] = five
five-looped p five (call ∷ l) = five-looped (lends p call).parts (five-after p five call) l

pub loop-is-unit : (p : Parts) → length p.table ≡ 5 → (calls : List (Handed Table)) → unit_in (looped p calls) ≡ served_all (unit_in p) (map counted_in calls)
unfolding looped served_all means
loop-is-unit p five [] = refl
loop-is-unit p five (call ∷ l) =
    loop-is-unit (lends p call).parts (five-after p five call) l
    ∙ ap (λ (m : Meant). served_all m.unit (map counted_in l)) (same p five call)

-- THEOREM. From the parts of a fresh unit: they tell the unit's state, ..
pub parts-told : (s : Settings) (calls : List (Handed Table)) → unit_in (looped (fresh_parts s) calls) ≡ served_all (fresh_unit s) (map counted_in calls)
parts-told s calls = loop-is-unit (fresh_parts s) refl calls

-- .. and every answer is the unit's, and so is the frame
pub answers-told : (s : Settings) (calls : List (Handed Table)) (call : Handed Table)
    → meant_in (lends (looped (fresh_parts s) calls) call) ≡ means (served_all (fresh_unit s) (map counted_in calls)) call
answers-told s calls call =
    same (looped (fresh_parts s) calls) (five-looped (fresh_parts s) refl calls) call
    ∙ ap (λ (x : Unit). means x call) (parts-told s calls)
