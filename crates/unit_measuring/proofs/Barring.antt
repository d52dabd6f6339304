-- The refusals of a call of the exchange in two parts: those that the unit asks, and those that the exchange asks itself.
use Rattle.std.specs.Prelude.{Ok, Err}
use mathlib.Core.Path.{◌≡◌, refl, sym, ap, ◌∙◌}
use mathlib.Core.List.{List, []}
use mathlib.Core.Bool.{Bool, true, false, not, cond}
use Prim.Native.Nat.{ℕ}
use lib.Dec.{ltb}
use Rattle.numbers.specs.declared.stamp.Stamp.{Stamp}
use Rattle.numbers.specs.Grounds.{Ruling}
use Rattle.numbers.specs.declared.refusal.Refusal.TheVariants.{Kind, Field, Now, Faulty, Domain, NotMaster, Correction, Unmatched, Room}
use Rattle.numbers.specs.Grounds.{Ground, gives, first_of}
use Rattle.numbers.specs.Orders.{Due, none_due, due_with, of_exchange}
use Rattle.numbers.proofs.Grounds.{or_else, bars}
use Rattle.wire_layout.specs.declared.message.Header.{Header}
use Rattle.wire_layout.specs.declared.message.Body.{Body}
use Rattle.wire_layout.specs.declared.message.Body.TheVariants.{Sync, DelayReq, FollowUp, DelayResp, Announce}
use Rattle.rules_exchange.specs.declared.Exchange.{Exchange}
use Rattle.rules_exchange.specs.Table.{Event, sync, follow_up, delay_resp}
use Rattle.rules_exchange.specs.Events.{Answered, correction_in, unmatched_of, exchange_due, grounds_of, tells_of, unless_barred, told}
use Rattle.rules_settings.specs.declared.Settings.{Settings}
use Rattle.unit_core.specs.Effects.{Stays, Progress, unless, with_now}
use Rattle.unit_measuring.specs.Measuring.{exchanges}
use Rattle.unit_measuring.specs.Hearing.{two_step_in, hears}
use Rattle.unit_measuring.specs.Barring.{call_due, field_in, from_elsewhere, from_another, message_due, own_due}
use Rattle.unit_measuring.specs.Inner.{message_grounds, handed}

-- the eight, each by its truth value
abbrev eight : (f n a d m c u r : Bool) → List Ground
eight f n a d m c u r =
    of_exchange
    (due_with Field f (due_with Now n (due_with Faulty a (due_with Domain d (due_with NotMaster m (due_with Correction c (due_with Unmatched u (due_with Room r none_due))))))))

pub two-parts : (f n a d m c u r : Bool) → first_of (eight f n a d m c u r) ≡ or_else (first_of (eight f n a d m false false false)) (first_of (eight false false false false false c u r))
unfolding first_of
two-parts true n a d m c u r = refl
two-parts false true a d m c u r = refl
two-parts false false true d m c u r = refl
two-parts false false false true m c u r = refl
two-parts false false false false true c u r = refl
two-parts false false false false false c u r = refl

-- and the first part again in two: those of any call, and DOMAIN and NOT_MASTER
behind : (f n a d m : Bool) → first_of (eight f n a d m false false false) ≡ or_else (first_of (eight f n a false false false false false)) (cond d (Err Domain) (cond m (Err NotMaster) (Ok tt)))
unfolding first_of
behind true n a d m = refl
behind false true a d m = refl
behind false false true d m = refl
behind false false false d m = refl

pub master-bars : (s : Settings) (k : Stays) (now : ℕ) (h : Header) (field : Bool) (v : Ruling) → v ≡ first_of (of_exchange (call_due k now field))
    → first_of (of_exchange (message_due s k now h field)) ≡ or_else v (cond (from_elsewhere s h) (Err Domain) (cond (from_another k h) (Err NotMaster) (Ok tt)))
master-bars s k now h field v e =
    behind field (ltb now k.now) k.faulty (from_elsewhere s h) (from_another k h)
    ∙ ap (λ (w : Ruling). or_else w (cond (from_elsewhere s h) (Err Domain) (cond (from_another k h) (Err NotMaster) (Ok tt)))) (sym e)

pub own-bars : (k : Stays) (now : ℕ) (field : Bool) (v : Ruling) → v ≡ first_of (of_exchange (call_due k now field))
    → first_of (of_exchange (own_due k now field)) ≡ or_else v (cond (not k.chosen.some) (Err NotMaster) (Ok tt))
own-bars k now field v e =
    behind field (ltb now k.now) k.faulty false (not k.chosen.some)
    ∙ ap (λ (w : Ruling). or_else w (cond (not k.chosen.some) (Err NotMaster) (Ok tt))) (sym e)

module _ (s : Settings) (k : Stays) (r : Progress) (x : Exchange) (e : Event) where
  by_parts : (v w : Ruling) (t : Answered) → unless (or_else v w) (exchanges s k r t) ≡ unless v (exchanges s k r (unless_barred x w t))
  by_parts (Ok _) (Ok _) t = refl
  by_parts (Ok _) (Err n) t = refl
  by_parts (Err n) w t = refl

  -- the whole list, and then what follows, is the first part, and then the exchange's own answer
  pub unless-told : (due : Due) → due Correction ≡ false → due Unmatched ≡ false → due Room ≡ false
      → unless (first_of (of_exchange (exchange_due x e due))) (exchanges s k r (tells_of x e)) ≡ unless (first_of (of_exchange due)) (exchanges s k r (told x e))
  unfolding told
  unless-told due c u o =
      rw (c, u, o, two-parts (due Field) (due Now) (due Faulty) (due Domain) (due NotMaster) (correction_in e) (unmatched_of x e) false)
      (by_parts (first_of (eight (due Field) (due Now) (due Faulty) (due Domain) (due NotMaster) false false false)) (first_of (grounds_of x e)) (tells_of x e))

-- a message of any kind
pub heard-by : (s : Settings) (k : Stays) (r : Progress) (now : ℕ) (t2 : Stamp) (h : Header) (b : Body)
    → unless (first_of (message_grounds s k now t2 h b)) (exchanges s (with_now now k) r (handed r.exchange s.own t2 h b)) ≡ hears s k r now t2 h b
unfolding hears
heard-by s k r now t2 h (Sync t1) = sym (unless-told s (with_now now k) r r.exchange (sync (two_step_in h) h.sequence h.correction t1 t2) (message_due s k now h (field_in t2 (Sync t1))) refl refl refl)
heard-by s k r now t2 h (DelayReq t) = ap (λ (v : Ruling). unless v (exchanges s (with_now now k) r (handed r.exchange s.own t2 h (DelayReq t)))) (bars (gives Kind true) [] refl)
heard-by s k r now t2 h (FollowUp t1) = sym (unless-told s (with_now now k) r r.exchange (follow_up h.sequence h.correction t1) (message_due s k now h (field_in t2 (FollowUp t1))) refl refl refl)
heard-by s k r now t2 h (DelayResp t4 p) = sym (unless-told s (with_now now k) r r.exchange (delay_resp h.sequence h.correction t4 p s.own) (message_due s k now h (field_in t2 (DelayResp t4 p))) refl refl refl)
heard-by s k r now t2 h (Announce t o) = ap (λ (v : Ruling). unless v (exchanges s (with_now now k) r (handed r.exchange s.own t2 h (Announce t o)))) (bars (gives Kind true) [] refl)
