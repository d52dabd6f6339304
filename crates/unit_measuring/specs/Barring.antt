-- What bars a call of the exchange before the exchange itself is asked: which of the unit's refusals are due, of any call, of a message, of the unit's
-- own call. The book's story asks the same, of what it reads off the book.
use Rattle.std.specs.Prelude.{ℕ, Bool, false, not, ◌||◌, ltb, eqb}
use Rattle.numbers.specs.declared.refusal.Refusal.TheVariants.{Field, Now, Domain, NotMaster, Faulty}
use Rattle.numbers.specs.declared.stamp.Stamp.{Stamp}
use Rattle.numbers.specs.Orders.{Due, none_due, due_with}
use Rattle.wire_layout.specs.declared.message.Header.{Header}
use Rattle.wire_layout.specs.declared.message.Body.{Body}
use Rattle.wire_layout.specs.declared.message.Body.TheVariants.{Sync, DelayReq, FollowUp, DelayResp, Announce}
use Rattle.rules_masters.specs.Holding.{is_master}
use Rattle.rules_exchange.specs.Events.{field_of}
use Rattle.rules_settings.specs.declared.Settings.{Settings}
use Rattle.unit_core.specs.Effects.{Stays}

-- FIELD of the stamps that the call brings; NOW below the last one; FAULTY
abbrev pub call_due : Stays → (now : ℕ) → (field : Bool) → Due
call_due k now field = due_with Field field (due_with Now (ltb now k.now) (due_with Faulty k.faulty none_due))

-- of a message FIELD is asked of the stamp that it has, a t1 or a t4, and of a Sync's t2 (rule 3.5); the other two kinds' stamps are used for nothing
abbrev pub field_in : (t2 : Stamp) → Body → Bool
field_in t2 (Sync t1) = field_of t1 || field_of t2
field_in t2 (DelayReq t) = false
field_in t2 (FollowUp t1) = field_of t1
field_in t2 (DelayResp t4 requester) = field_of t4
field_in t2 (Announce t offer) = false

-- of a message DOMAIN is due for another domain than the set one, NOT_MASTER where the sender is not the master chosen, or none is
abbrev pub from_elsewhere : Settings → Header → Bool
from_elsewhere s h = not (eqb h.domain s.domain)

abbrev pub from_another : Stays → Header → Bool
from_another k h = not (is_master k.chosen h.source)

abbrev pub message_due : Settings → Stays → (now : ℕ) → Header → (field : Bool) → Due
message_due s k now h field = due_with Domain (from_elsewhere s h) (due_with NotMaster (from_another k h) (call_due k now field))

-- of the unit's own calls NOT_MASTER is due where none is chosen
abbrev pub own_due : Stays → (now : ℕ) → (field : Bool) → Due
own_due k now field = due_with NotMaster (not k.chosen.some) (call_due k now field)
