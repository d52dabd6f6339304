-- What a received message other than an Announce does.
use Rattle.std.specs.Prelude.{ℕ, ◌/◌, ◌%◌, Bool, eqb}
use Rattle.numbers.specs.declared.refusal.Refusal.TheVariants.{Kind}
use Rattle.numbers.specs.declared.stamp.Stamp.{Stamp}
use Rattle.numbers.specs.Grounds.{first_of}
use Rattle.numbers.specs.Orders.{of_exchange}
use Rattle.wire_layout.specs.declared.message.Header.{Header}
use Rattle.wire_layout.specs.declared.message.Body.{Body}
use Rattle.wire_layout.specs.declared.message.Body.TheVariants.{Sync, DelayReq, FollowUp, DelayResp, Announce}
use Rattle.rules_exchange.specs.Table.{Event, sync, follow_up, delay_resp}
use Rattle.rules_exchange.specs.Events.{exchange_due, tells_of}
use Rattle.rules_settings.specs.declared.Settings.{Settings}
use Rattle.unit_core.specs.declared.calls.Answer.TheVariants.{Refused}
use Rattle.unit_core.specs.Effects.{Stays, Progress, Effect, keeps, unless, with_now}
use Rattle.unit_measuring.specs.Measuring.{exchanges}
use Rattle.unit_measuring.specs.Barring.{field_in, message_due}

-- bit 1 of octet 6: the flags are octets 6 and 7, big-endian
abbrev pub two_step_in : Header → Bool
two_step_in h = eqb (h.flags / 512 % 2) 1

-- the message tells the exchange of the event e, unless it is refused
abbrev pub hears_event : Settings → Stays → Progress → ℕ → Header → (field : Bool) → Event → Effect
hears_event s k r now h field e =
    unless (first_of (of_exchange (exchange_due r.exchange e (message_due s k now h field))))
    (exchanges s (with_now now k) r (tells_of r.exchange e))

-- a Delay_Req is KIND before all else; an Announce is handed over with the table, and is none of the kinds that are heard without it
unfoldable pub hears : Settings → Stays → Progress → ℕ → Stamp → Header → Body → Effect
hears s k r now t2 h (Sync t1) = hears_event s k r now h (field_in t2 (Sync t1)) (sync (two_step_in h) h.sequence h.correction t1 t2)
hears s k r now t2 h (DelayReq t) = keeps (Refused Kind)
hears s k r now t2 h (FollowUp t1) = hears_event s k r now h (field_in t2 (FollowUp t1)) (follow_up h.sequence h.correction t1)
hears s k r now t2 h (DelayResp t4 requester) =
    hears_event s k r now h (field_in t2 (DelayResp t4 requester)) (delay_resp h.sequence h.correction t4 requester s.own)
hears s k r now t2 h (Announce t offer) = keeps (Refused Kind)
