-- What only inner contracts cite: nobody needs to believe it.
use Rattle.std.specs.Prelude.{ℕ, true, List, [], ◌∷◌, Err}
use Rattle.numbers.specs.declared.refusal.Refusal.TheVariants.{Kind}
use Rattle.numbers.specs.declared.stamp.Stamp.{Stamp}
use Rattle.numbers.specs.Grounds.{Ground, gives}
use Rattle.numbers.specs.Orders.{of_exchange}
use Rattle.wire_layout.specs.declared.message.Port.{Port}
use Rattle.wire_layout.specs.declared.message.Header.{Header}
use Rattle.wire_layout.specs.declared.message.Body.{Body}
use Rattle.wire_layout.specs.declared.message.Body.TheVariants.{Sync, DelayReq, FollowUp, DelayResp, Announce}
use Rattle.rules_exchange.specs.declared.Exchange.{Exchange}
use Rattle.rules_exchange.specs.Table.{sync, follow_up, delay_resp}
use Rattle.rules_exchange.specs.Events.{Answered, told}
use Rattle.rules_settings.specs.declared.Settings.{Settings}
use Rattle.unit_core.specs.Effects.{Stays}
use Rattle.unit_measuring.specs.Hearing.{two_step_in}
use Rattle.unit_measuring.specs.Barring.{field_in, message_due}

-- of a message's refusals those that are asked before the exchange's own
abbrev pub message_grounds : Settings → Stays → ℕ → Stamp → Header → Body → List Ground
message_grounds s k now t2 h (Sync t1) = of_exchange (message_due s k now h (field_in t2 (Sync t1)))
message_grounds s k now t2 h (DelayReq t) = gives Kind true ∷ []
message_grounds s k now t2 h (FollowUp t1) = of_exchange (message_due s k now h (field_in t2 (FollowUp t1)))
message_grounds s k now t2 h (DelayResp t4 requester) = of_exchange (message_due s k now h (field_in t2 (DelayResp t4 requester)))
message_grounds s k now t2 h (Announce t offer) = gives Kind true ∷ []

-- what the exchange answers to a message: the other two kinds are barred above
abbrev pub handed : Exchange → Port → Stamp → Header → Body → Answered
handed x own t2 h (Sync t1) = told x (sync (two_step_in h) h.sequence h.correction t1 t2)
handed x own t2 h (DelayReq t) = record { answer = Err Kind; exchange = x }
handed x own t2 h (FollowUp t1) = told x (follow_up h.sequence h.correction t1)
handed x own t2 h (DelayResp t4 requester) = told x (delay_resp h.sequence h.correction t4 requester own)
handed x own t2 h (Announce t offer) = record { answer = Err Kind; exchange = x }
