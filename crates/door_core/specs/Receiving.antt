-- What is made of a message's octets before the unit is asked: the first refusals of rule 3.55, those of reading and 3 of a Delay_Req.
use Rattle.std.specs.Prelude.{Ok, Err, Result}
use Rattle.numbers.specs.declared.refusal.Refusal.{Refusal}
use Rattle.numbers.specs.declared.refusal.Refusal.TheVariants.{Kind}
use Rattle.wire_layout.specs.declared.message.Body.{Body}
use Rattle.wire_layout.specs.declared.message.Body.TheVariants.{Sync, DelayReq, FollowUp, DelayResp, Announce}
use Rattle.wire_layout.specs.declared.message.Message.{Message}
use Rattle.wire_layout.specs.Reading.{Read}
use Rattle.door_core.specs.declared.receiving.Received.{Received}
use Rattle.door_core.specs.declared.receiving.Received.TheVariants as ways

-- the message, sorted, or why it is refused
abbrev pub Sorted : Type 0
Sorted = Result Received Refusal

abbrev pub sorted_by : Message → Body → Sorted
sorted_by m (Sync t) = Ok (ways.Exchange m)
sorted_by m (DelayReq t) = Err Kind
sorted_by m (FollowUp t) = Ok (ways.Exchange m)
sorted_by m (DelayResp t p) = Ok (ways.Exchange m)
sorted_by m (Announce t o) = Ok (ways.Announce m)

abbrev pub received_by : Read → Sorted
received_by (Err r) = Err r
received_by (Ok (m, p)) = sorted_by m m.body
