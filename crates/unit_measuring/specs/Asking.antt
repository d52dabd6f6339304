-- The unit's own calls of the exchange: the request and its t3.
use Rattle.std.specs.Prelude.{ℕ, ◌+◌, ◌-◌, ◌%◌, ◌^◌, Bool, false, ◌||◌, List, ltb}
use Rattle.numbers.specs.declared.stamp.Stamp.{Stamp}
use Rattle.numbers.specs.declared.refusal.Refusal.TheVariants.{Room}
use Rattle.numbers.specs.Grounds.{Ground, first_of}
use Rattle.numbers.specs.Orders.{Due, due_with, of_exchange}
use Rattle.rules_exchange.specs.Table.{requested, sent}
use Rattle.rules_exchange.specs.Events.{field_of, exchange_due, tells_of}
use Rattle.rules_settings.specs.declared.Settings.{Settings}
use Rattle.unit_core.specs.Effects.{Stays, Progress, Effect, unless, with_now}
use Rattle.unit_measuring.specs.Measuring.{exchanges}
use Rattle.unit_measuring.specs.Barring.{own_due}

-- ROOM: under 14 octets of Ethernet header, or under the 44 of a Delay_Req behind them
abbrev pub narrow : ℕ → Bool
narrow room = ltb room 14 || ltb (room - 14) 44

-- what bars a request into a frame of `room` octets
abbrev pub request_due : Stays → (now room : ℕ) → Due
request_due k now room = due_with Room (narrow room) (own_due k now false)

abbrev pub request_grounds : Stays → ℕ → ℕ → List Ground
request_grounds k now room = of_exchange (request_due k now room)

-- the own sequenceId goes up by one at each request, from 65,535 to 0
abbrev pub with_next_sequence : ℕ → Stays → Stays
with_next_sequence now k = record { now = now; chosen = k.chosen; faulty = k.faulty; sequence = (k.sequence + 1) % 2 ^ 16 }

module _ (s : Settings) (k : Stays) (r : Progress) (now : ℕ) where
  unfoldable pub requests : ℕ → Effect
  requests room = unless (first_of (request_grounds k now room)) (exchanges s (with_next_sequence now k) r (tells_of r.exchange (requested k.sequence)))

  unfoldable pub sends : ℕ → Stamp → Effect
  sends sequence t3 =
      unless (first_of (of_exchange (exchange_due r.exchange (sent sequence t3) (own_due k now (field_of t3)))))
      (exchanges s (with_now now k) r (tells_of r.exchange (sent sequence t3)))
