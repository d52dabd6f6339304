-- The table of the exchange: for each event, in each state of the two halves, what follows (rules 7.2 to 7.7).
use Rattle.std.specs.Prelude.{Bool, true, false, cond, ℕ, eqb, ℤ}
use Rattle.numbers.specs.declared.stamp.Stamp.{Stamp}
use Rattle.wire_layout.specs.declared.message.Port.{Port}
use Rattle.rules_exchange.specs.declared.said.Said.{Said}
use Rattle.rules_exchange.specs.declared.said.Said.TheVariants.{Held, Paired, Asked, Stamped}
use Rattle.rules_exchange.specs.Halves.{SyncHalf, no_sync, awaits, knows, RequestHalf, no_request, asked, stamped, heard}
use Rattle.rules_measure.specs.Measure.{forward_of, back_of}

-- what can happen to the exchange. Corrections are in 1/65,536 ns, as the message has them
pub data Event : Type 0 where
  sync : (two_step : Bool) (sequence : ℕ) (correction : ℤ) (t1 t2 : Stamp) → Event
  follow_up : (sequence : ℕ) (correction : ℤ) (t1 : Stamp) → Event
  requested : (sequence : ℕ) → Event
  sent : (sequence : ℕ) (t3 : Stamp) → Event
  delay_resp : (sequence : ℕ) (correction : ℤ) (t4 : Stamp) (requester own : Port) → Event

-- what follows: no partner is there, and nothing changes; one half has another state; a measurement, which spends both
pub data Row : Type 0 where
  unmatched : Row
  puts_sync : Said → SyncHalf → Row
  puts_request : Said → RequestHalf → Row
  measures : (forward back : ℤ) → Row

-- a row that needs its partner
abbrev pub if-matching : Bool → Row → Row
if-matching true r = r
if-matching false r = unmatched

unfoldable pub same_port : Port → Port → Bool
same_port p q = cond (eqb p.clock q.clock) (eqb p.number q.number) false

unfoldable pub row_by : Event → SyncHalf → RequestHalf → Row
-- rules 7.2 and 7.3: whatever was held
row_by (sync two n c t1 t2) s r = puts_sync Held (heard two n c t1 t2)
-- rule 7.4: t1 for the Sync that awaits it
row_by (follow_up n f t1) no_sync r = unmatched
row_by (follow_up n f t1) (awaits m t2 c) r = if-matching (eqb m n) (puts_sync Paired (knows m t1 t2 c f))
row_by (follow_up n f t1) (knows m u t2 c g) r = unmatched
-- rule 7.5: whatever was pending
row_by (requested n) s r = puts_request (Asked n) (asked n)
-- rule 7.6: t3 for the request that awaits it
row_by (sent n t3) s no_request = unmatched
row_by (sent n t3) s (asked m) = if-matching (eqb m n) (puts_request Stamped (stamped m t3))
row_by (sent n t3) s (stamped m u) = unmatched
-- rule 7.7: both halves are whole, and the answer is for this request of this port
row_by (delay_resp n b t4 p own) no_sync r = unmatched
row_by (delay_resp n b t4 p own) (awaits k t2 c) r = unmatched
row_by (delay_resp n b t4 p own) (knows k t1 t2 c f) no_request = unmatched
row_by (delay_resp n b t4 p own) (knows k t1 t2 c f) (asked m) = unmatched
row_by (delay_resp n b t4 p own) (knows k t1 t2 c f) (stamped m t3) =
    if-matching (cond (eqb m n) (same_port p own) false) (measures (forward_of t1 t2 c f) (back_of t3 t4 b))
