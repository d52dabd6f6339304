-- What the unit shows: section 6 of docs/RULES.md.
use Rattle.std.specs.Prelude.{ℕ, Bool, cond}
use Rattle.rules_servo.specs.Shows.{is_holdover, shown_of}
use Rattle.unit_core.specs.declared.calls.PortState.{PortState}
use Rattle.unit_core.specs.declared.calls.PortState.TheVariants.{Faulty, Listening, Uncalibrated, Slave}
use Rattle.unit_core.specs.declared.calls.Shows.{Shows}
use Rattle.unit_core.specs.Effects.{Stays, Progress}

-- rule 6.1: the port's four states
abbrev pub port_of : Bool → Bool → Bool → PortState
port_of faulty chosen measured = cond faulty Faulty (cond chosen (cond measured Slave Uncalibrated) Listening)

-- rules 6.1, 6.2 and 6.6: the port, the servo, and what else is shown
abbrev pub shows_of : Stays → Progress → ℕ → Shows
shows_of k r count =
    record {
      port = port_of k.faulty k.chosen.some r.measured;
      servo = shown_of r.servo (is_holdover r.measured r.at k.now);
      output = r.servo.output;
      now = k.now;
      master = k.chosen;
      wipes = count;
      sequence = k.sequence;
    }
