-- The master chosen, as it is held between choices (rules 3.16, 5.13, 5.14 and 10.1).
use Rattle.std.specs.Prelude.{ℕ, Bool, true, false, cond, not, ◌&&◌, List}
use Rattle.std.proofs.Math.Option.{Option, none, some}
use Rattle.wire_layout.specs.declared.message.Port.{Port}
use Rattle.rules_masters.specs.declared.record.Record.{Record}
use Rattle.rules_masters.specs.declared.chosen.Chosen.{Chosen}
use Rattle.rules_masters.specs.declared.chosen.Decision.{Decision}
use Rattle.rules_masters.specs.declared.chosen.Decision.TheVariants.{Same, Changed}
use Rattle.rules_masters.specs.Records.{same_key_of}
use Rattle.rules_masters.specs.Choosing.{choice_of}

-- what a fresh unit holds
abbrev pub fresh_chosen : Chosen
fresh_chosen = record { some = false; sender = record { clock = 0; number = 0 } }

-- the master is the sender of the record chosen
abbrev pub chosen_of : Option Record → Chosen
chosen_of none = fresh_chosen
chosen_of (some r) = record { some = true; sender = r.announce.header.source }

-- the master that the choice at `now` gives over this table; a is the announce exponent
abbrev pub chosen_at : List Record → ℕ → ℕ → Chosen
chosen_at t now a = chosen_of (choice_of t now a)

-- there is a master, and it sent this; NOT_MASTER is the opposite
unfoldable pub is_master : Chosen → Port → Bool
is_master c sender = c.some && same_key_of c.sender sender

-- none both times, or one sender both times
unfoldable pub same_master_of : Chosen → Chosen → Bool
same_master_of a b = cond a.some (is_master b a.sender) (not b.some)

-- what the choice says: the master as before, or still none; or a new or lost one
abbrev pub decision_of : Chosen → Chosen → Decision
decision_of before after = cond (same_master_of before after) (Same after) (Changed after)

-- of what it says: the master; whether it wipes (rule 10.1); its code at the door
abbrev pub master_of : Decision → Chosen
master_of (Same c) = c
master_of (Changed c) = c

abbrev pub wipes_of : Decision → Bool
wipes_of (Same c) = false
wipes_of (Changed c) = true

abbrev pub code_of : Decision → ℕ
code_of (Same c) = 1
code_of (Changed c) = 2
