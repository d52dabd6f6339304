-- The history of the masters: all that happened, the newest first; the log after it; and the machine of the code for the same history.
use Rattle.std.specs.Prelude.{List, [], ◌∷◌, cond, ℕ, ltb, Ok, Err}
use Rattle.wire_layout.specs.declared.message.Port.{Port}
use Rattle.rules_masters.specs.declared.record.Announce.{Announce}
use Rattle.rules_masters.specs.declared.table.Table.{Table}
use Rattle.rules_masters.specs.Admitting.{Admitted}
use Rattle.rules_masters.specs.Admitting.{Answer}
use Rattle.rules_masters.specs.declared.admission.Entry.TheVariants.{Renewed, Entered}
use Rattle.rules_masters.specs.Admitting.{admitted_of}
use Rattle.rules_masters.specs.Places.{fresh_table}
use Rattle.story_masters.specs.Announces.{Log, came, passed, last_now}
use Rattle.story_masters.specs.Places.{answer}

pub data Happening : Type 0 where
  arrives : (now : ℕ) (m : Announce) → Happening
  -- any other call that carries now, and is not refused for another reason
  passes : (now : ℕ) → Happening

-- one that is refused leaves no entry
abbrev pub log_by : Log → ℕ → Announce → Answer → Log
log_by l now m (Err r) = l
log_by l now m (Ok (Renewed p)) = came p now m ∷ l
log_by l now m (Ok (Entered p)) = came p now m ∷ l

module _ (domain : ℕ) (own : Port) (a : ℕ) where
  unfoldable pub log : List Happening → Log
  log [] = []
  log (arrives now m ∷ before) = log_by (log before) now m (answer domain own a (log before) m now)
  log (passes now ∷ before) = cond (ltb now (last_now (log before))) (log before) (passed now ∷ log before)

-- ---- the machine: the table, and the last accepted now
pub record Memory : Type 0 where
  pub table : Table
  pub last : ℕ

abbrev pub last_after : ℕ → ℕ → Answer → ℕ
last_after last now (Err r) = last
last_after last now (Ok (Renewed p)) = now
last_after last now (Ok (Entered p)) = now

module _ (domain : ℕ) (own : Port) (a : ℕ) where
  abbrev pub admission_of : Memory → Announce → ℕ → Admitted
  admission_of k m now = admitted_of k.table m domain own a k.last now

  unfoldable pub machine : List Happening → Memory
  machine [] = record { table = fresh_table; last = 0 }
  machine (arrives now m ∷ before) =
      let k = machine before in
      record { table = (admission_of k m now).table; last = last_after k.last now (admission_of k m now).answer }
  machine (passes now ∷ before) =
      let k = machine before in
      record { table = k.table; last = cond (ltb now k.last) k.last now }
