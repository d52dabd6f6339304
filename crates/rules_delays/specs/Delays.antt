-- The delays and the filter (rules 7.17, 7.21 and 7.22).
use Rattle.std.specs.Prelude.{Bool, false, cond, List, [], ◌∷◌, ℕ, ◌+◌, min, leb, ltb, take}
use Rattle.numbers.specs.Integers.{distance_of}
use Rattle.rules_delays.specs.declared.Delays.{Delays}
use Rattle.rules_delays.specs.Median.{lower_middle}

abbrev pub fresh_delays : Delays
fresh_delays = record { five = 0 ∷ 0 ∷ 0 ∷ 0 ∷ 0 ∷ []; count = 0; used = 0 }

-- the accepted delays that are held, newest first
abbrev pub accepted_before : Delays → List ℕ
accepted_before d = take d.count d.five

-- PATH, of the accepted delays and this one: with none accepted since the wipe it does not apply (rule 7.17)
unfoldable pub path_by : List ℕ → ℕ → Bool
path_by [] delay = false
path_by (last ∷ l) delay = leb 1_000_000 (distance_of delay last)

abbrev pub path_of : Delays → ℕ → Bool
path_of d delay = path_by (accepted_before d) delay

-- the delay that is used, by those accepted, the one last used and this one (rules 7.21 and 7.22)
unfoldable pub used_by : List ℕ → ℕ → ℕ → ℕ
used_by [] used delay = delay
used_by (last ∷ l) used delay = cond (ltb 1000 (distance_of delay used)) (lower_middle (take 5 (delay ∷ last ∷ l))) delay

abbrev pub used_of : Delays → ℕ → ℕ
used_of d delay = used_by (accepted_before d) d.used delay

-- the delay is accepted: it is the newest of five, the oldest leaves
unfoldable pub filtered : Delays → ℕ → Delays
filtered d delay = record { five = delay ∷ take 4 d.five; count = min 4 d.count + 1; used = used_of d delay }
