-- What an answer says to whoever reads it. A new answer is classed here, by a line of `class_of`, and nowhere else.
use Rattle.std.specs.Prelude.{Bool, true, false, ℕ, ℤ, pos, nat_abs}
use Rattle.std.proofs.Math.Option.{Option, none, some, get_or}
use Rattle.numbers.specs.declared.units.Nanoseconds.{Nanoseconds}
use Rattle.rules_measure.specs.Measure.{ns}
use Rattle.rules_exchange.specs.declared.Accepted.{Accepted}
use Rattle.rules_exchange.specs.declared.said.Said.{Said}
use Rattle.rules_exchange.specs.declared.said.Said.TheVariants.{Held, Paired, Asked, Stamped, Back, Neg, Long, Huge, HugeFaulty, Path, PathWiped, Step, Measured}

-- what comes of a finished measurement, as far as a later one asks: it is rejected, as NEG, LONG and STEP alike are; so, and one of a row; accepted
pub data Verdict : Type 0 where
  rejected huge path : Verdict
  accepted : (delay used : ℕ) (offset : ℤ) → Verdict

-- what is given of a measurement: nothing, an offset alone, all three
abbrev pub none_found : Accepted
none_found = record { delay = ns (pos 0); used = ns (pos 0); offset = ns (pos 0) }

abbrev pub offset_found : Nanoseconds → Accepted
offset_found offset = record { delay = ns (pos 0); used = ns (pos 0); offset = offset }

pub record Class : Type 0 where
  -- its code at the door
  pub code : ℕ
  -- it wipes the unit, or makes it faulty
  pub wipes : Bool
  pub faults : Bool
  -- a request of this sequenceId was written
  pub asked : Option ℕ
  -- a measurement is finished, and this comes of it
  pub verdict : Option Verdict
  -- what is given of it
  pub found : Accepted

-- no more than said; and what an answer can be beside
abbrev pub says : (code : ℕ) → Class
says code = record { code = code; wipes = false; faults = false; asked = none; verdict = none; found = none_found }

abbrev pub wiping : Class → Class
wiping c = record { code = c.code; wipes = true; faults = c.faults; asked = c.asked; verdict = c.verdict; found = c.found }

abbrev pub faulting : Class → Class
faulting c = record { code = c.code; wipes = c.wipes; faults = true; asked = c.asked; verdict = c.verdict; found = c.found }

abbrev pub asking : ℕ → Class → Class
asking n c = record { code = c.code; wipes = c.wipes; faults = c.faults; asked = some n; verdict = c.verdict; found = c.found }

abbrev pub ending : Verdict → Class → Class
ending v c = record { code = c.code; wipes = c.wipes; faults = c.faults; asked = c.asked; verdict = some v; found = c.found }

abbrev pub finding : Accepted → Class → Class
finding m c = record { code = c.code; wipes = c.wipes; faults = c.faults; asked = c.asked; verdict = c.verdict; found = m }

-- an accepted measurement, as the rules count: the delays are no less than 0
abbrev pub as_verdict : Accepted → Verdict
as_verdict m = accepted (nat_abs m.delay.0) (nat_abs m.used.0) m.offset.0

abbrev pub class_of : Said → Class
class_of Held = says 3
class_of Paired = says 4
class_of (Asked n) = asking n (says 5)
class_of Stamped = says 6
class_of Back = wiping (says 7)
class_of (Measured m) = ending (as_verdict m) (finding m (says 8))
class_of Neg = ending rejected (says 9)
class_of Long = ending rejected (says 10)
class_of Huge = ending huge (says 11)
class_of HugeFaulty = faulting (ending huge (says 12))
class_of Path = ending path (says 13)
class_of PathWiped = wiping (ending path (says 14))
class_of (Step offset) = wiping (ending rejected (finding (offset_found offset) (says 15)))

-- ---- its parts
abbrev pub code_of : Said → ℕ
code_of s = (class_of s).code

abbrev pub wipes_of : Said → Bool
wipes_of s = (class_of s).wipes

abbrev pub faults_of : Said → Bool
faults_of s = (class_of s).faults

abbrev pub asked_by : Said → Option ℕ
asked_by s = (class_of s).asked

abbrev pub verdict_of : Said → Option Verdict
verdict_of s = (class_of s).verdict

abbrev pub found_in : Said → Accepted
found_in s = (class_of s).found

-- the sequenceId of the request that was written, 0 where none was
abbrev pub sequence_in : Said → ℕ
sequence_in s = get_or (asked_by s) 0

-- an accepted measurement steers the clock
abbrev pub steers_by : Option Verdict → Bool
steers_by none = false
steers_by (some rejected) = false
steers_by (some huge) = false
steers_by (some path) = false
steers_by (some (accepted delay used offset)) = true

abbrev pub steers_of : Said → Bool
steers_of s = steers_by (verdict_of s)
