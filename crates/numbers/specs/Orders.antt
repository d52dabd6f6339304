-- The refusals: the number of each, and for each call the order in which they are asked. When each is due is said where its rule is.
-- A list that several places ask takes all that is due as one (`Due`): a refusal more is a line here, and no place that cannot meet it is touched.
use Rattle.std.specs.Prelude.{ℕ, Bool, false, cond, List, [], ◌∷◌, eqb}
use Rattle.numbers.specs.declared.refusal.Refusal.{Refusal}
use Rattle.numbers.specs.declared.refusal.Refusal.TheVariants.{Short, Version, Kind, Length, Field, Suffix, Room, Settings, Now, Domain, Own, Alternate, Steps, Repeat, Full, NotMaster, Unmatched, Faulty, Correction, Tick, NotReady}
use Rattle.numbers.specs.Grounds.{Ground, gives}

-- rules 3.1 to 3.21
abbrev pub number_of : Refusal → ℕ
number_of Short = 1
number_of Version = 2
number_of Kind = 3
number_of Length = 4
number_of Field = 5
number_of Suffix = 6
number_of Room = 7
number_of Settings = 8
number_of Now = 9
number_of Domain = 10
number_of Own = 11
number_of Alternate = 12
number_of Steps = 13
number_of Repeat = 14
number_of Full = 15
number_of NotMaster = 16
number_of Unmatched = 17
number_of Faulty = 18
number_of Correction = 19
number_of Tick = 20
number_of NotReady = 21

-- which refusals are due of a call. Whoever says so begins with none, and names those alone that his call can meet
abbrev pub Due : Type 0
Due = Refusal → Bool

abbrev pub none_due : Due
none_due refusal = false

-- this refusal is due where `so` says it; every other as before
abbrev pub due_with : Refusal → (so : Bool) → Due → Due
due_with refusal so due other = cond (eqb (number_of other) (number_of refusal)) so (due other)

-- reading (rule 3.52); it asks for too few octets twice
abbrev pub of_reading : (few version kind length short field suffix : Bool) → List Ground
of_reading few version kind length short field suffix =
    gives Short few
    ∷ gives Version version
    ∷ gives Kind kind
    ∷ gives Length length
    ∷ gives Short short
    ∷ gives Field field
    ∷ gives Suffix suffix
    ∷ []

-- writing (rule 3.53)
abbrev pub of_writing : (field suffix length room : Bool) → List Ground
of_writing field suffix length room = gives Field field ∷ gives Suffix suffix ∷ gives Length length ∷ gives Room room ∷ []

-- a read message as it is handed over (rule 3.55): 3 of a Delay_Req, 8 of a lent table that is not of five
abbrev pub of_handing : (kind table : Bool) → List Ground
of_handing kind table = gives Kind kind ∷ gives Settings table ∷ []

-- an Announce (rule 3.56): 9 to 15
abbrev pub of_announce : Due → List Ground
of_announce due =
    gives Now (due Now)
    ∷ gives Domain (due Domain)
    ∷ gives Own (due Own)
    ∷ gives Alternate (due Alternate)
    ∷ gives Steps (due Steps)
    ∷ gives Repeat (due Repeat)
    ∷ gives Full (due Full)
    ∷ []

-- whatever is of the exchange, messages and requests alike: 5 and 9, 18, 10, 16, then 19, 17, 7
abbrev pub of_exchange : Due → List Ground
of_exchange due =
    gives Field (due Field)
    ∷ gives Now (due Now)
    ∷ gives Faulty (due Faulty)
    ∷ gives Domain (due Domain)
    ∷ gives NotMaster (due NotMaster)
    ∷ gives Correction (due Correction)
    ∷ gives Unmatched (due Unmatched)
    ∷ gives Room (due Room)
    ∷ []

-- the bare time call (rule 3.62): 8 of a lent table that is not of five, 9
abbrev pub of_time : Due → List Ground
of_time due = gives Settings (due Settings) ∷ gives Now (due Now) ∷ []

-- a second pulse (rule 3.63): 20
abbrev pub of_tick : (outside : Bool) → List Ground
of_tick outside = gives Tick outside ∷ []

-- the drift line (rule 3.64): 21
abbrev pub of_line : (early : Bool) → List Ground
of_line early = gives NotReady early ∷ []

-- the making of a unit (rule 3.54): 8 of a setting out of its range
abbrev pub of_making : (range : Bool) → List Ground
of_making range = gives Settings range ∷ []
