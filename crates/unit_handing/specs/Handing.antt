-- Calls as they are handed over: a message by its octets, a request by its frame, a table by how many records it has. What is barred by that alone
-- never reaches the unit, and is a call all the same.
use Rattle.std.specs.Prelude.{ℕ, Bool, not, List, [], ◌∷◌, eqb, ℤ, length, Ok, Err, Result}
use Rattle.numbers.specs.declared.stamp.Stamp.{Stamp}
use Rattle.numbers.specs.declared.refusal.Refusal.TheVariants.{Settings}
use Rattle.numbers.specs.Grounds.{answer_by, first_of}
use Rattle.wire_layout.specs.Reading.{Read}
use Rattle.numbers.specs.Orders.{none_due, due_with, of_handing, of_time}
use Rattle.wire_layout.specs.declared.message.Body.{Body}
use Rattle.wire_layout.specs.declared.message.Message.{Message}
use Rattle.wire_layout.specs.Kinds.{kind_of}
use Rattle.wire_layout.specs.Reading.{read_of}
use Rattle.unit_core.specs.declared.calls.Call.{Call}
use Rattle.unit_core.specs.declared.calls.Call.TheVariants.{Receive, Request, Sent, Time, Reset, Tick, Line, Show}
use Rattle.unit_core.specs.declared.calls.Answer.TheVariants.{Refused}
use Rattle.unit_measuring.specs.Frame.{frame_after}
use Rattle.unit.specs.declared.Unit.{Unit}
use Rattle.unit.specs.declared.Stepped.{Stepped}
use Rattle.unit.specs.Calls.{step_of}
use Rattle.numbers.specs.declared.refusal.Refusal.{Refusal}

-- what is handed over: a call of the unit, or what bars it before
abbrev pub Asked : Type 0
Asked = Result Call Refusal

-- a call as it is handed over, T being what is known of the table that it is lent: here how many records it has
pub data Handed (T : Type 0) : Type 0 where
  receive : (table : T) (octets : List ℕ) (now : ℕ) (arrival : Stamp) → Handed T
  request : (frame : List ℕ) (now : ℕ) → Handed T
  sent : (now sequence : ℕ) (t3 : Stamp) → Handed T
  time : (table : T) (now : ℕ) → Handed T
  reset : Handed T
  tick : (reference clock : ℤ) → Handed T
  line : Handed T
  show : Handed T

-- a Delay_Req, by its number
abbrev pub is_delay_req : Body → Bool
is_delay_req body = eqb (kind_of body) 1

-- the lent table is not of five
abbrev pub is_stray : ℕ → Bool
is_stray lent = not (eqb lent 5)

-- ---- what the unit is asked, or what bars it
unfoldable pub message_asked : ℕ → Message → ℕ → Stamp → Asked
message_asked lent m now arrival = answer_by Err (Ok (Receive now arrival m)) (first_of (of_handing (is_delay_req m.body) (is_stray lent)))

-- what cannot be read is barred by reading's own refusal
abbrev pub read_asked : ℕ → Read → ℕ → Stamp → Asked
read_asked lent (Ok (m, part)) now arrival = message_asked lent m now arrival
read_asked lent (Err r) now arrival = Err r

unfoldable pub time_asked : ℕ → ℕ → Asked
time_asked lent now = answer_by Err (Ok (Time now)) (first_of (of_time (due_with Settings (is_stray lent) none_due)))

unfoldable pub asked_of : Handed ℕ → Asked
asked_of (receive lent octets now arrival) = read_asked lent (read_of octets) now arrival
asked_of (request frame now) = Ok (Request now (length frame))
asked_of (sent now sequence t3) = Ok (Sent now sequence t3)
asked_of (time lent now) = time_asked lent now
asked_of reset = Ok Reset
asked_of (tick reference clock) = Ok (Tick reference clock)
asked_of line = Ok Line
asked_of show = Ok Show

-- ---- what is answered, and the unit after it
abbrev pub stepped_by : Unit → Asked → Stepped
stepped_by c (Err r) = record { answer = Refused r; unit = c }
stepped_by c (Ok call) = step_of c call

unfoldable pub served_of : Unit → Handed ℕ → Stepped
served_of c call = stepped_by c (asked_of call)

-- the frame that is lent, and as it is found afterwards; no call but a request is lent one
abbrev pub frame_in : {T : Type 0} → Handed T → List ℕ
frame_in (receive lent octets now arrival) = []
frame_in (request frame now) = frame
frame_in (sent now sequence t3) = []
frame_in (time lent now) = []
frame_in reset = []
frame_in (tick reference clock) = []
frame_in line = []
frame_in show = []

abbrev pub frame_left : {T : Type 0} → Unit → Handed T → List ℕ
frame_left c (receive lent octets now arrival) = []
frame_left c (request frame now) = frame_after c.core now frame
frame_left c (sent now sequence t3) = []
frame_left c (time lent now) = []
frame_left c reset = []
frame_left c (tick reference clock) = []
frame_left c line = []
frame_left c show = []

-- ---- any list of calls, the oldest first: the unit that it leaves, and the calls of it that reached the unit
unfoldable pub served_all : Unit → List (Handed ℕ) → Unit
served_all c [] = c
served_all c (call ∷ l) = served_all (served_of c call).unit l

abbrev pub with_asked : Asked → List Call → List Call
with_asked (Err r) l = l
with_asked (Ok call) l = call ∷ l

unfoldable pub calls_in : List (Handed ℕ) → List Call
calls_in [] = []
calls_in (call ∷ l) = with_asked (asked_of call) (calls_in l)
