-- The answers as numbers: for each case of the answer its code, the number of a refusal, and the values that it carries. All else is 0.
use Rattle.std.specs.Prelude.{ℕ, false, cond, pos, Ok, Err}
use Rattle.std.specs.Float.{fin}
use Rattle.numbers.specs.Orders.{number_of}
use Rattle.numbers.specs.declared.units.Nanoseconds.{Nanoseconds}
use Rattle.numbers.specs.declared.units.Ppb.{Ppb}
use Rattle.rules_masters.specs.declared.chosen.Chosen.{Chosen}
use Rattle.rules_masters.specs.Holding.{fresh_chosen}
use Rattle.rules_masters.specs.declared.chosen.Decision.{Decision}
use Rattle.rules_masters.specs.Holding.{master_of, code_of as choice_code}
use Rattle.rules_exchange.specs.declared.Accepted.{Accepted}
use Rattle.rules_exchange.specs.declared.said.Said.{Said}
use Rattle.rules_exchange.specs.Said.{code_of, sequence_in, found_in, steers_of}
use Rattle.rules_servo.specs.declared.shown.Shown.{Shown}
use Rattle.rules_servo.specs.declared.shown.Shown.TheVariants.{Holdover, Tracking, Adjusting}
use Rattle.rules_watch.specs.Rules.{code_of as pulse_code}
use Rattle.rules_watch.specs.declared.totals.Line.{Line as DriftLine}
use Rattle.rules_watch.specs.Rules.{Drift}
use Rattle.unit_core.specs.declared.calls.PortState.{PortState}
use Rattle.unit_core.specs.declared.calls.PortState.TheVariants.{Faulty, Listening, Uncalibrated, Slave}
use Rattle.unit_core.specs.declared.calls.Shows.{Shows as Showing}
use Rattle.unit_core.specs.declared.calls.Answer.{Answer}
use Rattle.unit_core.specs.declared.calls.Answer.TheVariants.{Refused, Choice, Exchange, Watch, Wiped, Line, Shows}
use Rattle.door_records.specs.declared.unit.ChosenWords.{ChosenWords}
use Rattle.door_records.specs.Unit.{chosen_words}
use Rattle.door_words.specs.declared.answers.AnswerWords.{AnswerWords}

abbrev pub port_code : PortState → ℕ
port_code Faulty = 0
port_code Listening = 1
port_code Uncalibrated = 2
port_code Slave = 3

abbrev pub servo_code : Shown → ℕ
servo_code Holdover = 0
servo_code Tracking = 1
servo_code Adjusting = 2

abbrev pub no_rate : Ppb
no_rate = record { 0 = pos 0 }

abbrev pub no_time : Nanoseconds
no_time = record { 0 = pos 0 }

abbrev pub no_line : DriftLine
no_line = record { level = pos 0; slope = pos 0; over = pos 0; n = pos 0; ppm = fin false 0 (pos 0) }

-- no master, as numbers
abbrev pub no_master : ChosenWords
no_master = chosen_words fresh_chosen

-- the code alone
abbrev pub plain : ℕ → AnswerWords
plain c = record { code = c; refused = 0; port = 0; servo = 0; output = no_rate; wipes = 0; sequence = 0; spare = 0; now = 0; master = no_master; delay = no_time; used = no_time; offset = no_time; line = no_line }

abbrev pub refusing : ℕ → AnswerWords
refusing n = record { code = 0; refused = n; port = 0; servo = 0; output = no_rate; wipes = 0; sequence = 0; spare = 0; now = 0; master = no_master; delay = no_time; used = no_time; offset = no_time; line = no_line }

abbrev pub naming : ℕ → Chosen → AnswerWords
naming c m = record { code = c; refused = 0; port = 0; servo = 0; output = no_rate; wipes = 0; sequence = 0; spare = 0; now = 0; master = chosen_words m; delay = no_time; used = no_time; offset = no_time; line = no_line }

abbrev pub spoken : ℕ → ℕ → Accepted → Ppb → AnswerWords
spoken c n m x = record { code = c; refused = 0; port = 0; servo = 0; output = x; wipes = 0; sequence = n; spare = 0; now = 0; master = no_master; delay = m.delay; used = m.used; offset = m.offset; line = no_line }

abbrev pub lining : DriftLine → ℕ → AnswerWords
lining l n = record { code = 22; refused = 0; port = 0; servo = 0; output = no_rate; wipes = n; sequence = 0; spare = 0; now = 0; master = no_master; delay = no_time; used = no_time; offset = no_time; line = l }

abbrev pub showing : Showing → AnswerWords
showing s = record { code = 23; refused = 0; port = port_code s.port; servo = servo_code s.servo; output = s.output; wipes = s.wipes; sequence = s.sequence; spare = 0; now = s.now; master = chosen_words s.master; delay = no_time; used = no_time; offset = no_time; line = no_line }

-- the choice
abbrev pub choosing : Decision → AnswerWords
choosing d = naming (choice_code d) (master_of d)

-- the exchange: only a measurement carries the output
abbrev pub exchanging : Said → Ppb → AnswerWords
exchanging s x = spoken (code_of s) (sequence_in s) (found_in s) (cond (steers_of s) x no_rate)

-- the line, with the wipe count
abbrev pub drift_words : Drift → ℕ → AnswerWords
drift_words (Err r) n = refusing (number_of r)
drift_words (Ok l) n = lining l n

abbrev pub answer_words : Answer → AnswerWords
answer_words (Refused r) = refusing (number_of r)
answer_words (Choice d) = choosing d
answer_words (Exchange said output) = exchanging said output
answer_words (Watch p) = plain (pulse_code p)
answer_words Wiped = plain 16
answer_words (Line l n) = lining l n
answer_words (Shows s) = showing s
