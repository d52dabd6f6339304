-- What the unit shows, as numbers.
use Rattle.rules_servo.specs.declared.Servo.{Servo}
use Rattle.unit_core.specs.Effects.{stays_of, progress_of}
use Rattle.unit_core.specs.Showing.{shows_of}
use Rattle.door_records.specs.declared.unit.UnitWords.{UnitWords}
use Rattle.door_records.specs.Unit.{core_in}
use Rattle.door_words.specs.declared.answers.AnswerWords.{AnswerWords}
use Rattle.door_words.specs.Answers.{showing}

abbrev pub shown_of : UnitWords → Servo → AnswerWords
shown_of u v = showing (shows_of (stays_of (core_in u)) (progress_of (core_in u) v) u.state.wipes)
