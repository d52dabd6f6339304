-- The line of the watch.
use Rattle.rules_watch.specs.declared.Watch.{Watch}
use Rattle.rules_watch.specs.Watch.{watch_line}
use Rattle.door_records.specs.declared.unit.SettingsWords.{SettingsWords}
use Rattle.door_records.specs.declared.unit.StateWords.{StateWords}
use Rattle.door_records.specs.Unit.{watch_in}
use Rattle.door_words.specs.declared.answers.AnswerWords.{AnswerWords}
use Rattle.door_words.specs.Answers.{drift_words}

-- the line, with the wipe count
abbrev pub lined_of : SettingsWords → StateWords → Watch → AnswerWords
lined_of s t w = drift_words (watch_line (watch_in s) w) t.wipes
