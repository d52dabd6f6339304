-- What a request leaves in the records.
use Rattle.std.specs.Prelude.{ℕ, ◌+◌, ◌%◌, ◌^◌, Ok, Err}
use Rattle.numbers.specs.Grounds.{Ruling}
use Rattle.numbers.specs.Orders.{number_of}
use Rattle.numbers.specs.Grounds.{first_of}
use Rattle.rules_exchange.specs.Halves.{as_request, asked}
use Rattle.rules_exchange.specs.Said.{none_found}
use Rattle.rules_exchange.specs.Events.{fresh_exchange}
use Rattle.unit_core.specs.Effects.{stays_of}
use Rattle.unit_measuring.specs.Asking.{request_grounds}
use Rattle.door_records.specs.declared.unit.SettingsWords.{SettingsWords}
use Rattle.door_records.specs.declared.unit.StateWords.{StateWords}
use Rattle.door_records.specs.declared.exchange.HalvesWords.{HalvesWords}
use Rattle.door_records.specs.Unit.{request_words, delays_words, core_of}
use Rattle.door_words.specs.Answers.{spoken, refusing, no_rate}
use Rattle.door_measuring.specs.declared.asking.Requested.{Requested}

-- the request is pending, and its sequenceId is used up
abbrev pub asked_with : StateWords → HalvesWords → ℕ → Requested
asked_with t h now =
    record {
      answer = spoken 5 t.sequence none_found no_rate;
      state = record { now = now; at = t.at; chosen = t.chosen; wipes = t.wipes; sequence = (t.sequence + 1) % 2 ^ 16; measured = t.measured; faulty = t.faulty };
      halves = record { sync = h.sync; request = request_words (as_request (asked t.sequence)); last = h.last };
    }

-- a refusal leaves both as they were
abbrev pub requested_by : StateWords → HalvesWords → ℕ → Ruling → Requested
requested_by t h now (Err n) = record { answer = refusing (number_of n); state = t; halves = h }
requested_by t h now (Ok _) = asked_with t h now

abbrev pub requested_of : SettingsWords → StateWords → HalvesWords → ℕ → ℕ → Requested
requested_of s t h now room = requested_by t h now (first_of (request_grounds (stays_of (core_of s t h (delays_words fresh_exchange))) now room))
