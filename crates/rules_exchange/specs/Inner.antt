-- What only inner contracts cite: nobody needs to believe it.
use Rattle.std.specs.Prelude.{Bool, true, false, cond, ℕ, eqb, ℤ, Ok, Err}
use Rattle.numbers.specs.Grounds.{Ruling}
use Rattle.numbers.specs.declared.refusal.Refusal.TheVariants.{Correction}
use Rattle.wire_layout.specs.declared.message.Port.{Port}
use Rattle.rules_exchange.specs.declared.halves.Sync.{Sync}
use Rattle.rules_exchange.specs.declared.halves.Request.{Request}
use Rattle.rules_exchange.specs.Halves.{SyncHalf, no_sync, awaits, knows, RequestHalf, no_request, asked, stamped, sync_half, request_half}
use Rattle.rules_exchange.specs.Table.{same_port}
use Rattle.rules_exchange.specs.Events.{correction_of}

-- t1 is awaited for this sequenceId
abbrev pub waits : SyncHalf → ℕ → Bool
waits no_sync n = false
waits (awaits m t2 c) n = eqb m n
waits (knows m t1 t2 c f) n = false

abbrev pub sync_waits_for : Sync → ℕ → Bool
sync_waits_for s n = waits (sync_half s) n

-- t1 and t2 are there
abbrev pub ready : SyncHalf → Bool
ready no_sync = false
ready (awaits m t2 c) = false
ready (knows m t1 t2 c f) = true

abbrev pub sync_complete : Sync → Bool
sync_complete s = ready (sync_half s)

-- t3 is awaited for this sequenceId
abbrev pub pends : RequestHalf → ℕ → Bool
pends no_request n = false
pends (asked m) n = eqb m n
pends (stamped m t3) n = false

abbrev pub request_waits_for : Request → ℕ → Bool
request_waits_for r n = pends (request_half r) n

-- t3 is there, for this sequenceId
abbrev pub answerable : RequestHalf → ℕ → Bool
answerable no_request n = false
answerable (asked m) n = false
answerable (stamped m t3) n = eqb m n

abbrev pub request_complete : Request → ℕ → Bool
request_complete r n = answerable (request_half r) n

-- what a Delay_Resp needs
abbrev pub partners : SyncHalf → RequestHalf → ℕ → Port → Port → Bool
partners s r n p own = cond (ready s) (cond (answerable r n) (same_port p own) false) false

abbrev pub partners_of : Sync → Request → ℕ → Port → Port → Bool
partners_of s r n p own = partners (sync_half s) (request_half r) n p own

-- CORRECTION, by itself
abbrev pub correction_barred : ℤ → Ruling
correction_barred c = cond (correction_of c) (Err Correction) (Ok tt)
