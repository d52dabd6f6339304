-- Reading what was made gives it back, for every record: nothing of a core or of a master's record is lost in C.
use mathlib.Core.Path.{◌≡◌, refl}
use mathlib.Core.Bool.{Bool, true, false}
use Rattle.numbers.specs.declared.stamp.Stamp.{Stamp}
use Rattle.wire_layout.specs.declared.message.Header.{Header}
use Rattle.wire_layout.specs.declared.message.Offer.{Offer}
use Rattle.rules_masters.specs.declared.chosen.Chosen.{Chosen}
use Rattle.rules_masters.specs.declared.record.Record.{Record}
use Rattle.rules_settings.specs.declared.Settings.{Settings}
use Rattle.rules_exchange.specs.declared.halves.Sync.{Sync}
use Rattle.rules_exchange.specs.declared.halves.Request.{Request}
use Rattle.rules_exchange.specs.declared.Last.{Last}
use Rattle.rules_exchange.specs.declared.Exchange.{Exchange}
use Rattle.unit_core.specs.declared.Core.{Core}
use Rattle.door_records.specs.Parts.{flag, is_set, stamp_in, stamp_words}
use Rattle.door_records.specs.Unit.{chosen_in, chosen_words, settings_in, settings_words, sync_in, sync_words, request_in, request_words, last_in, last_words, exchange_in, halves_words, delays_words, core_in, unit_words}
use Rattle.door_records.specs.Masters.{header_in, header_words, offer_in, offer_words, record_in, master_words}

pub flag-back : (b : Bool) → is_set (flag b) ≡ b
flag-back true = refl
flag-back false = refl

-- ---- without a flag all is as it was
pub stamp-back : (t : Stamp) → stamp_in (stamp_words t) ≡ t
stamp-back t = refl

pub settings-back : (s : Settings) → settings_in (settings_words s) ≡ s
settings-back s = refl

pub header-back : (h : Header) → header_in (header_words h) ≡ h
header-back h = refl

pub offer-back : (o : Offer) → offer_in (offer_words o) ≡ o
offer-back o = refl

pub record-back : (r : Record) → record_in (master_words r) ≡ r
record-back r = refl

-- ---- and each flag is
pub chosen-back : (c : Chosen) → chosen_in (chosen_words c) ≡ c
chosen-back c = rw (flag-back c.some)

pub sync-back : (s : Sync) → sync_in (sync_words s) ≡ s
sync-back s = rw (flag-back s.held, flag-back s.known)

pub request-back : (q : Request) → request_in (request_words q) ≡ q
request-back q = rw (flag-back q.pending, flag-back q.given)

pub last-back : (l : Last) → last_in (last_words l) ≡ l
last-back l = rw (flag-back l.taken)

-- ---- so the whole is
pub exchange-back : (x : Exchange) → exchange_in (halves_words x) (delays_words x) ≡ x
exchange-back x = rw (sync-back x.sync, request-back x.request, last-back x.last)

pub core-back : (c : Core) → core_in (unit_words c) ≡ c
core-back c =
    rw (chosen-back c.domain.chosen, exchange-back c.domain.run.exchange, flag-back c.domain.run.measured, flag-back c.domain.faulty)
