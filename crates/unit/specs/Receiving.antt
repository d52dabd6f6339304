-- What a received message of any kind does, by the fields that count for it (rule 2.17): an Announce is handed over with the table, all others without.
use Rattle.std.specs.Prelude.{ℕ}
use Rattle.numbers.specs.declared.stamp.Stamp.{Stamp}
use Rattle.wire_layout.specs.declared.message.Header.{Header}
use Rattle.wire_layout.specs.declared.message.Body.{Body}
use Rattle.wire_layout.specs.declared.message.Body.TheVariants as bodies
use Rattle.rules_masters.specs.declared.table.Table.{Table}
use Rattle.rules_settings.specs.declared.Settings.{Settings}
use Rattle.unit_core.specs.Effects.{Stays, Progress, Effect}
use Rattle.unit_choosing.specs.Choosing.{admission, announces}
use Rattle.unit_measuring.specs.Hearing.{hears}

abbrev pub receives : Settings → Stays → Progress → Table → ℕ → Stamp → Header → Body → Effect
receives s k r t now arrival h (bodies.Announce stamp offer) = announces s k r t now (record { header = h; stamp = stamp; offer = offer })
receives s k r t now arrival h (bodies.DelayReq stamp) = hears s k r now arrival h (bodies.DelayReq stamp)
receives s k r t now arrival h (bodies.Sync t1) = hears s k r now arrival h (bodies.Sync t1)
receives s k r t now arrival h (bodies.FollowUp t1) = hears s k r now arrival h (bodies.FollowUp t1)
receives s k r t now arrival h (bodies.DelayResp t4 requester) = hears s k r now arrival h (bodies.DelayResp t4 requester)

-- the table after it: only an Announce changes it, and one that is refused does not
abbrev pub table_by : Settings → Stays → Table → ℕ → Header → Body → Table
table_by s k t now h (bodies.Announce stamp offer) = (admission s k t now (record { header = h; stamp = stamp; offer = offer })).table
table_by s k t now h (bodies.DelayReq stamp) = t
table_by s k t now h (bodies.Sync t1) = t
table_by s k t now h (bodies.FollowUp t1) = t
table_by s k t now h (bodies.DelayResp t4 requester) = t
