-- W, the minimum and the holdoff as the watch takes them. Accepted settings give each as it was set: rules_settings/proofs/Accepting.antt.
use Rattle.std.specs.Prelude.{ℕ, min, max}
use Rattle.rules_watch.specs.declared.settings.WatchSettings.{WatchSettings}

-- settings that nobody accepted get the nearer end: the ring has 128 places, a line needs two points, and the watch counts to 10
abbrev pub size_of : WatchSettings → ℕ
size_of t = max 2 (min 128 t.window)

abbrev pub least_of : WatchSettings → ℕ
least_of t = max 2 t.minimum

abbrev pub wait_of : WatchSettings → ℕ
wait_of t = min 10 t.holdoff
