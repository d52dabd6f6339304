-- The watch's memory against the samples taken since the wipe: a good watch tells them, a fresh one is good, and each call keeps it so.
use Rattle.std.specs.Prelude.{Ok, Err}
use mathlib.Core.Path.{◌≡◌, refl, sym, ap, ◌∙◌}
use mathlib.Core.Bool.{Bool, true, false, cond, ◌||◌}
use mathlib.Core.List.{List, [], ◌∷◌, ◌++◌}
use Prim.Native.Nat.{ℕ, zero, suc, ◌+◌, ◌-◌, ◌≤◌, ◌<◌, min}
use native.Mathlib.Decide.{dec_le}
use native.Mathlib.Omega.{arith}
use borrow.Author.Tests.{le-leb, lt-leb, leb-false}
use lib.Dec.{leb, ltb}
use lib.IntN.{ℤ, nat_abs, ◌-ℤ◌}
use lib.Signed.{le_z}
use lib.ListN.{length, drop, length-append}
use Rattle.numbers.specs.declared.refusal.Refusal.TheVariants.{Tick}
use Rattle.rules_watch.specs.declared.settings.WatchSettings.{WatchSettings}
use Rattle.rules_watch.specs.declared.window.Sample.{Sample}
use Rattle.rules_watch.specs.declared.Watch.{Watch}
use Rattle.rules_watch.specs.declared.Pulse.TheVariants.{Back, Range, Jump}
use Rattle.rules_watch.specs.declared.judging.Judged.{Judged}
use Rattle.rules_watch.specs.declared.judging.Judged.TheVariants.{Wipe, Take}
use Rattle.rules_watch.specs.Settings.{size_of, wait_of}
use Rattle.rules_watch.specs.Window.{last_n}
use Rattle.rules_watch.specs.Rules.{Outcome, Since, fresh_since, pulse_of, wipes_of, apart, outside_of, sample_after, settled, followed, on_last, inside, outcome, since_by, Stamps, since_after, window_of, line_since}
use Rattle.rules_watch.specs.Watch.{samples_in, fresh_watch, sample_taken, taken_by, since_of, taken_of, next_watch, watch_after, watch_line}
use Rattle.rules_watch.proofs.Ring.{last_none, last_on, last-again}
use Rattle.rules_watch.proofs.Places.{Full, watch-pushed, full-pushed, full-fresh, watch-fresh}
use Rattle.rules_watch.proofs.Outcomes.{outcome-is}

-- every y is below a second
pub data Small : List Sample → Type 0 where
  none : Small []
  more : {s : Sample} {l : List Sample} → nat_abs s.y < 1_000_000_000 → Small l → Small (s ∷ l)

small-snoc : {l : List Sample} (s : Sample) → Small l → nat_abs s.y < 1_000_000_000 → Small (l ++ (s ∷ []))
small-snoc s none h = more h none
small-snoc s (more k m) h = more k (small-snoc s m h)

small-drop : (n : ℕ) {l : List Sample} → Small l → Small (drop n l)
small-drop zero m = m
small-drop (suc n) none = none
small-drop (suc n) (more k m) = small-drop n m

pub small-last : (n : ℕ) {l : List Sample} → Small l → Small (last_n n l)
unfolding last_n
small-last n {l} m = small-drop (length l - n) m

-- the memory w tells the samples h
pub record Good (t : WatchSettings) (h : Since) (w : Watch) : Type 0 where
  pub full : Full w
  pub holds : samples_in w ≡ window_of t h.samples
  pub counts : w.head.taken ≡ min (length h.samples) 10
  pub origin : w.head.origin ≡ h.origin
  pub small : Small h.samples

pub fresh-good : (t : WatchSettings) → Good t fresh_since fresh_watch
fresh-good t = record {
  full = full-fresh;
  holds = watch-fresh ∙ sym (last_none (size_of t));
  counts = refl;
  origin = refl;
  small = none;
}

-- what is made of a pulse depends on the samples since the wipe alone
pub same_outcome : {t : WatchSettings} {h : Since} {w : Watch} → Good t h w → (reference clock : ℤ) → outcome t (since_of w) reference clock ≡ outcome t h reference clock
same_outcome {t} {h} {w} g reference clock = rw (g.holds, g.origin, last_on _ _ (size_of t) h.samples (omega arith))

-- a pulse that wipes is one of those that do, and a sample that is taken is below a second
abbrev pub ProperlyJudged : Judged → Type 0
ProperlyJudged (Wipe p) = wipes_of p ≡ true
ProperlyJudged (Take o s) = nat_abs s.y < 1_000_000_000

abbrev pub Proper : Outcome → Type 0
Proper (Err r) = Unit
Proper (Ok j) = ProperlyJudged j

proper-settled : (t : WatchSettings) (o : ℤ) (p : Sample) (r y : ℤ) → nat_abs y < 1_000_000_000 → ProperlyJudged (settled t o p r y)
proper-settled t o p r y h = go (ltb t.jump (apart y p.y))
  where
    go : (b : Bool) → ProperlyJudged (cond b (Wipe Jump) (Take o (sample_after t p r y)))
    go true = refl
    go false = h

proper-judged : (t : WatchSettings) (o : ℤ) (p : Sample) (r y : ℤ) → ProperlyJudged (followed t o p r y)
proper-judged t o p r y = go (le_z r p.reference) (leb 1_000_000_000 (nat_abs y)) refl
  where
    go : (a b : Bool) → leb 1_000_000_000 (nat_abs y) ≡ b → ProperlyJudged (cond a (Wipe Back) (cond b (Wipe Range) (settled t o p r y)))
    go true b e = refl
    go false true e = refl
    go false false e = proper-settled t o p r y (leb-false 1_000_000_000 (nat_abs y) e)

proper-last : (first : Judged) (f : Sample → Judged) (l : List Sample) → ProperlyJudged first → ((s : Sample) → ProperlyJudged (f s)) → ProperlyJudged (on_last first f l)
unfolding on_last
proper-last first f [] h k = h
proper-last first f (s ∷ []) h k = k s
proper-last first f (s ∷ r ∷ l) h k = proper-last first f (r ∷ l) h k

-- every outcome is proper
pub proper : (t : WatchSettings) (h : Since) (r c : ℤ) → Proper (outcome t h r c)
proper t h r c = rw (outcome-is t h r c) (go (outside_of r || outside_of c))
  where
    go : (b : Bool) → Proper (cond b (Err Tick) (Ok (inside t h r c)))
    go true = tt
    go false = proper-last _ _ h.samples (omega arith) (λ p. proper-judged t h.origin p r (c -ℤ r -ℤ h.origin))

-- a sample taken stays told
pub good-accepted : {t : WatchSettings} {h : Since} {w : Watch} → Good t h w → (o : ℤ) (s : Sample) → nat_abs s.y < 1_000_000_000 → Good t (since_by h (Ok (Take o s))) (sample_taken t w o s).watch
good-accepted {t} {h} {w} g o s k = record {
  full = full-pushed (size_of t) o s w g.full;
  holds = watch-pushed (size_of t) o s w g.full (omega arith) (omega arith) ∙ rw g.holds (last-again (size_of t) h.samples s (omega arith));
  counts = rw g.counts (count (length h.samples) (length (h.samples ++ (s ∷ []))) (length-append h.samples (s ∷ [])));
  origin = refl;
  small = small-snoc s g.small k;
}
  where
    count : (m n : ℕ) → n ≡ m + 1 → min (min m 10 + 1) 10 ≡ min n 10
    count m n e = omega arith

-- a sample taken wipes nothing
pub next-taken : (t : WatchSettings) (w : Watch) (o : ℤ) (s : Sample) → next_watch (sample_taken t w o s) ≡ (sample_taken t w o s).watch
next-taken t w o s = go s.valid
  where
    go : (b : Bool) → cond (wipes_of (pulse_of b)) fresh_watch (sample_taken t w o s).watch ≡ (sample_taken t w o s).watch
    go true = refl
    go false = refl

-- after any outcome
good-leaves : {t : WatchSettings} {h : Since} {w : Watch} → Good t h w → (o : Outcome) → Proper o → Good t (since_by h o) (next_watch (taken_by t w o))
good-leaves g (Err r) k = g
good-leaves {t} g (Ok (Wipe p)) k = rw k (fresh-good t)
good-leaves {t} {h} {w} g (Ok (Take o s)) k = rw (next-taken t w o s) (good-accepted g o s k)

-- ---- the two calls, told from the samples since the wipe
pub good-takes : {t : WatchSettings} {h : Since} {w : Watch} → Good t h w → (reference clock : ℤ) → taken_of t w reference clock ≡ taken_by t w (outcome t h reference clock)
good-takes {t} {h} {w} g reference clock = ap (taken_by t w) (same_outcome g reference clock)

pub good-keeps : {t : WatchSettings} {h : Since} {w : Watch} → Good t h w → (reference clock : ℤ) → Good t (since_by h (outcome t h reference clock)) (next_watch (taken_of t w reference clock))
good-keeps {t} {h} {w} g reference clock = rw (good-takes g reference clock) (good-leaves g (outcome t h reference clock) (proper t h reference clock))

-- any list of pulses
pub good-played : {t : WatchSettings} {h : Since} {w : Watch} → Good t h w → (l : List Stamps) → Good t (since_after t h l) (watch_after t w l)
good-played g [] = g
good-played {t} {h} {w} g (p ∷ l) =
    good-played {t = t} {h = since_by h (outcome t h p.reference p.clock)} {w = next_watch (taken_of t w p.reference p.clock)} (good-keeps g p.reference p.clock) l

pub good-line : {t : WatchSettings} {h : Since} {w : Watch} → Good t h w → watch_line t w ≡ line_since t h
good-line {t} {h} {w} g = rw (g.holds, g.counts, reach (wait_of t) (length h.samples) (omega arith))
  where
    reach : (d n : ℕ) → d ≤ 10 → leb d (min n 10) ≡ leb d n
    reach d n k = go (dec_le d n)
      where
        go : Dec (d ≤ n) → leb d (min n 10) ≡ leb d n
        go (yes h) = le-leb d (min n 10) (omega arith) ∙ sym (le-leb d n h)
        go (no h) = lt-leb d (min n 10) (omega arith) ∙ sym (lt-leb d n (omega arith))
