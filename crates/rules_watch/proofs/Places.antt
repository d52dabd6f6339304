-- Three columns read as one ring of samples: a number written to each is a sample written to the ring, and a line asks for no reference.
use mathlib.Core.Path.{◌≡◌, refl, sym, ap, ◌∙◌}
use mathlib.Core.Bool.{Bool, true, false}
use mathlib.Core.List.{List, [], ◌∷◌, ◌++◌, map}
use Prim.Native.Nat.{ℕ, zero, suc, ◌+◌, ◌-◌, ◌%◌, ◌≤◌, ◌<◌, min}
use native.Mathlib.Omega.{arith}
use borrow.Author.Tests.{eqb-true, eqb-false}
use lib.Dec.{eqb}
use lib.IntN.{ℤ, pos}
use lib.ListN.{length, get_or, take, drop, set, length-set, length-replicate, length-map}
use lib.Seq.{ext_get_or, get_or-set_same, get_or-set_other}
use Rattle.rules_watch.specs.declared.settings.WatchSettings.{WatchSettings}
use Rattle.rules_watch.specs.declared.window.Sample.{Sample}
use Rattle.rules_watch.specs.declared.window.Head.{Head}
use Rattle.rules_watch.specs.declared.Watch.{Watch}
use Rattle.rules_watch.specs.Window.{last_n, rot, is_valid, mark_of, sample_at, numbers_from, ring_of, held_in}
use Rattle.rules_watch.specs.Totals.{up_from, points, points_of}
use Rattle.rules_watch.specs.Watch.{samples_in, fresh_watch, pushed, watch_line, unreferenced, line_in}
use Rattle.rules_watch.specs.Inner.{blank, newest_in}
use Rattle.rules_watch.proofs.Ring.{held-pushed, held_none, held-last, length_last, last-at}

-- ---- the ring's places
count-length : (k n : ℕ) → length (numbers_from k n) ≡ n
unfolding numbers_from
count-length k zero = refl
count-length k (suc n) = ap suc (count-length (suc k) n)

map-count : {A : Type 0} (f : ℕ → A) (d : A) (k n i : ℕ) → i < n → get_or (map f (numbers_from k n)) i d ≡ f (k + i)
unfolding numbers_from
map-count f d k zero i h = absurd (omega arith)
map-count f d k (suc n) zero h = ap f (omega arith)
map-count f d k (suc n) (suc i) h = map-count f d (suc k) n i (omega arith) ∙ ap f (omega arith)

module _ (rs ys : List ℤ) (ms : List ℕ) where
  pub ring-length : length (ring_of rs ys ms) ≡ 128
  unfolding ring_of
  ring-length = length-map (numbers_from 0 128) (sample_at rs ys ms) ∙ count-length 0 128

  pub ring-at : (i : ℕ) → i < 128 → get_or (ring_of rs ys ms) i blank ≡ sample_at rs ys ms i
  unfolding ring_of
  ring-at i h = map-count (sample_at rs ys ms) blank 0 128 i h ∙ ap (sample_at rs ys ms) (omega arith)

-- ---- a watch whose columns have all their places
pub record Full (w : Watch) : Type 0 where
  pub references : length w.references ≡ 128
  pub ys : length w.ys ≡ 128
  pub marks : length w.marks ≡ 128

pub full-fresh : Full fresh_watch
full-fresh = record { references = length-replicate 128 (pos 0); ys = length-replicate 128 (pos 0); marks = length-replicate {A = ℕ} 128 0 }

pub full-pushed : (size : ℕ) (origin : ℤ) (s : Sample) (w : Watch) → Full w → Full (pushed size origin s w)
full-pushed size origin s w f = record {
  references = length-set w.references _ _ ∙ f.references;
  ys = length-set w.ys _ _ ∙ f.ys;
  marks = length-set w.marks _ _ ∙ f.marks;
}

-- what is written of a sample reads as the sample
marked : (b : Bool) → is_valid (mark_of b) ≡ b
marked true = refl
marked false = refl

abbrev ring_in : Watch → List Sample
ring_in w = ring_of w.references w.ys w.marks

ring-set : (w : Watch) → Full w → (n : ℕ) (s : Sample) → n < 128
    → ring_of (set w.references n s.reference) (set w.ys n s.y) (set w.marks n (mark_of s.valid)) ≡ set (ring_in w) n s
ring-set w f n s h =
    let rs = set w.references n s.reference in
    let ys = set w.ys n s.y in
    let ms = set w.marks n (mark_of s.valid) in
    let full = ring-length w.references w.ys w.marks in
    ext_get_or blank (ring_of rs ys ms) (set (ring_in w) n s) (ring-length rs ys ms ∙ sym (length-set (ring_in w) n s ∙ full))
    (λ (i : ℕ) (k : i < length (ring_of rs ys ms)). ring-at rs ys ms i (omega (arith, ring-length rs ys ms)) ∙ place i (omega (arith, ring-length rs ys ms)) (eqb i n) refl)
  where
    place : (i : ℕ) → i < 128 → (b : Bool) → eqb i n ≡ b
        → sample_at (set w.references n s.reference) (set w.ys n s.y) (set w.marks n (mark_of s.valid)) i ≡ get_or (set (ring_in w) n s) i blank
    place i k true e =
        rw (eqb-true i n e, get_or-set_same w.references n s.reference (pos 0) (omega (arith, f.references)), get_or-set_same w.ys n s.y (pos 0) (omega (arith, f.ys)), get_or-set_same w.marks n (mark_of s.valid) 0 (omega (arith, f.marks)), marked s.valid)
        (sym (get_or-set_same (ring_in w) n s blank (omega (arith, ring-length w.references w.ys w.marks))))
    place i k false e =
        let d = eqb-false i n e in
        rw (get_or-set_other w.references n i s.reference (pos 0) d, get_or-set_other w.ys n i s.y (pos 0) d, get_or-set_other w.marks n i (mark_of s.valid) 0 d)
        (sym (get_or-set_other (ring_in w) n i s blank d ∙ ring-at w.references w.ys w.marks i k))

-- ---- what is held
-- after a sample the last W of the samples before with the new one behind them
pub watch-pushed : (size : ℕ) (origin : ℤ) (s : Sample) (w : Watch) → Full w → 0 < size → size ≤ 128 → samples_in (pushed size origin s w) ≡ last_n size (samples_in w ++ (s ∷ []))
unfolding samples_in
watch-pushed size origin s w f p q =
    ap (held_in (pushed size origin s w).head) (ring-set w f (w.head.next % 128) s (omega arith))
    ∙ held-pushed size origin s w.head (ring_in w) (ring-length w.references w.ys w.marks) p q

pub watch-none : (w : Watch) → w.head.len ≡ 0 → samples_in w ≡ []
unfolding samples_in
watch-none w e = held_none w.head (ring_in w) (ring-length w.references w.ys w.marks) e

pub watch-fresh : samples_in fresh_watch ≡ []
watch-fresh = watch-none fresh_watch refl

-- the sample taken last comes after the others
pub watch-last : (w : Watch) → 0 < w.head.len → (l : List Sample) × (samples_in w ≡ l ++ (newest_in w ∷ []))
unfolding samples_in
watch-last w h =
    let g = held-last w.head (ring_in w) (ring-length w.references w.ys w.marks) h in
    (g.0, g.1 ∙ ap (λ (s : Sample). g.0 ++ (s ∷ [])) (ring-at w.references w.ys w.marks ((w.head.next % 128 + 127) % 128) (omega arith)))

-- how many are held, and the k-th of them
pub held-length : (w : Watch) → length (samples_in w) ≡ min w.head.len 128
unfolding samples_in held_in
held-length w = length_last (w.head.next % 128) (min w.head.len 128) (ring_in w) (ring-length w.references w.ys w.marks) (omega arith) (omega arith)

pub held-at : (w : Watch) (k : ℕ) → k < min w.head.len 128
    → get_or (samples_in w) k blank ≡ sample_at w.references w.ys w.marks ((w.head.next % 128 + (128 - min w.head.len 128) + k) % 128)
unfolding samples_in held_in
held-at w k h =
    last-at (w.head.next % 128) (min w.head.len 128) k (ring_in w) blank (ring-length w.references w.ys w.marks) (omega arith) (omega arith) h
    ∙ ring-at w.references w.ys w.marks ((w.head.next % 128 + (128 - min w.head.len 128) + k) % 128) (omega arith)

-- ---- a line asks for no reference
bare : Sample → Sample
bare s = record { reference = pos 0; y = s.y; valid = s.valid }

ring-bare : (rs ys : List ℤ) (ms : List ℕ) → map bare (ring_of rs ys ms) ≡ ring_of [] ys ms
unfolding ring_of bare
ring-bare rs ys ms = go (numbers_from 0 128)
  where
    go : (l : List ℕ) → map bare (map (sample_at rs ys ms) l) ≡ map (sample_at [] ys ms) l
    go [] = refl
    go (i ∷ l) = ap (λ (r : List Sample). sample_at [] ys ms i ∷ r) (go l)

module _ (f : Sample → Sample) where
  map-drop : (n : ℕ) (l : List Sample) → map f (drop n l) ≡ drop n (map f l)
  map-drop zero l = refl
  map-drop (suc n) [] = refl
  map-drop (suc n) (s ∷ l) = map-drop n l

  map-take : (n : ℕ) (l : List Sample) → map f (take n l) ≡ take n (map f l)
  map-take zero l = refl
  map-take (suc n) [] = refl
  map-take (suc n) (s ∷ l) = ap (λ (r : List Sample). f s ∷ r) (map-take n l)

  map-join : (l r : List Sample) → map f (l ++ r) ≡ map f l ++ map f r
  map-join [] r = refl
  map-join (s ∷ l) r = ap (λ (m : List Sample). f s ∷ m) (map-join l r)

  map-held : (h : Head) (ring : List Sample) → map f (held_in h ring) ≡ held_in h (map f ring)
  unfolding held_in last_n rot
  map-held h ring =
      let n = h.next % 128 in
      let k = min h.len 128 in
      let l = drop n ring ++ take n ring in
      let turned : map f l ≡ drop n (map f ring) ++ take n (map f ring) = map-join (drop n ring) (take n ring) ∙ rw (map-drop n ring, map-take n ring) in
      map-drop (length l - k) l ∙ ap (λ (m : ℕ). drop (m - k) (map f l)) (sym (length-map l f)) ∙ ap (last_n k) turned

up-bare : (k : ℕ) (l : List Sample) → up_from k (map bare l) ≡ up_from k l
unfolding up_from
up-bare k [] = refl
up-bare k (s ∷ l) = ap (λ (r : List ℕ). k ∷ r) (up-bare (suc k) l)

points-bare : (xs : List ℕ) (l : List Sample) → points xs (map bare l) ≡ points xs l
unfolding points bare
points-bare [] l = refl
points-bare (x ∷ xs) [] = refl
points-bare (x ∷ xs) (s ∷ l) = rw (points-bare xs l)

same_points : (w : Watch) → points_of (samples_in (unreferenced w.head w.ys w.marks)) ≡ points_of (samples_in w)
unfolding samples_in
same_points w =
    let l = held_in w.head (ring_in w) in
    ap (λ (r : List Sample). points_of (held_in w.head r)) (sym (ring-bare w.references w.ys w.marks)) ∙ ap points_of (sym (map-held bare w.head (ring_in w)))
    ∙ ap (λ (xs : List ℕ). points xs (map bare l)) (up-bare 0 l) ∙ points-bare (up_from 0 l) l

pub line-in : (t : WatchSettings) (w : Watch) → line_in t w.head w.ys w.marks ≡ watch_line t w
line-in t w = rw (same_points w)
