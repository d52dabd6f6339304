-- The ring and the list that it holds.
use mathlib.Core.Path.{◌≡◌, refl, sym, ap, ◌∙◌}
use mathlib.Core.Bool.{Bool, true, false}
use mathlib.Core.List.{List, [], ◌∷◌, ◌++◌, append_assoc, append-nil}
use mathlib.Core.Logic.{⊎_elim}
use Prim.Native.Nat.{ℕ, zero, suc, ◌+◌, ◌-◌, ◌%◌, ◌≤◌, ◌<◌, min}
use native.Mathlib.Nat.{eq-or-lt_of_le, mod-eq_of_lt}
use native.Mathlib.Numerals.{add-one}
use native.Mathlib.Omega.{arith}
use borrow.Author.Tests.{ltb-true, ltb-false}
use lib.Dec.{ltb}
use lib.IntN.{ℤ}
use lib.ListN.{get_or, get_or-append, length, take, drop, set, length-append, length-drop, length-set}
use lib.Seq.{get_or-drop, get_or-take, get_or-append-add, take-suc-set, drop-set-lt, drop-append-le, drop-drop, take-suc, take_all, drop-length, length-take-le}
use Rattle.rules_watch.specs.declared.window.Sample.{Sample}
use Rattle.rules_watch.specs.declared.window.Head.{Head}
use Rattle.rules_watch.specs.Rules.{on_last}
use Rattle.rules_watch.specs.Window.{last_n, rot, held_in, head_after}
use Rattle.rules_watch.specs.Inner.{blank}

-- the counts of a push on a ring of L places, of which k are held, into a window of w
refill : (L : ℕ) {w : ℕ} → 0 < w → w ≤ L → L - 1 + 1 ≡ L
refill L z q = omega arith

rest : (L k : ℕ) → k ≤ L → L - (L - k) ≡ k
rest L k p = omega arith

gap : (L k w : ℕ) → k ≤ L → w ≤ L → 1 + (L - min (k + 1) w) ≡ (L - k) + (k + 1 - w)
gap L k w p q = omega arith

left-of : (L k w : ℕ) → 0 < w → w ≤ L → (L - min (k + 1) w) + 1 ≤ L
left-of L k w z q = omega arith

right_of : (L k w : ℕ) → k ≤ L → 0 < w → w ≤ L → (k + 1 - w) + (L - k) ≤ L
right_of L k w p z q = omega arith

module _ {A : Type 0} where
  length-rot : (n : ℕ) (l : List A) → n ≤ length l → length (rot n l) ≡ length l
  unfolding rot
  length-rot n l h = simp length-append (omega (arith, length-drop n l, length-take-le n l h))

  -- a place written over: the oldest leaves, the new one is the last
  rot-push : (n : ℕ) (l : List A) (s : A) → n < length l → rot (n + 1) (set l n s) ≡ drop 1 (rot n l) ++ (s ∷ [])
  unfolding rot
  rot-push n l s h =
      let d : 1 ≤ length (drop n l) = omega (arith, length-drop n l) in
      rw (drop-append-le 1 (drop n l) (take n l) d, drop-drop 1 n l, append_assoc, drop-set-lt (n + 1) l n s (omega arith))
      (ap (λ r. drop (n + 1) l ++ r) (rw add-one (take-suc-set l n s h)))

  rot-round : (n : ℕ) (l : List A) → length l ≡ n → rot 0 l ≡ rot n l
  unfolding rot
  rot-round n l h = rw (← h, append-nil, drop-length) (sym (take_all (length l) l (omega arith)))

  rot-mod : (n : ℕ) (l : List A) → n ≤ 128 → length l ≡ 128 → rot (n % 128) l ≡ rot n l
  rot-mod n l h k =
      ⊎_elim (λ (e : n ≡ 128). rw e (rot-round 128 l k)) (λ (g : n < 128). ap (λ m. rot m l) (mod-eq_of_lt g)) (eq-or-lt_of_le h)

  -- the j-th of the places from n on
  rot-at : (n j : ℕ) (l : List A) (d : A) → length l ≡ 128 → n < 128 → j < 128 → get_or (rot n l) j d ≡ get_or l ((n + j) % 128) d
  unfolding rot
  rot-at n j l d e h k = go (ltb (n + j) 128) refl
    where
      go : (t : Bool) → ltb (n + j) 128 ≡ t → get_or (drop n l ++ take n l) j d ≡ get_or l ((n + j) % 128) d
      go true t =
          let g : n + j < 128 = ltb-true (n + j) 128 t in
          get_or-append (drop n l) (take n l) d j (omega (arith, length-drop n l)) ∙ get_or-drop n l j d ∙ ap (λ m. get_or l m d) (sym (mod-eq_of_lt g))
      go false t =
          let g : 128 ≤ n + j = ltb-false (n + j) 128 t in
          let a : j ≡ length (drop n l) + (n + j - 128) = omega (arith, length-drop n l) in
          let b : n + j - 128 ≡ (n + j) % 128 = omega arith in
          ap (λ m. get_or (drop n l ++ take n l) m d) a ∙ get_or-append-add (drop n l) (take n l) (n + j - 128) d
          ∙ get_or-take n l (n + j - 128) d (omega arith) ∙ ap (λ m. get_or l m d) b

  -- the last len of the places, and the k-th of them
  pub length_last : (n len : ℕ) (l : List A) → length l ≡ 128 → n < 128 → len ≤ 128 → length (last_n len (rot n l)) ≡ len
  unfolding last_n
  length_last n len l e h p = simp length-drop (omega (arith, length-rot n l (omega arith)))

  pub last-at : (n len k : ℕ) (l : List A) (d : A) → length l ≡ 128 → n < 128 → len ≤ 128 → k < len
      → get_or (last_n len (rot n l)) k d ≡ get_or l ((n + (128 - len) + k) % 128) d
  unfolding last_n
  last-at n len k l d e h p q =
      let f : length (rot n l) - len ≡ 128 - len = omega (arith, length-rot n l (omega arith)) in
      let g : n + (128 - len + k) ≡ n + (128 - len) + k = omega arith in
      rw f (get_or-drop (128 - len) (rot n l) k d ∙ rot-at n (128 - len + k) l d e h (omega arith) ∙ ap (λ m. get_or l (m % 128) d) g)

  -- the last of a list with one more behind it
  length-snoc : (l : List A) (s : A) → length (l ++ (s ∷ [])) ≡ length l + 1
  length-snoc l s = length-append l (s ∷ [])

  drop-snoc : (j i : ℕ) (h : List A) (s : A) → j + i ≤ length h → drop j (drop i h ++ (s ∷ [])) ≡ drop (i + j) h ++ (s ∷ [])
  drop-snoc j i h s p = drop-append-le j (drop i h) (s ∷ []) (omega (arith, length-drop i h)) ∙ ap (λ r. r ++ (s ∷ [])) (drop-drop j i h)

  -- of a ring of which the last k are held: after a push the last w of them and the new one
  last-push : (k w : ℕ) (h : List A) (s : A) → k ≤ length h → 0 < w → w ≤ length h → last_n (min (k + 1) w) (drop 1 h ++ (s ∷ [])) ≡ last_n w (last_n k h ++ (s ∷ []))
  unfolding last_n
  last-push k w h s p z q =
      let L = length h in
      let a : length (drop 1 h ++ (s ∷ [])) ≡ L = length-snoc (drop 1 h) s ∙ ap (λ n. n + 1) (length-drop 1 h) ∙ refill L z q in
      let b : length (drop (L - k) h ++ (s ∷ [])) ≡ k + 1 = length-snoc (drop (L - k) h) s ∙ ap (λ n. n + 1) (length-drop (L - k) h ∙ rest L k p) in
      rw (a, b)
      (drop-snoc (L - min (k + 1) w) 1 h s (left-of L k w z q) ∙ ap (λ n. drop n h ++ (s ∷ [])) (gap L k w p q) ∙ sym (drop-snoc (k + 1 - w) (L - k) h s (right_of L k w p z q)))

-- ---- the window
-- after a sample it holds the last W of the samples before with the new one behind them
pub held-pushed : (size : ℕ) (origin : ℤ) (s : Sample) (h : Head) (ring : List Sample) → length ring ≡ 128 → 0 < size → size ≤ 128
    → held_in (head_after size origin h) (set ring (h.next % 128) s) ≡ last_n size (held_in h ring ++ (s ∷ []))
unfolding held_in
held-pushed size origin s h ring full p q =
    let n = h.next % 128 in
    let k = min h.len 128 in
    let e : min (min (k + 1) size) 128 ≡ min (k + 1) size = omega arith in
    let f : (n + 1) % 128 % 128 ≡ (n + 1) % 128 = omega arith in
    let long : length (rot n ring) ≡ 128 = length-rot n ring (omega arith) ∙ full in
    rw (e, f)
    (ap (last_n (min (k + 1) size)) (rot-mod (n + 1) (set ring n s) (omega arith) (length-set ring n s ∙ full) ∙ rot-push n ring s (omega arith))
    ∙ last-push k size (rot n ring) s (omega arith) p (omega arith))

pub held_none : (h : Head) (ring : List Sample) → length ring ≡ 128 → h.len ≡ 0 → held_in h ring ≡ []
unfolding held_in
held_none h ring full e =
    let n = h.next % 128 in
    let z : min h.len 128 ≡ 0 = omega arith in
    rw z (nothing (last_n 0 (rot n ring)) (length_last n 0 ring full (omega arith) (omega arith)))
  where
    nothing : (l : List Sample) → length l ≡ 0 → l ≡ []
    nothing [] h = refl
    nothing (s ∷ l) h = absurd (omega arith)

-- a list by its last
behind : (l : List Sample) (m : ℕ) → length l ≡ m + 1 → l ≡ take m l ++ (get_or l m blank ∷ [])
behind l m e = sym (take_all (suc m) l (omega arith)) ∙ take-suc l m blank (omega arith)

-- the sample taken last comes after the others
pub held-last : (h : Head) (ring : List Sample) → length ring ≡ 128 → 0 < h.len → (l : List Sample) × (held_in h ring ≡ l ++ (get_or ring ((h.next % 128 + 127) % 128) blank ∷ []))
unfolding held_in
held-last h ring full some =
    let n = h.next % 128 in
    let k = min h.len 128 in
    let H = last_n k (rot n ring) in
    let m = k - 1 in
    let e : length H ≡ k = length_last n k ring full (omega arith) (omega arith) in
    let j : n + (128 - k) + m ≡ n + 127 = back_one n k (omega arith) (omega arith) in (
      take m H,
      behind H m (omega arith)
          ∙ ap (λ (s : Sample). take m H ++ (s ∷ [])) (last-at n k m ring blank full (omega arith) (omega arith) (omega arith) ∙ ap (λ (i : ℕ). get_or ring (i % 128) blank) j),
    )
  where
    back_one : (n k : ℕ) → 0 < k → k ≤ 128 → n + (128 - k) + (k - 1) ≡ n + 127
    back_one n k p q = omega arith

-- f of the last of a list is f of what comes after the others
pub on-last : {A : Type 0} (none : A) (f : Sample → A) (l : List Sample) (s : Sample) → on_last none f (l ++ (s ∷ [])) ≡ f s
unfolding on_last
on-last none f [] s = refl
on-last none f (a ∷ []) s = refl
on-last none f (a ∷ b ∷ l) s = on-last none f (b ∷ l) s

-- ---- the last n of a list
pub last_none : (n : ℕ) → last_n {A = Sample} n [] ≡ []
unfolding last_n
last_none n = drop-none (0 - n)
  where
    drop-none : (j : ℕ) → drop {A = Sample} j [] ≡ []
    drop-none zero = refl
    drop-none (suc j) = refl

last_snoc : (n : ℕ) (l : List Sample) (s : Sample) → 0 < n → last_n n (l ++ (s ∷ [])) ≡ drop (length l + 1 - n) l ++ (s ∷ [])
unfolding last_n
last_snoc n l s h = rw (length-snoc l s) (drop-append-le (length l + 1 - n) l (s ∷ []) (omega arith))

-- they have the list's last behind them
pub last_on : {A : Type 0} (none : A) (f : Sample → A) (n : ℕ) (l : List Sample) → 0 < n → on_last none f (last_n n l) ≡ on_last none f l
last_on none f n [] h = ap (on_last none f) (last_none n)
last_on none f n (a ∷ l) h =
    let m = length l in
    let e = behind (a ∷ l) m (omega arith) in
    let r = take m (a ∷ l) in
    let s = get_or (a ∷ l) m blank in
    rw e (ap (on_last none f) (last_snoc n r s h) ∙ on-last none f (drop (length r + 1 - n) r) s ∙ sym (on-last none f r s))

-- and with one more behind them the last n are those of the whole list with it
last-twice : (n : ℕ) (l : List Sample) → 0 < n → drop (length (last_n n l) + 1 - n) (last_n n l) ≡ drop (length l + 1 - n) l
unfolding last_n
last-twice n l h = rw (length-drop (length l - n) l, drop-drop ((length l - (length l - n)) + 1 - n) (length l - n) l) (ap (λ (j : ℕ). drop j l) (count (length l) n h))
  where
    count : (L n : ℕ) → 0 < n → (L - n) + ((L - (L - n)) + 1 - n) ≡ L + 1 - n
    count L n h = omega arith

pub last-again : (n : ℕ) (l : List Sample) (s : Sample) → 0 < n → last_n n (last_n n l ++ (s ∷ [])) ≡ last_n n (l ++ (s ∷ []))
last-again n l s h = last_snoc n (last_n n l) s h ∙ ap (λ (r : List Sample). r ++ (s ∷ [])) (last-twice n l h) ∙ sym (last_snoc n l s h)
