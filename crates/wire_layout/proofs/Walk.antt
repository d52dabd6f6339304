-- The walk over a suffix: what its next step tells of the whole.
use mathlib.Core.Path.{◌≡◌, refl, ap, ◌∙◌}
use mathlib.Core.Bool.{true, false}
use mathlib.Core.List.{List}
use Prim.Native.Nat.{ℕ, zero, suc, ◌+◌, ◌-◌, ◌%◌, ◌<◌, ◌≤◌}
use native.Mathlib.Nat.{add_assoc}
use native.Mathlib.Omega.{arith}
use lib.ListN.{length, drop, length-drop}
use lib.Seq.{get_or-drop, drop-drop}
use lib.Dec.{ltb, eqb}
use borrow.Author.Tests.{lt-ltb, le-ltb, eq-eqb, ne_eqb, ltb-true, ltb-false, eqb-true, eqb-false}
use Rattle.wire_layout.proofs.Known.{choose}
use Rattle.wire_octets.specs.Octets.{num}
use Rattle.wire_layout.specs.declared.suffix.Tlv.{Tlv}
use Rattle.wire_layout.specs.declared.suffix.Tlv.TheVariants.{End, Whole, Broken}
use Rattle.wire_layout.specs.Suffix.{tlv_of, whole_from, whole_within, whole_of}

-- a number behind `at` octets
pub num-drop : (k j at : ℕ) (s : List ℕ) → num k j (drop at s) ≡ num k (at + j) s
unfolding num
num-drop zero j at s = refl
num-drop (suc k) j at s = rw (num-drop k j at s, get_or-drop, add_assoc)

-- what a list begins with, by the tests that tell it
module _ (u : List ℕ) where
  pub t-end : length u ≡ 0 → tlv_of u ≡ End
  unfolding tlv_of
  t-end h = simp (eq-eqb (length u) 0 h)

  pub t-short : (length u ≡ 0 → ⊥) → length u < 4 → tlv_of u ≡ Broken
  unfolding tlv_of
  t-short n h = simp (ne_eqb (length u) 0 n, lt-ltb (length u) 4 h)

  module _ (h : 4 ≤ length u) where
    some : length u ≡ 0 → ⊥
    some e = omega arith

    pub t-odd : (num 2 2 u % 2 ≡ 0 → ⊥) → tlv_of u ≡ Broken
    unfolding tlv_of
    t-odd n = simp (ne_eqb (length u) 0 some, le-ltb (length u) 4 h, ne_eqb (num 2 2 u % 2) 0 n)

    pub t-long : num 2 2 u % 2 ≡ 0 → length u - 4 < num 2 2 u → tlv_of u ≡ Broken
    unfolding tlv_of
    t-long e n = simp (ne_eqb (length u) 0 some, le-ltb (length u) 4 h, eq-eqb (num 2 2 u % 2) 0 e, lt-ltb (length u - 4) (num 2 2 u) n)

    pub t-whole : num 2 2 u % 2 ≡ 0 → num 2 2 u ≤ length u - 4 → tlv_of u ≡ Whole (num 2 0 u) (num 2 2 u)
    unfolding tlv_of
    t-whole e n = simp (ne_eqb (length u) 0 some, le-ltb (length u) 4 h, eq-eqb (num 2 2 u % 2) 0 e, le-ltb (length u - 4) (num 2 2 u) n)

-- a whole TLV lies within the list
abbrev Room : List ℕ → Tlv → Type 0
Room u End = Unit
Room u (Whole k n) = 4 + n ≤ length u
Room u Broken = Unit

room : (u : List ℕ) → Room u (tlv_of u)
room u =
    choose (eqb (length u) 0) (λ a. rw (t-end u (eqb-true (length u) 0 a)) tt) (λ a.
    let a = eqb-false (length u) 0 a in
    choose (ltb (length u) 4) (λ b. rw (t-short u a (ltb-true (length u) 4 b)) tt) (λ b.
    let b = ltb-false (length u) 4 b in
    choose (eqb (num 2 2 u % 2) 0) (λ d.
    let d = eqb-true (num 2 2 u % 2) 0 d in
    choose (ltb (length u - 4) (num 2 2 u)) (λ e. rw (t-long u b d (ltb-true (length u - 4) (num 2 2 u) e)) tt) (λ e.
    let e = ltb-false (length u - 4) (num 2 2 u) e in
    rw (t-whole u b d e) (omega arith)))
    (λ d. rw (t-odd u b (eqb-false (num 2 2 u % 2) 0 d)) tt)))

-- what a walk that has come to `at` still has to find out
pub data Rest (t : List ℕ) (at : ℕ) : Type 0 where
  rest : (f : ℕ) → length t - at < f → whole_of t ≡ whole_within f (drop at t) → Rest t at

pub start : (t : List ℕ) → Rest t 0
start t = rest (suc (length t)) (omega arith) refl

module _ (t : List ℕ) (at : ℕ) where
  pub ends : Rest t at → tlv_of (drop at t) ≡ End → whole_of t ≡ true
  unfolding whole_within
  ends (rest zero e s) h = absurd (omega arith)
  ends (rest (suc f) e s) h = s ∙ ap (whole_from (whole_within f) (drop at t)) h

  pub breaks : Rest t at → tlv_of (drop at t) ≡ Broken → whole_of t ≡ false
  unfolding whole_within
  breaks (rest zero e s) h = absurd (omega arith)
  breaks (rest (suc f) e s) h = s ∙ ap (whole_from (whole_within f) (drop at t)) h

  pub fits : (k n : ℕ) → tlv_of (drop at t) ≡ Whole k n → at + (4 + n) ≤ length t
  fits k n h = omega (arith, rw h at (room (drop at t)), length-drop at t)

  pub next : (k n : ℕ) → Rest t at → tlv_of (drop at t) ≡ Whole k n → Rest t (at + (4 + n))
  unfolding whole_within
  next k n (rest zero e s) h = absurd (omega arith)
  next k n (rest (suc f) e s) h = rest f (omega (arith, fits k n h)) (s ∙ ap (whole_from (whole_within f) (drop at t)) h ∙ rw drop-drop)
