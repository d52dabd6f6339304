-- No sender has two live records.
use mathlib.Core.Path.{◌≡◌, refl, sym, ◌∙◌}
use mathlib.Core.Bool.{Bool, true, false, and-eq-true_iff, false≢true}
use mathlib.Core.Logic.{◌↔◌}
use mathlib.Core.List.{List}
use Prim.Native.Nat.{ℕ, zero, suc, ◌≤◌, ◌<◌}
use lib.Dec.{eqb, ltb}
use lib.ListN.{length, get_or, set, replicate, get_or-eq_default}
use lib.Seq.{get_or-set_same, get_or-set_other}
use borrow.Author.Tests.{eq-eqb, eqb-true, eqb-false, ltb-true, ltb-false}
use Rattle.wire_layout.specs.declared.message.Port.{Port}
use Rattle.rules_masters.specs.declared.record.Record.{Record}
use Rattle.rules_masters.specs.Records.{live_of, known_of, same_key_of, fresh_record}
use Rattle.rules_masters.specs.Places.{fresh_table}
use Rattle.rules_masters.proofs.Times.{live-before}

pub key-exactly : (a b : Port) → (same_key_of a b ≡ true) ↔ ((a.clock ≡ b.clock) × (a.number ≡ b.number))
unfolding same_key_of
key-exactly a b =
    (λ e. let s = (and-eq-true_iff _ _).0 e in (eqb-true _ _ s.0, eqb-true _ _ s.1), λ h. rw (eq-eqb _ _ h.0, eq-eqb _ _ h.1))

pub key-symmetric : (a b : Port) → same_key_of a b ≡ true → same_key_of b a ≡ true
key-symmetric a b e = let s = (key-exactly a b).0 e in (key-exactly b a).1 (sym s.0, sym s.1)

pub key-transitive : (a b c : Port) → same_key_of a b ≡ true → same_key_of b c ≡ true → same_key_of a c ≡ true
key-transitive a b c e f =
    let s = (key-exactly a b).0 e in
    let r = (key-exactly b c).0 f in
    (key-exactly a c).1 (s.0 ∙ r.0, s.1 ∙ r.1)

pub known-exactly : (s : Port) (now interval : ℕ) (r : Record)
    → (known_of s now interval r ≡ true) ↔ ((live_of now interval r ≡ true) × (same_key_of r.announce.header.source s ≡ true))
unfolding known_of
known-exactly s now interval r = and-eq-true_iff _ _

-- a live record is in the table
pub known-inside : (s : Port) (now interval : ℕ) (l : List Record) (q : ℕ) → known_of s now interval (get_or l q fresh_record) ≡ true → q < length l
unfolding known_of live_of
known-inside s now interval l q k = by (ltb q (length l)) refl
  where
    by : (t : Bool) → ltb q (length l) ≡ t → q < length l
    by true e = ltb-true _ _ e
    by false e = absurd (false≢true (rw (get_or-eq_default l fresh_record (ltb-false _ _ e)) at k))

-- at no two places the live record of one sender
abbrev pub Keyed : ℕ → ℕ → List Record → Type 0
Keyed now interval l =
    (s : Port) (p q : ℕ) → known_of s now interval (get_or l p fresh_record) ≡ true → known_of s now interval (get_or l q fresh_record) ≡ true → p ≡ q

same-everywhere : (n place : ℕ) (r : Record) → get_or (replicate n r) place r ≡ r
same-everywhere zero place r = refl
same-everywhere (suc n) zero r = refl
same-everywhere (suc n) (suc place) r = same-everywhere n place r

-- the empty table is so, and what is so stays so as time goes on
pub keyed-fresh : (now interval : ℕ) → Keyed now interval fresh_table.records
unfolding known_of live_of
keyed-fresh now interval s p q h k = absurd (false≢true (rw (same-everywhere 5 p fresh_record) at h))

pub keyed-later : (earlier now interval : ℕ) (l : List Record) → earlier ≤ now → Keyed earlier interval l → Keyed now interval l
keyed-later earlier now interval l h keyed s p q a b = keyed s p q (was p a) (was q b)
  where
    was : (place : ℕ) → known_of s now interval (get_or l place fresh_record) ≡ true → known_of s earlier interval (get_or l place fresh_record) ≡ true
    was place e =
        let k = (known-exactly s now interval (get_or l place fresh_record)).0 e in
        (known-exactly s earlier interval (get_or l place fresh_record)).1 (live-before interval (get_or l place fresh_record) earlier now h k.0, k.1)

-- a record is put where no other place has its sender's live one
pub keyed-set : (now interval : ℕ) (l : List Record) (place : ℕ) (r : Record) → place < length l → Keyed now interval l
    → ((s : Port) (q : ℕ) → known_of s now interval r ≡ true → known_of s now interval (get_or l q fresh_record) ≡ true → q ≡ place)
    → Keyed now interval (set l place r)
keyed-set now interval l place r h keyed alone s p q a b = by (eqb p place) (eqb q place) refl refl
  where
    there : (x : ℕ) → x ≡ place → known_of s now interval (get_or (set l place r) x fresh_record) ≡ true → known_of s now interval r ≡ true
    there x e k = rw (e, get_or-set_same l place r fresh_record h) at k

    elsewhere : (x : ℕ) → (x ≡ place → ⊥) → known_of s now interval (get_or (set l place r) x fresh_record) ≡ true
        → known_of s now interval (get_or l x fresh_record) ≡ true
    elsewhere x n k = rw (get_or-set_other l place x r fresh_record n) at k

    by : (u v : Bool) → eqb p place ≡ u → eqb q place ≡ v → p ≡ q
    by true true e f = eqb-true p place e ∙ sym (eqb-true q place f)
    by true false e f =
        let i = eqb-true p place e in
        i ∙ sym (alone s q (there p i a) (elsewhere q (eqb-false q place f) b))
    by false true e f =
        let i = eqb-true q place f in
        alone s p (there q i b) (elsewhere p (eqb-false p place e) a) ∙ sym i
    by false false e f = keyed s p q (elsewhere p (eqb-false p place e) a) (elsewhere q (eqb-false q place f) b)
