-- What a record of the table tells of the Announces that were given its place.
use mathlib.Core.Path.{◌≡◌, refl}
use mathlib.Core.List.{List, [], ◌∷◌}
use mathlib.Core.Option.{Option, none, some}
use mathlib.Core.Bool.{Bool, true, false, cond, not, ◌&&◌}
use Prim.Native.Nat.{ℕ, ◌+◌, ◌*◌, ◌<◌, ◌≤◌}
use native.Mathlib.Omega.{arith}
use borrow.Author.Tests.{lt-leb, leb-false}
use lib.Dec.{leb}
use Rattle.wire_layout.specs.declared.message.Port.{Port}
use Rattle.rules_masters.specs.declared.record.Announce.{Announce}
use Rattle.rules_masters.specs.declared.record.Record.{Record}
use Rattle.rules_masters.specs.Records.{live_of, known_of, qualified_of, same_key_of, entered_of, renewed_of}
use Rattle.rules_masters.proofs.Placing.{absent}
use Rattle.story_lists.specs.Reading.{all, newest, first, with_it}
use Rattle.story_masters.specs.Announces.{Arrival, sender_of, is_live, is_home, two_good, from, a_qualified}

-- none of these came after n
abbrev pub NotAfter : ℕ → List Arrival → Type 0
NotAfter n [] = Unit
NotAfter n (a ∷ l) = (a.now ≤ n) × NotAfter n l

pub not-after-more : (n k : ℕ) (l : List Arrival) → n ≤ k → NotAfter n l → NotAfter k l
not-after-more n k [] h s = tt
not-after-more n k (a ∷ l) h s = (omega arith, not-after-more n k l h s.1)

-- nor did one that is found among them
pub found-not-after : (n : ℕ) (p : Port) (l : List Arrival) (b : Arrival) → NotAfter n l → newest (from p) l ≡ some b → b.now ≤ n
unfolding all
found-not-after n p [] b s e = absurd (let z : ◌≡◌ {A = ℕ} 0 1 = cc in omega arith)
found-not-after n p (a ∷ l) b s e = go (same_key_of (sender_of a.announce) p) (found-not-after n p l b s.1) e
  where
    go : (t : Bool) → (newest (from p) l ≡ some b → b.now ≤ n) → first (with_it (cond t (some a) none) (all (from p) l)) ≡ some b → b.now ≤ n
    go true ih f = let g : a.now ≡ b.now = cc in omega (arith, s.0)
    go false ih f = ih f

-- the second arrival b of the sender, a being the last: the record has it, or it lies so far back that it counts for nothing
pub data Second (interval : ℕ) (a b : Arrival) (r : Record) : Type 0 where
  both : r.held ≡ 2 → r.older ≡ b.now → Second interval a b r
  late : r.held ≡ 1 → b.now + 4 * interval < a.now → Second interval a b r

abbrev pub Older : ℕ → Arrival → Option Arrival → Record → Type 0
Older interval a none r = r.held ≡ 1
Older interval a (some b) r = Second interval a b r

pub record Sits (last interval : ℕ) (a : Arrival) (l : List Arrival) (r : Record) : Type 0 where
  pub announce : r.announce ≡ a.announce
  pub newer : r.newer ≡ a.now
  pub seen : a.now ≤ last
  pub sorted : NotAfter a.now l
  pub older : Older interval a (newest (from (sender_of a.announce)) l) r

abbrev pub Seat : ℕ → ℕ → List Arrival → Record → Type 0
Seat last interval [] r = r.held ≡ 0
Seat last interval (a ∷ l) r = Sits last interval a l r

pub seat-later : (last now interval : ℕ) (these : List Arrival) (r : Record) → last ≤ now → Seat last interval these r → Seat now interval these r
seat-later last now interval [] r h s = s
seat-later last now interval (a ∷ l) r h s =
    record { announce = s.announce; newer = s.newer; seen = let k = s.seen in omega arith; sorted = s.sorted; older = s.older }

module _ (last interval now : ℕ) where
  held-some : (a : Arrival) (o : Option Arrival) (r : Record) → Older interval a o r → leb 1 r.held ≡ true
  held-some a none r h = rw h
  held-some a (some b) r (both e f) = rw e
  held-some a (some b) r (late e f) = rw e

  -- ---- the tests read the same
  pub live_same : (these : List Arrival) (r : Record) → Seat last interval these r → live_of now interval r ≡ is_live now interval these
  unfolding live_of
  live_same [] r h = rw h
  live_same (a ∷ l) r h = rw (held-some a (newest (from (sender_of a.announce)) l) r h.older, h.newer)

  pub home_same : (p : Port) (these : List Arrival) (r : Record) → Seat last interval these r → known_of p now interval r ≡ is_home now interval p these
  unfolding known_of
  home_same p [] r h = rw (live_same [] r h)
  home_same p (a ∷ l) r h = rw (live_same (a ∷ l) r h, h.announce)

  pub absent-same : (these : List Arrival) (r : Record) → Seat last interval these r → absent now interval r ≡ not (is_live now interval these)
  unfolding absent
  absent-same these r h = rw (live_same these r h)

  pub qualified-same : last ≤ now → (these : List Arrival) (r : Record) → Seat last interval these r → a_qualified now interval these ≡ cond (qualified_of now interval r) (some r.announce) none
  unfolding qualified_of
  qualified-same k [] r h = rw h
  qualified-same k (a ∷ l) r h = go (newest (from (sender_of a.announce)) l) h.older
    where
      go : (o : Option Arrival) → Older interval a o r
          → cond (two_good now interval a o) (some a.announce) none
          ≡ cond (leb 2 r.held && leb now (r.older + 4 * interval) && leb now (r.newer + 3 * interval)) (some r.announce) none
      go none e = rw e
      go (some b) (both e f) = rw (e, f, h.newer, h.announce)
      go (some b) (late e f) = rw (e, lt-leb now (b.now + 4 * interval) (omega (arith, h.seen)))

  -- ---- an Announce is given the place
  module _ (m : Announce) (k : last ≤ now) where
    abbrev New : Arrival
    New = record { now = now; announce = m }

    pub renewed : (these : List Arrival) (r : Record) → Seat last interval these r → is_home now interval (sender_of m) these ≡ true → Seat now interval (New ∷ these) (renewed_of r m now)
    unfolding all
    renewed [] r h e = absurd (let z : ◌≡◌ {A = ℕ} 0 1 = cc in omega arith)
    renewed (a ∷ l) r h e =
        record {
          announce = refl;
          newer = refl;
          seen = omega arith;
          sorted = (omega (arith, h.seen), not-after-more a.now now l (omega (arith, h.seen)) h.sorted);
          older = rw (same (leb now (a.now + 4 * interval)) _ e) (both refl h.newer);
        }
      where
        same : (t u : Bool) → t && u ≡ true → u ≡ true
        same true u f = f
        same false u f = absurd (let z : ◌≡◌ {A = ℕ} 0 1 = cc in omega arith)

    pub entered : (these : List Arrival) (r : Record) → Seat last interval these r → not (is_live now interval these) ≡ true → Seat now interval (New ∷ these) (entered_of m now)
    unfolding all
    entered [] r h e = record { announce = refl; newer = refl; seen = omega arith; sorted = tt; older = refl }
    entered (a ∷ l) r h e =
        record {
          announce = refl;
          newer = refl;
          seen = omega arith;
          sorted = (omega (arith, h.seen), not-after-more a.now now l (omega (arith, h.seen)) h.sorted);
          older = go (newest (from (sender_of m)) (a ∷ l)) refl;
        }
      where
        dead : (t : Bool) → leb now (a.now + 4 * interval) ≡ t → not t ≡ true → a.now + 4 * interval < now
        dead true f g = absurd (let z : ◌≡◌ {A = ℕ} 0 1 = cc in omega arith)
        dead false f g = leb-false now (a.now + 4 * interval) f

        go : (o : Option Arrival) → newest (from (sender_of m)) (a ∷ l) ≡ o → Older interval New o (entered_of m now)
        go none f = refl
        go (some b) f =
            late refl (omega (arith, dead (leb now (a.now + 4 * interval)) refl e, found-not-after a.now (sender_of m) (a ∷ l) b (omega arith, h.sorted) f))
