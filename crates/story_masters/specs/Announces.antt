-- The log of the masters: every Announce accepted, with the place that it was given, and the nows of all other calls accepted. The newest comes first.
use Rattle.std.specs.Prelude.{List, [], ◌∷◌, Bool, false, cond, ◌&&◌, ℕ, ◌+◌, ◌*◌, leb, eqb}
use Rattle.std.proofs.Math.Option.{Option, none, some}
use Rattle.wire_layout.specs.declared.message.Port.{Port}
use Rattle.rules_masters.specs.declared.record.Announce.{Announce}
use Rattle.rules_masters.specs.Records.{same_key_of}
use Rattle.rules_masters.specs.Comparison.{smaller, merits, nearness}
use Rattle.story_lists.specs.Reading.{all, newest}

pub data Entry : Type 0 where
  came : (place now : ℕ) (m : Announce) → Entry
  passed : (now : ℕ) → Entry

abbrev pub Log : Type 0
Log = List Entry

-- the last accepted now, 0 before any (rules 1.8 and 10.12)
abbrev pub last_now : Log → ℕ
last_now [] = 0
last_now (came p now m ∷ l) = now
last_now (passed now ∷ l) = now

pub record Arrival : Type 0 where
  pub now : ℕ
  pub announce : Announce

abbrev pub sender_of : Announce → Port
sender_of m = m.header.source

-- ---- a place is read as the Announces that were given it
abbrev pub to_place : ℕ → Entry → Option Arrival
to_place q (came p now m) = cond (eqb p q) (some (record { now = now; announce = m })) none
to_place q (passed now) = none

abbrev pub arrivals_at : ℕ → Log → List Arrival
arrivals_at q l = all (to_place q) l

abbrev pub places : Log → List (List Arrival)
places l = arrivals_at 0 l ∷ arrivals_at 1 l ∷ arrivals_at 2 l ∷ arrivals_at 3 l ∷ arrivals_at 4 l ∷ []

module _ (now interval : ℕ) where
  -- live (rule 5.4)
  abbrev pub is_live : List Arrival → Bool
  is_live [] = false
  is_live (a ∷ l) = leb now (a.now + 4 * interval)

  -- that sender's, and live
  abbrev pub is_home : Port → List Arrival → Bool
  is_home sender [] = false
  is_home sender (a ∷ l) = leb now (a.now + 4 * interval) && same_key_of (sender_of a.announce) sender

  -- an arrival and the one before it, neither too long ago (rule 5.8)
  abbrev pub two_good : Arrival → Option Arrival → Bool
  two_good a none = false
  two_good a (some b) = leb now (b.now + 4 * interval) && leb now (a.now + 3 * interval)

-- an arrival of this sender
abbrev pub from : Port → Arrival → Option Arrival
from sender a = cond (same_key_of (sender_of a.announce) sender) (some a) none

-- the last Announce at a place, where it and the last one before it of the same sender make the place qualified
abbrev pub a_qualified : ℕ → ℕ → List Arrival → Option Announce
a_qualified now interval [] = none
a_qualified now interval (a ∷ l) = cond (two_good now interval a (newest (from (sender_of a.announce)) l)) (some a.announce) none

-- a is better than b (rules 5.9 and 5.10)
abbrev pub better_announce : Announce → Announce → Bool
better_announce a b = cond (eqb a.offer.grandmaster b.offer.grandmaster) (smaller (nearness a) (nearness b)) (smaller (merits a.offer) (merits b.offer))
