-- The comparison of two masters (rules 5.9 and 5.10).
use Rattle.std.specs.Prelude.{ℕ, Bool, false, cond, List, [], ◌∷◌, ltb, eqb}
use Rattle.wire_layout.specs.declared.message.Offer.{Offer}
use Rattle.rules_masters.specs.declared.record.Announce.{Announce}
use Rattle.rules_masters.specs.declared.record.Record.{Record}

-- number by number: the first in which the two differ decides
unfoldable pub smaller : List ℕ → List ℕ → Bool
smaller [] ys = false
smaller (x ∷ xs) [] = false
smaller (x ∷ xs) (y ∷ ys) = cond (eqb x y) (smaller xs ys) (ltb x y)

-- by these, where they name different grandmasters
abbrev pub merits : Offer → List ℕ
merits o = o.priority1 ∷ o.class ∷ o.accuracy ∷ o.variance ∷ o.priority2 ∷ o.grandmaster ∷ []

-- by these, where they name the same
abbrev pub nearness : Announce → List ℕ
nearness m = m.offer.steps ∷ m.header.source.clock ∷ m.header.source.number ∷ []

-- a is better than b
unfoldable pub better_of : Record → Record → Bool
better_of a b =
    cond (eqb a.announce.offer.grandmaster b.announce.offer.grandmaster)
    (smaller (nearness a.announce) (nearness b.announce))
    (smaller (merits a.announce.offer) (merits b.announce.offer))
