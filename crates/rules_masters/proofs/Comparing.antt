-- In how far the comparison is an order.
use mathlib.Core.Path.{◌≡◌, refl, sym, ap, ◌∙◌}
use mathlib.Core.Bool.{Bool, true, false, cond}
use mathlib.Core.List.{List, [], ◌∷◌, ◌++◌}
use Prim.Native.Nat.{ℕ}
use native.Mathlib.Omega.{arith}
use lib.Dec.{ltb, eqb}
use lib.ListN.{length, get_or}
use borrow.Author.Tests.{eq-eqb, eqb-true, eqb-false}
use Rattle.rules_masters.specs.declared.record.Record.{Record}
use Rattle.rules_masters.specs.Records.{same_key_of}
use Rattle.rules_masters.specs.Comparison.{smaller, merits, nearness, better_of}
use Rattle.rules_masters.proofs.Smaller.{skip, differ, smaller-irreflexive, smaller-transitive, smaller-total}

-- what a record says of its grandmaster
abbrev pub quality : Record → List ℕ
quality r =
    let o = r.announce.offer in
    o.priority1 ∷ o.class ∷ o.accuracy ∷ o.variance ∷ o.priority2 ∷ []

-- where two records name one grandmaster, they say the same of its priorities and its quality
abbrev pub Agree : Record → Record → Type 0
Agree a b = a.announce.offer.grandmaster ≡ b.announce.offer.grandmaster → quality a ≡ quality b

-- among records that agree one list of numbers decides
abbrev pub rank : Record → List ℕ
rank r = merits r.announce.offer ++ nearness r.announce

same-front : (p xs ys : List ℕ) → smaller (p ++ xs) (p ++ ys) ≡ smaller xs ys
unfolding smaller
same-front [] xs ys = refl
same-front (x ∷ p) xs ys = rw (eq-eqb x x refl) (same-front p xs ys)

-- what follows two numbers that differ does not count
cut_off : (p q : List ℕ) (g h : ℕ) (xs ys : List ℕ) → length p ≡ length q → (g ≡ h → ⊥)
    → smaller (p ++ (g ∷ [])) (q ++ (h ∷ [])) ≡ smaller (p ++ (g ∷ xs)) (q ++ (h ∷ ys))
unfolding smaller
cut_off [] [] g h xs ys l n = sym (differ g h [] [] n) ∙ differ g h xs ys n
cut_off [] (y ∷ q) g h xs ys l n = absurd (omega arith)
cut_off (x ∷ p) [] g h xs ys l n = absurd (omega arith)
cut_off (x ∷ p) (y ∷ q) g h xs ys l n = ap (λ r. cond (eqb x y) r (ltb x y)) (cut_off p q g h xs ys (omega arith) n)

pub better-rank : (a b : Record) → Agree a b → better_of a b ≡ smaller (rank a) (rank b)
unfolding better_of
better-rank a b agree = by (eqb ga gb) refl
  where
    ga : ℕ
    ga = a.announce.offer.grandmaster

    gb : ℕ
    gb = b.announce.offer.grandmaster

    by : (t : Bool) → eqb ga gb ≡ t
        → cond t (smaller (nearness a.announce) (nearness b.announce)) (smaller (merits a.announce.offer) (merits b.announce.offer))
        ≡ smaller (rank a) (rank b)
    by true e =
        let same = eqb-true ga gb e in
        skip ga gb (nearness a.announce) (nearness b.announce) _ same refl
        ∙ sym (same-front (quality a) (ga ∷ nearness a.announce) (gb ∷ nearness b.announce))
        ∙ ap (λ q. smaller (quality a ++ (ga ∷ nearness a.announce)) (q ++ (gb ∷ nearness b.announce))) (agree same)
    by false e = cut_off (quality a) (quality b) ga gb (nearness a.announce) (nearness b.announce) refl (eqb-false ga gb e)

-- THEOREMS. The comparison is irreflexive; among records that agree it is transitive and total: where neither is better, they have one sender.
-- It is not transitive among those that do not agree: see Examples.

pub better-irreflexive : (a : Record) → better_of a a ≡ false
better-irreflexive a = better-rank a a (λ e. refl) ∙ smaller-irreflexive (rank a)

pub better-transitive : (a b c : Record) → Agree a b → Agree b c → Agree a c → better_of a b ≡ true → better_of b c ≡ true → better_of a c ≡ true
better-transitive a b c p q r h k =
    better-rank a c r ∙ smaller-transitive (rank a) (rank b) (rank c) (sym (better-rank a b p) ∙ h) (sym (better-rank b c q) ∙ k)

pub better-total : (a b : Record) → Agree a b → better_of a b ≡ false → better_of b a ≡ false
    → same_key_of a.announce.header.source b.announce.header.source ≡ true
unfolding same_key_of
better-total a b p h k =
    let e : rank a ≡ rank b = smaller-total (rank a) (rank b) refl (sym (better-rank a b p) ∙ h) (sym (better-rank b a (λ g. sym (p (sym g)))) ∙ k) in
    rw (eq-eqb _ _ (ap (λ l. get_or l 7 0) e), eq-eqb _ _ (ap (λ l. get_or l 8 0) e))
