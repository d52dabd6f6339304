-- Laws of the spread of the offsets, as they are passed one by one.
use mathlib.Core.Path.{◌≡◌, refl, sym, ◌∙◌}
use mathlib.Core.Bool.{true, false}
use mathlib.Core.List.{List, [], ◌∷◌}
use Prim.Native.Nat.{ℕ, suc, ◌+◌, ◌*◌, ◌<◌, ◌≤◌}
use native.Mathlib.Numerals.{add-one}
use native.Mathlib.Omega.{arith}
use lib.IntN.{ℤ, pos, nat_abs, ◌+ℤ◌, ◌-ℤ◌, ◌*ℤ◌, +ℤ_assoc, +ℤ_idl, +ℤ_idr}
use lib.Signed.{lt_z}
use lib.ListN.{length, drop, drop_of_length-le}
use lib.Seq.{drop-cons}
use borrow.Author.Tests.{le-leb, lt-leb}
use Rattle.numbers.specs.Integers.{Within}
use Rattle.numbers.proofs.Integers.{within-mul}
use Rattle.numbers.proofs.Ring.{v, ◌⊕◌, within_by}
use Rattle.numbers.proofs.Signs.{abs-within}
use Rattle.rules_servo.specs.Shows.{sum, squares, near, is_tracking}
use Rattle.rules_servo.proofs.Elements.{at}

-- the first i offsets are passed: none beyond 99, and s and q are their sums
pub record Passed (l : List ℤ) (i : ℕ) (s q : ℤ) : Type 0 where
  pub small : Within (99 * i) s
  pub small_squares : Within (9801 * i) q
  pub all_sum : s +ℤ sum (drop i l) ≡ sum l
  pub all_squares : q +ℤ squares (drop i l) ≡ squares l
  pub all_near : near (drop i l) ≡ near l

pub passed_none : (l : List ℤ) → Passed l 0 (pos 0) (pos 0)
passed_none l = record { small = omega arith; small_squares = omega arith; all_sum = +ℤ_idl (sum l); all_squares = +ℤ_idl (squares l); all_near = refl }

module _ (l : List ℤ) (i : ℕ) (s q : ℤ) (h : i < length l) (p : Passed l i s q) where
  pub passed-next : nat_abs (at l i) ≤ 99 → Passed l (i + 1) (s +ℤ at l i) (q +ℤ at l i *ℤ at l i)
  unfolding sum squares near
  passed-next n =
      let w = abs-within {n = 99} (at l i) n in
      let u = within-mul w w in
      let d = drop-cons l i (pos 0) h in
      record {
        small = within_by _ (v 0 ⊕ v 1) (s ∷ (at l i ∷ [])) (omega arith);
        small_squares = within_by _ (v 0 ⊕ v 1) (q ∷ ((at l i *ℤ at l i) ∷ [])) (omega arith);
        all_sum = rw add-one (+ℤ_assoc s (at l i) (sum (drop (suc i) l)) ∙ (rw d at p.all_sum));
        all_squares = rw add-one (+ℤ_assoc q (at l i *ℤ at l i) (squares (drop (suc i) l)) ∙ (rw d at p.all_squares));
        all_near = rw add-one (rw (d, le-leb (nat_abs (at l i)) 99 n) at p.all_near);
      }

  -- one beyond 99
  pub passed-far : 99 < nat_abs (at l i) → length l ≡ 10 → false ≡ is_tracking l
  unfolding near is_tracking
  passed-far n e =
      let far : near l ≡ false = sym (rw (drop-cons l i (pos 0) h, lt-leb (nat_abs (at l i)) 99 n) at p.all_near) in
      rw (e, far)

-- all ten are passed
pub passed-all : (l : List ℤ) (i : ℕ) (s q : ℤ) → length l ≡ 10 → 10 ≤ i → Passed l i s q → lt_z (pos 10 *ℤ q -ℤ s *ℤ s) (pos 5000) ≡ is_tracking l
unfolding sum squares near is_tracking
passed-all l i s q e h p =
    let d : drop i l ≡ [] = drop_of_length-le l {i = i} (omega arith) in
    let all : s ≡ sum l = sym (+ℤ_idr s) ∙ (rw d at p.all_sum) in
    let both : q ≡ squares l = sym (+ℤ_idr q) ∙ (rw d at p.all_squares) in
    let none : near l ≡ true = sym (rw d at p.all_near) in
    rw (all, both, e, none)
