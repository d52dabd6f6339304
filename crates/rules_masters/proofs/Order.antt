-- Table order: the records at the five places, one after the other, are the table.
use mathlib.Core.Path.{◌≡◌, refl, sym, ap}
use mathlib.Core.List.Memᴰ
use mathlib.Core.List.{List, [], ◌∷◌, map, Memᴰ}
use mathlib.Core.Logic.{⊎_elim}
use Prim.Native.Nat.{ℕ, zero, suc, ◌+◌, ◌<◌, ◌≤◌}
use native.Mathlib.Nat.{eq-or-lt_of_le}
use native.Mathlib.Omega.{arith}
use lib.ListN.{length, get_or, drop, drop_of_length-le}
use lib.Seq.{drop-cons}
use Rattle.rules_masters.specs.declared.record.Record.{Record}
use Rattle.rules_masters.specs.Records.{fresh_record}
use Rattle.rules_masters.specs.Choosing.{order, in_order}

-- n places from `place` on
unfoldable upwards : ℕ → ℕ → List ℕ
upwards place zero = []
upwards place (suc n) = place ∷ upwards (suc place) n

standing : (t : List Record) (place n : ℕ) → place + n ≡ length t → map (λ at. get_or t at fresh_record) (upwards place n) ≡ drop place t
unfolding upwards
standing t place zero e =
    let h : length t ≤ place = omega arith in
    sym (drop_of_length-le t h)
standing t place (suc n) e =
    rw (drop-cons t place fresh_record (omega arith)) (ap (λ l. get_or t place fresh_record ∷ l) (standing t (suc place) n (omega arith)))

pub in-order : (t : List Record) → length t ≡ 5 → in_order t ≡ t
unfolding upwards
in-order t e = standing t 0 5 (sym e)

below : (from n place : ℕ) → Memᴰ place (upwards from n) → place < from + n
unfolding upwards
below from zero place m = absurd (elim m [ ])
below from (suc n) place m =
    ⊎_elim (λ e. omega arith) (λ j. let h = below (suc from) n place j in omega arith) (Memᴰ.cases_cons m)

module _ {A : Type 0} (f : ℕ → A) where
  map-in : (l : List ℕ) (x : A) → Memᴰ x (map f l) → (place : ℕ) × Memᴰ place l × (x ≡ f place)
  map-in [] x m = absurd (elim m [ ])
  map-in (p ∷ l) x m =
      ⊎_elim (λ e. (p, Memᴰ.head refl, e)) (λ j. let k = map-in l x j in (k.0, Memᴰ.tail k.1, k.2)) (Memᴰ.cases_cons m)

  map-has : (from n place : ℕ) → from ≤ place → place < from + n → Memᴰ (f place) (map f (upwards from n))
  unfolding upwards
  map-has from zero place h k = absurd (omega arith)
  map-has from (suc n) place h k =
      ⊎_elim (λ e. Memᴰ.head (ap f (sym e))) (λ j. Memᴰ.tail (map-has (suc from) n place j (omega arith))) (eq-or-lt_of_le h)

-- a record in table order is at one of the five places
pub record At (t : List Record) (r : Record) : Type 0 where
  pub place : ℕ
  pub inside : place < 5
  pub stands : r ≡ get_or t place fresh_record

pub stands_at : (t : List Record) (r : Record) → Memᴰ r (in_order t) → At t r
unfolding upwards
stands_at t r m =
    let s = map-in (λ place. get_or t place fresh_record) order r m in
    record { place = s.0; inside = below 0 5 s.0 s.1; stands = s.2 }

-- and what is there is in it
pub at-stands : (t : List Record) (place : ℕ) → place < 5 → Memᴰ (get_or t place fresh_record) (in_order t)
unfolding upwards
at-stands t place h = map-has (λ at. get_or t at fresh_record) 0 5 place (omega arith) h
