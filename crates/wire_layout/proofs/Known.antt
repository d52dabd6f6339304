-- The kinds of the table: a kind that has a fixed length is one of them.
use mathlib.Core.Path.{◌≡◌, refl}
use mathlib.Core.Bool.{Bool, true, false}
use Prim.Native.Nat.{ℕ, ◌≤◌, ◌<◌}
use native.Mathlib.Omega.{arith}
use lib.Dec.{eqb, lit≤}
use borrow.Author.Tests.{eqb-true}
use Rattle.wire_layout.specs.Kinds.{fixed_length_of}

-- the kinds of the table
pub data Known : ℕ → Type 0 where
  k-sync : Known 0
  k-delay-req : Known 1
  k-follow-up : Known 8
  k-delay-resp : Known 9
  k-announce : Known 11

-- by what a test tells
pub choose : {P : Type 0} (b : Bool) → (b ≡ true → P) → (b ≡ false → P) → P
choose true f g = f refl
choose false f g = g refl

at-kind : (k n : ℕ) → Known n → eqb k n ≡ true → Known k
at-kind k n h e = rw (eqb-true k n e) h

pub known : (k : ℕ) → (fixed_length_of k ≡ 0 → ⊥) → Known k
unfolding fixed_length_of
known k h =
    choose (eqb k 0) (at-kind k 0 k-sync) (λ e0.
    choose (eqb k 1) (at-kind k 1 k-delay-req) (λ e1.
    choose (eqb k 8) (at-kind k 8 k-follow-up) (λ e8.
    choose (eqb k 9) (at-kind k 9 k-delay-resp) (λ e9.
    choose (eqb k 11) (at-kind k 11 k-announce) (λ e11. absurd (h (simp (e0, e1, e8, e9, e11))))))))

pub known-fixed : {k : ℕ} → 0 < fixed_length_of k → Known k
known-fixed {k} h = known k (λ z. omega (arith, h, z))

pub room-44 : {k : ℕ} → Known k → 44 ≤ fixed_length_of k
unfolding fixed_length_of
room-44 k-sync = lit≤ tt
room-44 k-delay-req = lit≤ tt
room-44 k-follow-up = lit≤ tt
room-44 k-delay-resp = lit≤ tt
room-44 k-announce = lit≤ tt

-- the last kind of the table, where it is none of the others
pub last-kind : {k : ℕ} → Known k → (k ≡ 0 → ⊥) → (k ≡ 1 → ⊥) → (k ≡ 8 → ⊥) → (k ≡ 9 → ⊥) → k ≡ 11
last-kind k-sync a b c d = absurd (a refl)
last-kind k-delay-req a b c d = absurd (b refl)
last-kind k-follow-up a b c d = absurd (c refl)
last-kind k-delay-resp a b c d = absurd (d refl)
last-kind k-announce a b c d = refl
