-- `barred` meets its contract: the timestamp of any kind is the one at octet 34, and the suffix lies behind the fixed part.
use mathlib.Core.Path.{◌≡◌, sym, ap, ◌∙◌}
use mathlib.Core.Bool.{Bool}
use mathlib.Core.List.{List}
use Prim.Native.Nat.{ℕ, ◌≤◌}
use native.Mathlib.Omega.{arith}
use lib.ListN.{length}
use Rattle.numbers.specs.declared.stamp.Stamp.{Stamp}
use Rattle.numbers.specs.Stamps.{sound_of}
use Rattle.wire_layout.specs.Kinds.{fixed_length_of}
use Rattle.wire_layout.specs.Positions.{kind_in, version_in, length_in, stamp_at}
use Rattle.wire_layout.proofs.Known.{known, room-44}
use Rattle.wire_layout.proofs.Cases.{Sized, stamp_of, r_field, r-whole}
use Rattle.wire_reader.proofs.Rulings.{stamp-is, is-barred, is-clear}
use Rattle.wire_reader.proofs.barred.Goals as goal

-- what the first five tests tell
passed : (s : List ℕ) {f l : ℕ} → f ≡ fixed_length_of (kind_in s) → l ≡ length_in s
    → 34 ≤ length s → version_in s ≡ 2 → (f ≡ 0 → ⊥) → f ≤ l → l ≤ length s → Sized s
passed s e d a b k h g =
    record { head = record { head = a; version = b; kind = λ z. k (e ∙ z) }; fixed = omega (arith, e, d, h); all = omega (arith, d, g) }

-- whether the timestamp of any kind is sound, by the one at octet 34
sounds : (s : List ℕ) {t : Stamp} {b : Bool} → t ≡ stamp_at 34 s → sound_of t ≡ b → sound_of (stamp_of s) ≡ b
sounds s e h = ap sound_of (stamp-is (kind_in s) s ∙ sym e) ∙ h

pub stamp_at-requires : goal.stamp_at-requires
stamp_at-requires c =
    let f = c.fixed_length-fixed.ensures in
    omega (arith, room-44 (known (kind_in c.args.s.now) (λ z. omega (arith, f, z))), f)

pub returns-then-not-sound : goal.returns-then-not-sound
returns-then-not-sound c =
    let s = c.args.s.now in
    let f = c.fixed_length-fixed.ensures in
    let l = c.from-length.ensures ∙ c.length_in.ensures in
    let z = passed s f l c.if-s-lt34.false c.if-s-ne2.false c.if-fixed-eq0.false c.if-length-fixed.false c.if-s-length.false in
    sym (is-barred s (r_field s z (sounds s c.stamp_at.ensures (sym c.sound.ensures ∙ c.if-not-sound.true))))

pub returns-then-not-whole : goal.returns-then-not-whole
returns-then-not-whole c =
    let s = c.args.s.now in
    let f = c.fixed_length-fixed.ensures in
    let l = c.from-length.ensures ∙ c.length_in.ensures in
    let z = passed s f l c.if-s-lt34.false c.if-s-ne2.false c.if-fixed-eq0.false c.if-length-fixed.false c.if-s-length.false in
    let w = rw (f, l) at (sym c.whole.ensures ∙ c.if-not-whole.true) in
    sym (is-barred s (rw w at (r-whole s z (sounds s c.stamp_at.ensures (sym c.sound.ensures ∙ c.if-not-sound.false)))))

pub returns : goal.returns
returns c =
    let s = c.args.s.now in
    let f = c.fixed_length-fixed.ensures in
    let l = c.from-length.ensures ∙ c.length_in.ensures in
    let z = passed s f l c.if-s-lt34.false c.if-s-ne2.false c.if-fixed-eq0.false c.if-length-fixed.false c.if-s-length.false in
    let w = rw (f, l) at (sym c.whole.ensures ∙ c.if-not-whole.false) in
    sym (is-clear s (rw w at (r-whole s z (sounds s c.stamp_at.ensures (sym c.sound.ensures ∙ c.if-not-sound.false)))))
