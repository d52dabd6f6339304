-- What reading answers, by the tests that led there, in their order.
use Rattle.std.specs.Prelude.{Ok, Err}
use mathlib.Core.Path.{◌≡◌, refl, ◌∙◌}
use mathlib.Core.Bool.{Bool, true, false, not, cond}
use mathlib.Core.List.{List, [], ◌∷◌}
use Prim.Native.Nat.{ℕ, ◌<◌, ◌≤◌}
use lib.ListN.{length}
use borrow.Author.Tests.{lt-ltb, le-ltb, eq-eqb, ne_eqb}
use Rattle.numbers.specs.declared.refusal.Refusal.TheVariants.{Short, Version, Kind, Length, Field, Suffix}
use Rattle.numbers.specs.declared.stamp.Stamp.{Stamp}
use Rattle.numbers.specs.Grounds.{gives, first_of, answer_by}
use Rattle.numbers.specs.Stamps.{sound_of}
use Rattle.wire_layout.specs.Kinds.{fixed_length_of, stamp_in}
use Rattle.wire_layout.specs.Positions.{kind_in, version_in, length_in, body_of, message_of}
use Rattle.wire_layout.specs.Suffix.{whole_of}
use Rattle.wire_layout.specs.Reading.{read_of, suffix_at, suffix_in}
use Rattle.wire_layout.specs.declared.message.Part.{Part}
use Rattle.wire_layout.specs.declared.message.Message.{Message}

-- the timestamp that is read
abbrev pub stamp_of : List ℕ → Stamp
stamp_of s = stamp_in (body_of (kind_in s) s)

-- what is known of octets that passed the first three tests, and the next two
pub record Head (s : List ℕ) : Type 0 where
  pub head : 34 ≤ length s
  pub version : version_in s ≡ 2
  pub kind : fixed_length_of (kind_in s) ≡ 0 → ⊥

pub record Sized (s : List ℕ) : Type 0 where
  pub head : Head s
  pub fixed : fixed_length_of (kind_in s) ≤ length_in s
  pub all : length_in s ≤ length s

module _ (s : List ℕ) where
  pub r-short : length s < 34 → read_of s ≡ Err Short
  unfolding read_of first_of
  r-short h = simp (lt-ltb (length s) 34 h)

  pub r-version : 34 ≤ length s → (version_in s ≡ 2 → ⊥) → read_of s ≡ Err Version
  unfolding read_of first_of
  r-version a h = simp (le-ltb (length s) 34 a, ne_eqb (version_in s) 2 h)

  pub r-kind : 34 ≤ length s → version_in s ≡ 2 → fixed_length_of (kind_in s) ≡ 0 → read_of s ≡ Err Kind
  unfolding read_of first_of
  r-kind a b h = simp (le-ltb (length s) 34 a, eq-eqb (version_in s) 2 b, eq-eqb (fixed_length_of (kind_in s)) 0 h)

  module _ (p : Head s) where
    pub r-length : length_in s < fixed_length_of (kind_in s) → read_of s ≡ Err Length
    unfolding read_of first_of
    r-length h =
        simp (le-ltb (length s) 34 p.head, eq-eqb (version_in s) 2 p.version, ne_eqb (fixed_length_of (kind_in s)) 0 p.kind, lt-ltb (length_in s) (fixed_length_of (kind_in s)) h)

    pub r-cut : fixed_length_of (kind_in s) ≤ length_in s → length s < length_in s → read_of s ≡ Err Short
    unfolding read_of first_of
    r-cut e h =
        simp (
          le-ltb (length s) 34 p.head,
          eq-eqb (version_in s) 2 p.version,
          ne_eqb (fixed_length_of (kind_in s)) 0 p.kind,
          le-ltb (length_in s) (fixed_length_of (kind_in s)) e,
          lt-ltb (length s) (length_in s) h,
        )

  module _ (p : Sized s) where
    r-sized : read_of s
        ≡ answer_by Err (Ok (message_of s, suffix_at s))
        (first_of (gives Field (not (sound_of (stamp_of s))) ∷ gives Suffix (not (whole_of (suffix_in s))) ∷ []))
    unfolding read_of first_of
    r-sized =
        simp (
          le-ltb (length s) 34 p.head.head,
          eq-eqb (version_in s) 2 p.head.version,
          ne_eqb (fixed_length_of (kind_in s)) 0 p.head.kind,
          le-ltb (length_in s) (fixed_length_of (kind_in s)) p.fixed,
          le-ltb (length s) (length_in s) p.all,
        )

    pub r_field : sound_of (stamp_of s) ≡ false → read_of s ≡ Err Field
    unfolding first_of
    r_field f = r-sized ∙ simp f

    pub r-whole : sound_of (stamp_of s) ≡ true → read_of s ≡ cond (whole_of (suffix_in s)) (Ok (message_of s, suffix_at s)) (Err Suffix)
    unfolding first_of
    r-whole f = r-sized ∙ simp f (by (message_of s, suffix_at s) (whole_of (suffix_in s)))
      where
        by : (x : Message × Part) (b : Bool) → answer_by Err (Ok x) (cond (not b) (Err Suffix) (Ok tt)) ≡ cond b (Ok x) (Err Suffix)
        by x true = refl
        by x false = refl
