-- What writing answers, by the tests that led there, and what three stores leave.
use Rattle.std.specs.Prelude.{Ok, Err}
use mathlib.Core.Path.{◌≡◌, refl, ap, ◌∙◌}
use mathlib.Core.Bool.{Bool, true, false, cond}
use mathlib.Core.List.{List, ◌++◌}
use Prim.Native.Nat.{ℕ, ◌+◌, ◌<◌, ◌≤◌, ◌^◌}
use native.Mathlib.Omega.{arith}
use lib.ListN.{length, drop, length-append}
use borrow.Author.Tests.{lt-ltb, le-ltb, ltb-true}
use Rattle.numbers.specs.Grounds.{first_of}
use Rattle.numbers.specs.Stamps.{sound_of}
use Rattle.numbers.proofs.Moments.{sound-is}
use Rattle.wire_octets.specs.Octets.{put}
use Rattle.wire_octets.proofs.Digits.{put-put}
use Rattle.wire_layout.specs.declared.message.Header.{Header}
use Rattle.numbers.specs.declared.stamp.Stamp.{Stamp}
use Rattle.wire_layout.specs.declared.message.Message.{Message}
use Rattle.numbers.specs.declared.refusal.Refusal.TheVariants.{Length, Field, Suffix, Room}
use Rattle.wire_layout.specs.Kinds.{kind_of, body_size, stamp_in}
use Rattle.wire_layout.specs.Suffix.{whole_of}
use Rattle.wire_layout.specs.Writing.{front_octets, port_octets, back_octets, header_octets, body_octets, octets_of, fields_fit, write_of}
use Rattle.wire_layout.proofs.Sizes.{front_length, port-length, back-length, header-length, body-length}

pub record Fit (h : Header) (t : Stamp) : Type 0 where
  pub sdo : h.sdo < 16
  pub minor : h.minor < 16
  pub sound : sound_of t ≡ true
  pub seconds : t.seconds < 2 ^ 48
  pub nanoseconds : t.nanoseconds < 1_000_000_000

guard : (b : Bool) {x : Bool} → cond b x false ≡ true → (b ≡ true) × (x ≡ true)
guard true e = (refl, e)
guard false e = absurd (let z : ◌≡◌ {A = ℕ} 0 1 = cc in omega arith)

pub fit : (h : Header) (t : Stamp) → fields_fit h t ≡ true → Fit h t
unfolding fields_fit
fit h t e =
    let a = guard _ e in
    let b = guard _ a.1 in
    let s = sound-is t b.1 in
    record {
      sdo = ltb-true h.sdo 16 a.0;
      minor = ltb-true h.minor 16 b.0;
      sound = b.1;
      seconds = s.seconds;
      nanoseconds = s.nanoseconds;
    }

module _ (m : Message) (t : List ℕ) (room : ℕ) where
  pub w-field : fields_fit m.header (stamp_in m.body) ≡ false → write_of m t room ≡ Err Field
  unfolding write_of first_of
  w-field f = simp f

  module _ (f : fields_fit m.header (stamp_in m.body) ≡ true) where
    pub w-suffix : whole_of t ≡ false → write_of m t room ≡ Err Suffix
    unfolding write_of first_of
    w-suffix w = simp (f, w)

    module _ (w : whole_of t ≡ true) where
      pub w-length : 65_535 < body_size m.body + length t → write_of m t room ≡ Err Length
      unfolding write_of first_of
      w-length h = simp (f, w, lt-ltb 65_535 (body_size m.body + length t) h)

      module _ (l : body_size m.body + length t ≤ 65_535) where
        pub w-room : room < body_size m.body + length t → write_of m t room ≡ Err Room
        unfolding write_of first_of
        w-room h = simp (f, w, le-ltb 65_535 (body_size m.body + length t) l, lt-ltb room (body_size m.body + length t) h)

        pub w-wrote : body_size m.body + length t ≤ room → write_of m t room ≡ Ok (body_size m.body + length t)
        unfolding write_of first_of
        w-wrote h = simp (f, w, le-ltb 65_535 (body_size m.body + length t) l, le-ltb room (body_size m.body + length t) h)

-- the header's three parts
pub header-stored : (d : List ℕ) (h : Header) (k n : ℕ) → 34 ≤ length d
    → put (put (put d 0 (front_octets h k n)) 20 (port_octets h.source)) 30 (back_octets h) ≡ put d 0 (header_octets h k n)
header-stored d h k n l =
    let F = front_octets h k n in
    let P = port_octets h.source in
    let B = back_octets h in
    let a = front_length h k n in
    let b = port-length h.source in
    let m : length (F ++ P) ≡ 30 = rw length-append (omega (arith, a, b)) in
    ap (λ (x : List ℕ). put x 30 B) (put-put d 0 F P 20 (omega (arith, a)) (omega (arith, b, l)))
    ∙ put-put d 0 (F ++ P) B 30 (omega (arith, m)) (omega (arith, l, back-length h))

pub stored : (m : Message) (n : ℕ) (t d : List ℕ) → body_size m.body + length t ≤ length d
    → put (put (put d 0 (header_octets m.header (kind_of m.body) n)) 34 (body_octets m.body)) (body_size m.body) t
    ≡ octets_of m n ++ t ++ drop (body_size m.body + length t) d
stored m n t d h =
    let H = header_octets m.header (kind_of m.body) n in
    let B = body_octets m.body in
    let a = header-length m.header (kind_of m.body) n in
    let b = body-length m.body in
    let k : length (H ++ B) ≡ body_size m.body = rw length-append (omega (arith, a, b)) in
    let l : 0 + length ((H ++ B) ++ t) ≡ body_size m.body + length t = rw (length-append (H ++ B) t) (omega (arith, k)) in
    rw (put-put d 0 H B 34 (omega (arith, a)) (omega (arith, b)), put-put d 0 (H ++ B) t (body_size m.body) (omega (arith, k)) h, l)
