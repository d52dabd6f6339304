-- What was written is read and what was read is written, for numbers of any width; and stores behind stores.
use mathlib.Core.Path.{◌≡◌, refl, ap, sym, ◌∙◌}
use mathlib.Core.List.{List, [], ◌∷◌, ◌++◌, append_assoc}
use Prim.Native.Nat.{ℕ, zero, suc, ◌+◌, ◌*◌, ◌/◌, ◌%◌, ◌^◌, ◌<◌, ◌≤◌}
use native.Mathlib.Nat.{add-zero, add-suc, add_assoc, mul_assoc, pow-succ', div-one, div-div-eq-div-mul, zero-add, mul_comm}
use native.Mathlib.Omega.{arith}
use lib.ListN.{length, get_or, take, drop, length-append, length-drop}
use lib.Seq.{get_or_at, drop-cons, take_at, drop-drop, drop-append-add, length-take-le}
use Rattle.std.proofs.Common.{rules}
use Rattle.std.specs.Int.{w16, w32, w64, from_be_bytes, to_be_bytes}
use Rattle.wire_octets.specs.Octets.{num, part, shift, big_endian, put}

-- each element is an octet
abbrev pub Octets : List ℕ → Type 0
Octets s = (i : ℕ) → get_or s i 0 < 256

pub length_digits : (k x : ℕ) → length (big_endian k x) ≡ k
unfolding big_endian
length_digits zero x = refl
length_digits (suc k) x = ap suc (length_digits k x)

pub num-below : (k at : ℕ) (s : List ℕ) → Octets s → num k at s < 256 ^ k
unfolding num
num-below zero at s o = omega arith
num-below (suc k) at s o = rw pow-succ' (omega (arith, num-below k at s o, o (at + k)))

pub num-split : (j k at : ℕ) (s : List ℕ) → num (j + k) at s ≡ num j at s * 256 ^ k + num k (at + j) s
unfolding num
num-split j zero at s = rw add-zero (omega arith)
num-split j (suc k) at s =
    rw (add-suc, pow-succ', add_assoc)
    (omega (arith, num-split j k at s, mul_assoc (num j at s) 256 (256 ^ k), mul_assoc 256 (num j at s) (256 ^ k), mul_comm (num j at s) 256))

shift_div : (k x : ℕ) → shift k x ≡ x / 256 ^ k
shift_div zero x = sym (div-one x)
shift_div (suc k) x = refl

digits-snoc : (k n b : ℕ) → b < 256 → big_endian (suc k) (n * 256 + b) ≡ big_endian k n ++ (b ∷ [])
unfolding big_endian
digits-snoc zero n b h = let e : (n * 256 + b) % 256 ≡ b = omega arith in rw e
digits-snoc (suc k) n b h =
    let e : (n * 256 + b) / 256 ≡ n = omega arith in
    let f : (n * 256 + b) / 256 ^ suc k ≡ n / 256 ^ k = rw (pow-succ', ← div-div-eq-div-mul, e) in
    rw (f, digits-snoc k n b h, ← shift_div)

digits_step : (k x : ℕ) → big_endian (suc k) x ≡ big_endian k (x / 256) ++ (x % 256 ∷ [])
digits_step k x = let e : x ≡ x / 256 * 256 + x % 256 = omega arith in ap (big_endian (suc k)) e ∙ digits-snoc k (x / 256) (x % 256) (omega arith)

-- what was written is read: the number in the octets of x is x
pub num-digits : (k x : ℕ) (t : List ℕ) → x < 256 ^ k → num k 0 (big_endian k x ++ t) ≡ x
unfolding num
num-digits zero x t h = omega arith
num-digits (suc k) x t h =
    let h' : x < 256 * 256 ^ k = rw pow-succ' at h in
    let e : big_endian (suc k) x ++ t ≡ big_endian k (x / 256) ++ (x % 256 ∷ t) = rw (digits_step, append_assoc) in
    let d : get_or (big_endian k (x / 256) ++ (x % 256 ∷ t)) (0 + k) 0 ≡ x % 256 =
    rw zero-add (get_or_at (big_endian k (x / 256)) (x % 256) t 0 k (length_digits k (x / 256))) in
    rw (e, d, num-digits k (x / 256) (x % 256 ∷ t) (omega arith)) (omega arith)

part-snoc : (k at : ℕ) (s : List ℕ) → part (suc k) at s ≡ part k at s ++ (get_or s (at + k) 0 ∷ [])
unfolding part
part-snoc zero at s = rw add-zero
part-snoc (suc k) at s =
    let e : at + suc k ≡ suc at + k = omega arith in
    rw e (ap (λ (l : List ℕ). get_or s at 0 ∷ l) (part-snoc k (suc at) s))

-- what was read is written: the octets of the number are those that were there
pub digits-num : (k at : ℕ) (s : List ℕ) → Octets s → big_endian k (num k at s) ≡ part k at s
unfolding num big_endian part
digits-num zero at s o = refl
digits-num (suc k) at s o =
    digits-snoc k (num k at s) (get_or s (at + k) 0) (o (at + k)) ∙ rw (digits-num k at s o, ← part-snoc)

pub take_part : (k at : ℕ) (s : List ℕ) → at + k ≤ length s → take k (drop at s) ≡ part k at s
unfolding part
take_part zero at s h = refl
take_part (suc k) at s h =
    let e : drop at s ≡ get_or s at 0 ∷ drop (suc at) s = drop-cons s at 0 (omega arith) in
    rw e (ap (λ (l : List ℕ). get_or s at 0 ∷ l) (take_part k (suc at) s (omega arith)))

pub length-put : (d : List ℕ) (at : ℕ) (a : List ℕ) → at + length a ≤ length d → length (put d at a) ≡ length d
length-put d at a h = simp (length-append, length-drop, length-take-le at d (omega arith)) (omega arith)

-- a store behind a store is one store
pub put-put : (d : List ℕ) (at : ℕ) (a b : List ℕ) (n : ℕ) → n ≡ at + length a → n + length b ≤ length d → put (put d at a) n b ≡ put d at (a ++ b)
put-put d at a b n e h =
    let l : length (take at d ++ a) ≡ n = simp (length-append, length-take-le at d (omega arith)) (omega arith) in
    let x : put d at a ≡ (take at d ++ a) ++ drop n d = rw e in
    let y : drop (n + length b) ((take at d ++ a) ++ drop n d) ≡ drop (n + length b) d =
    rw (← l) (drop-append-add (take at d ++ a) (drop (length (take at d ++ a)) d) (length b) ∙ drop-drop (length b) (length (take at d ++ a)) d) in
    let z : at + length (a ++ b) ≡ n + length b = rw length-append (omega arith) in
    rw (x, take_at (take at d ++ a) (drop n d) n l, y, z) (simp append_assoc)

-- what std reads is the number, and what it writes are the number's octets
pub read-2 : (at : ℕ) (s : List ℕ) → from_be_bytes w16 (part 2 at s) ≡ num 2 at s
unfolding num part
read-2 at s = search rules

pub read-4 : (at : ℕ) (s : List ℕ) → from_be_bytes w32 (part 4 at s) ≡ num 4 at s
unfolding num part
read-4 at s = search rules

pub read-8 : (at : ℕ) (s : List ℕ) → from_be_bytes w64 (part 8 at s) ≡ num 8 at s
unfolding num part
read-8 at s = search rules

pub written-2 : (x : ℕ) → to_be_bytes w16 x ≡ big_endian 2 x
unfolding big_endian
written-2 x = refl

pub written-4 : (x : ℕ) → to_be_bytes w32 x ≡ big_endian 4 x
unfolding big_endian
written-4 x = refl

pub written-8 : (x : ℕ) → to_be_bytes w64 x ≡ big_endian 8 x
unfolding big_endian
written-8 x = refl
