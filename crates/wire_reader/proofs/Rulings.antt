-- The ruling of reading and what is read: each tells the other, and a clear one that all octets of the message are there.
use Rattle.std.specs.Prelude.{Ok, Err}
use mathlib.Core.Path.{◌≡◌, refl}
use mathlib.Core.Bool.{Bool, true, false, cond}
use mathlib.Core.List.{List}
use Prim.Native.Nat.{ℕ}
use native.Mathlib.Omega.{arith}
use lib.Dec.{eqb}
use Rattle.numbers.specs.declared.refusal.Refusal.{Refusal}
use Rattle.numbers.specs.Grounds.{Ruling}
use Rattle.numbers.specs.Grounds.{first_of, answer_by}
use Rattle.numbers.specs.declared.stamp.Stamp.{Stamp}
use Rattle.wire_layout.specs.declared.message.Body.TheVariants.{Sync, DelayReq, FollowUp, DelayResp, Announce}
use Rattle.wire_layout.specs.declared.message.Message.{Message}
use Rattle.wire_layout.specs.declared.message.Part.{Part}
use Rattle.wire_layout.specs.Kinds.{stamp_in}
use Rattle.wire_layout.specs.Positions.{port_at, stamp_at, offer_of, body_of, message_of}
use Rattle.wire_layout.specs.Reading.{reading_grounds, suffix_at, read_of, Read}
use Rattle.wire_layout.proofs.Trips.{Taken, taken}

-- every kind has its timestamp at the same octets
pub stamp-is : (k : ℕ) (s : List ℕ) → stamp_in (body_of k s) ≡ stamp_at 34 s
unfolding body_of
stamp-is k s = by (eqb k 0) (eqb k 1) (eqb k 8) (eqb k 9)
  where
    t : Stamp
    t = stamp_at 34 s

    by : (a b c d : Bool)
        → stamp_in (cond a (Sync t) (cond b (DelayReq t) (cond c (FollowUp t) (cond d (DelayResp t (port_at 44 s)) (Announce t (offer_of s)))))) ≡ t
    by true b c d = refl
    by false true c d = refl
    by false false true d = refl
    by false false false true = refl
    by false false false false = refl

-- of a ruling: what is answered by it tells it
barred-by : (m : Message) (p : Part) (r : Refusal) (v : Ruling) → answer_by {A = Read} Err (Ok (m, p)) v ≡ Err r → v ≡ Err r
barred-by m p r (Ok _) e = let z : ◌≡◌ {A = ℕ} 0 1 = cc in absurd (omega arith)
barred-by m p r (Err q) e = cc

clear-by : (m n : Message) (p q : Part) (v : Ruling) → answer_by {A = Read} Err (Ok (m, p)) v ≡ Ok (n, q) → v ≡ Ok tt
clear-by m n p q (Ok _) e = refl
clear-by m n p q (Err r) e = let z : ◌≡◌ {A = ℕ} 0 1 = cc in absurd (omega arith)

module _ (s : List ℕ) where
  pub is-barred : {r : Refusal} → read_of s ≡ Err r → first_of (reading_grounds s) ≡ Err r
  unfolding read_of
  is-barred {r} e = barred-by (message_of s) (suffix_at s) r (first_of (reading_grounds s)) e

  pub is-clear : {m : Message} {p : Part} → read_of s ≡ Ok (m, p) → first_of (reading_grounds s) ≡ Ok tt
  unfolding read_of
  is-clear {m} {p} e = clear-by (message_of s) m (suffix_at s) p (first_of (reading_grounds s)) e

  -- and back
  pub is-refused : {r : Refusal} → first_of (reading_grounds s) ≡ Err r → read_of s ≡ Err r
  unfolding read_of
  is-refused e = rw e

  pub is-got : first_of (reading_grounds s) ≡ Ok tt → read_of s ≡ Ok (message_of s, suffix_at s)
  unfolding read_of
  is-got e = rw e

  pub opened : first_of (reading_grounds s) ≡ Ok tt → Taken s
  opened e = taken s (message_of s) (suffix_at s) (is-got e)
