-- Five records, each looked at once, and five candidates, met one by one.
use Rattle.std.specs.Prelude.{Option, None, eqb}
use Rattle.std.proofs.Common.{slice_index_or, arith}
use mathlib.Core.Path.{◌≡◌, refl, sym, ap}
use mathlib.Core.Bool.{cond}
use mathlib.Core.List.{List, [], ◌∷◌, map}
use Prim.Native.Nat.{ℕ, zero, suc, ◌<◌}
use lib.ListN.{length, set}
use Rattle.wire_layout.specs.declared.message.Header.{Header}
use Rattle.rules_masters.specs.declared.candidate.Candidate.{Candidate}
use Rattle.rules_masters.specs.Admitting.{standing_of}
use Rattle.rules_masters.specs.Inner.{kept_of, last_in, best_of}
use Rattle.rules_masters.proofs.Candidates.{last-best}
use Rattle.door_records.specs.declared.masters.MasterWords.{MasterWords}
use Rattle.door_records.specs.Masters.{record_in}
use Rattle.door_choosing.specs.declared.Looked.{Looked}
use Rattle.door_choosing.specs.Choosing.{looked_of, candidates_of}

-- a table of five is what stands at its places, one after the other
pub five-in : {A : Type 0} (t : List A) (z : A) → length t ≡ 5
    → t ≡ slice_index_or t 0 z ∷ slice_index_or t 1 z ∷ slice_index_or t 2 z ∷ slice_index_or t 3 z ∷ slice_index_or t 4 z ∷ []
five-in [] z h = absurd (omega arith)
five-in (a ∷ []) z h = absurd (omega arith)
five-in (a ∷ b ∷ []) z h = absurd (omega arith)
five-in (a ∷ b ∷ c ∷ []) z h = absurd (omega arith)
five-in (a ∷ b ∷ c ∷ d ∷ []) z h = absurd (omega arith)
five-in (a ∷ b ∷ c ∷ d ∷ e ∷ []) z h = refl
five-in (a ∷ b ∷ c ∷ d ∷ e ∷ f ∷ l) z h = absurd (omega arith)

-- ---- the one held after the last is the best
module _ (a b c d e : Option Candidate) where
  pub met : last_in (kept_of (kept_of (kept_of (kept_of (kept_of None a) b) c) d) e) ≡ best_of (a ∷ b ∷ c ∷ d ∷ e ∷ [])
  met = last-best (a ∷ b ∷ c ∷ d ∷ e ∷ [])

  -- with a new one at its place
  pub put : (at : ℕ) (n : Option Candidate) → at < 5
      → cond (eqb at 0) n a ∷ cond (eqb at 1) n b ∷ cond (eqb at 2) n c ∷ cond (eqb at 3) n d ∷ cond (eqb at 4) n e ∷ [] ≡ set (a ∷ b ∷ c ∷ d ∷ e ∷ []) at n
  put zero n h = refl
  put (suc zero) n h = refl
  put (suc (suc zero)) n h = refl
  put (suc (suc (suc zero))) n h = refl
  put (suc (suc (suc (suc zero)))) n h = refl
  put (suc (suc (suc (suc (suc k))))) n h = absurd (omega arith)

-- ---- what an Announce asks of the five
module _ (t : List MasterWords) (five : length t ≡ 5) (z : MasterWords) (h : Header) (now span : ℕ) (a b c d e : Looked)
    (ea : a ≡ looked_of h now span (record_in (slice_index_or t 0 z))) (eb : b ≡ looked_of h now span (record_in (slice_index_or t 1 z)))
    (ec : c ≡ looked_of h now span (record_in (slice_index_or t 2 z))) (ed : d ≡ looked_of h now span (record_in (slice_index_or t 3 z)))
    (ee : e ≡ looked_of h now span (record_in (slice_index_or t 4 z))) where
  pub stood : a.standing ∷ b.standing ∷ c.standing ∷ d.standing ∷ e.standing ∷ [] ≡ map (λ r. standing_of h.source h.sequence now span (record_in r)) t
  stood = rw (ea, eb, ec, ed, ee) (ap (map (λ r. standing_of h.source h.sequence now span (record_in r))) (sym (five-in t z five)))

  pub asked : a.candidate ∷ b.candidate ∷ c.candidate ∷ d.candidate ∷ e.candidate ∷ [] ≡ candidates_of t now span
  asked = rw (ea, eb, ec, ed, ee) (ap (λ l. candidates_of l now span) (sym (five-in t z five)))
