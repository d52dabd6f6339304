-- Refusals in their order: each with whether it is due, and the first that is.
use Rattle.std.specs.Prelude.{Bool, cond, List, [], ◌∷◌, Ok, Err, Result}
use Rattle.numbers.specs.declared.refusal.Refusal.{Refusal}

-- what the refusals of a call come to: the first that is due, or that none is
abbrev pub Ruling : Type 0
Ruling = Result (Unit {0}) Refusal

-- a refusal, and whether it is due
pub record Ground : Type 0 where
  pub refusal : Refusal
  pub due : Bool

abbrev pub gives : Refusal → Bool → Ground
gives refusal due = record { refusal = refusal; due = due }

-- the first that is due is given
unfoldable pub first_of : List Ground → Ruling
first_of [] = Ok tt
first_of (g ∷ rest) = cond g.due (Err g.refusal) (first_of rest)

-- what a call answers: the refusal, or where none is due what it says then
abbrev pub answer_by : {A : Type 0} → (Refusal → A) → A → Ruling → A
answer_by refused says (Ok _) = says
answer_by refused says (Err r) = refused r
