-- ROOM: 14 octets of Ethernet header and 44 of a Delay_Req.
use Rattle.std.specs.Prelude.{Ok, Err}
use mathlib.Core.Path.{◌≡◌, sym, ap, ◌∙◌}
use mathlib.Core.Bool.{Bool, true, false, not, cond, ◌||◌}
use Prim.Native.Nat.{ℕ, ◌-◌, ◌≤◌, ◌<◌}
use native.Mathlib.Decide.{dec_lt}
use native.Mathlib.Omega.{arith}
use borrow.Author.Tests.{lt-ltb, le-ltb}
use lib.Dec.{ltb}
use Rattle.numbers.specs.declared.refusal.Refusal.TheVariants.{Room}
use Rattle.numbers.specs.Grounds.{Ruling}
use Rattle.numbers.specs.Grounds.{first_of}
use Rattle.numbers.specs.Orders.{due_with, of_exchange}
use Rattle.numbers.proofs.Grounds.{or_else}
use Rattle.unit_core.specs.Effects.{Stays}
use Rattle.unit_measuring.specs.Asking.{narrow}
use Rattle.unit_measuring.specs.Barring.{own_due}
use Rattle.unit_measuring.proofs.Barring.{two-parts}

pub short : (room : ℕ) → room < 58 → narrow room ≡ true
short room h = go (dec_lt room 14)
  where
    go : Dec (room < 14) → (ltb room 14 || ltb (room - 14) 44) ≡ true
    go (yes a) = rw (lt-ltb room 14 a)
    go (no a) = rw (le-ltb room 14 (omega arith), lt-ltb (room - 14) 44 (omega arith))

pub long-enough : (room : ℕ) → 58 ≤ room → narrow room ≡ false
long-enough room h = rw (le-ltb room 14 (omega arith), le-ltb (room - 14) 44 (omega arith))

-- what bars a request into a frame: the unit's refusals, and then ROOM
pub room-bars : (k : Stays) (now : ℕ) (r : Bool) (v : Ruling) → v ≡ first_of (of_exchange (own_due k now false)) → first_of (of_exchange (due_with Room r (own_due k now false))) ≡ or_else v (cond r (Err Room) (Ok tt))
unfolding first_of
room-bars k now r v e = two-parts false (ltb now k.now) k.faulty false (not k.chosen.some) false false r ∙ ap (λ (w : Ruling). or_else w (cond r (Err Room) (Ok tt))) (sym e)
