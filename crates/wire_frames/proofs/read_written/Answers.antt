-- `read_written` meets its contract: the second round trip, with the octets' range from the slice that is lent.
use Rattle.std.specs.Prelude.{Ok, Err}
use mathlib.Core.Path.{◌≡◌, refl, sym, ap, ◌∙◌}
use mathlib.Core.Bool.{Bool, true, false, cond}
use mathlib.Core.List.{List}
use Prim.Native.Nat.{ℕ}
use native.Mathlib.Omega.{arith}
use lib.Dec.{ltb}
use lib.ListN.{length}
use Rattle.numbers.specs.declared.refusal.Refusal.TheVariants.{Room}
use Rattle.wire_octets.proofs.Digits.{Octets}
use Rattle.wire_layout.specs.declared.message.Message.{Message}
use Rattle.wire_layout.specs.declared.message.Part.{Part}
use Rattle.wire_layout.specs.Reading.{read_of, suffix_in}
use Rattle.wire_layout.specs.Writing.{write_of, left_by}
use Rattle.wire_layout.proofs.Trips.{lies, back-and-there, written_read}
use Rattle.wire_frames.specs.Frames.{written_back, read_written, copied}
use Rattle.wire_frames.proofs.read_written.Goals as goal

-- what the writer says of the message and the suffix that were read, said of the octets
module _ (s d u : List ℕ) (m : Message) (p : Part) (o : Octets s) (got : read_of s ≡ Ok (m, p)) (is : u ≡ suffix_in s) where
  wrote : write_of m u (length d) ≡ read_written s (length d)
  wrote = rw is (back-and-there s m p (length d) o got) ∙ sym (ap (λ r. written_back r (length d)) got)

  left : left_by (write_of m u (length d)) m u d ≡ copied (read_written s (length d)) s d
  left = rw wrote (rw got (by (ltb (length d) p.to)))
    where
      by : (b : Bool) → left_by (cond b (Err Room) (Ok p.to)) m u d ≡ copied (cond b (Err Room) (Ok p.to)) s d
      by true = refl
      by false = rw (is, written_read s m p o got)

pub slice_bounds-write-count : goal.slice_bounds-write-count
slice_bounds-write-count c = let l = lies _ _ _ (sym c.read.ensures ∙ c.in_ok-m.was) in omega (arith, l.order)

pub slice_bounds-write-start : goal.slice_bounds-write-start
slice_bounds-write-start c = let l = lies _ _ _ (sym c.read.ensures ∙ c.in_ok-m.was) in omega (arith, l.order, l.inside)

pub slice_bounds-write-end : goal.slice_bounds-write-end
slice_bounds-write-end c = let l = lies _ _ _ (sym c.read.ensures ∙ c.in_ok-m.was) in omega (arith, l.order, l.inside)

pub returns : goal.returns
returns c =
    let s = c.args.s.now in
    let d = c.args.part.now in
    let got = sym c.read.ensures ∙ c.in_ok-m.was in
    let o : Octets s = λ i. (c.type_inv.s i).fits in
    let u = (lies s _ _ got).is in
    record {
      value = c.write.ensures.value ∙ wrote s d _ _ _ o got u;
      part_after = c.write.ensures.part_after ∙ left s d _ _ _ o got u;
    }
