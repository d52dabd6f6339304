-- The octets of a request: they have the sequenceId that the book gives, and are written whole.
use Rattle.std.specs.Prelude.{Ok, Err}
use mathlib.Core.Path.{◌≡◌, refl, sym, ap, subst, ◌∙◌}
use mathlib.Core.Bool.{Bool, true, false, cond, ◌||◌}
use mathlib.Core.List.{List, [], reverse}
use Prim.Native.Nat.{ℕ, ◌-◌}
use lib.Dec.{ltb}
use lib.ListN.{length}
use Rattle.numbers.specs.declared.refusal.Refusal.TheVariants.{Room}
use Rattle.numbers.specs.Grounds.{Ruling}
use Rattle.numbers.specs.Orders.{of_exchange}
use Rattle.numbers.specs.Grounds.{first_of}
use Rattle.numbers.specs.Stamps.{sound_of}
use Rattle.numbers.proofs.Grounds.{or_else}
use Rattle.wire_layout.specs.declared.message.Message.{Message}
use Rattle.wire_layout.specs.Suffix.{tlv_of, whole_within}
use Rattle.wire_layout.specs.Writing.{fields_fit, write_of}
use Rattle.wire_frames.specs.Frames.{request_of}
use Rattle.rules_settings.specs.declared.Settings.{Settings}
use Rattle.rules_exchange.specs.Table.{requested}
use Rattle.rules_exchange.specs.Events.{tells_of}
use Rattle.unit_core.specs.Effects.{Stays, Effect, unless, stays_of, progress_of}
use Rattle.unit_core.specs.Answers.{is_refusal}
use Rattle.unit_measuring.specs.Measuring.{exchanges}
use Rattle.unit_measuring.specs.Barring.{own_due}
use Rattle.unit_measuring.specs.Asking.{narrow, request_grounds, with_next_sequence, requests}
use Rattle.unit_measuring.proofs.Room.{room-bars}
use Rattle.unit_measuring.specs.Frame.{framed, frame_by}
use Rattle.unit.specs.declared.Unit.{Unit}
use Rattle.unit.specs.Calls.{fresh_unit, applied}
use Rattle.unit_handing.specs.Handing.{Handed, request, asked_of, served_of, frame_left, calls_in}
use Rattle.unit.specs.Machine.{past}
use Rattle.unit.proofs.Refusals.{never}
use Rattle.unit.proofs.Simulation.{Tells, all_told}
use Rattle.unit_handing.proofs.Served.{served-is}
use Rattle.story.specs.Book.{sequence}
use Rattle.story.specs.Tale.{book}
use Rattle.story.proofs.Refines.{past-tells}
use Rattle.demands.specs.Words.{unit_after}

pub memory : (s : Settings) (list : List (Handed ℕ)) → Tells s (past s (reverse (calls_in list))) (unit_after s list)
memory s list = subst (Tells s (past s (reverse (calls_in list)))) (sym (served-is (fresh_unit s) list)) (all_told s (calls_in list))

module _ (c : Unit) where
  ruled : (e : Effect) (v : Ruling) (m : Message) (f : List ℕ) → is_refusal (applied c c.table (unless v e)).answer ≡ false → frame_by v m f ≡ framed m f
  ruled e (Ok _) m f h = refl
  ruled e (Err r) m f h = absurd (never (sym h))

  narrow-refused : (e : Effect) (v : Ruling) → is_refusal (applied c c.table (unless (or_else v (Err Room)) e)).answer ≡ false → ⊥
  narrow-refused e (Ok _) h = never (sym h)
  narrow-refused e (Err r) h = never (sym h)

roomy : (a b : Bool) → (a || b) ≡ false → b ≡ false
roomy true b h = absurd (never (sym h))
roomy false b h = h

module _ (s : Settings) where
  written-whole : (n room : ℕ) → ltb room 44 ≡ false → write_of (request_of s.domain s.own n) [] room ≡ Ok 44
  unfolding write_of first_of fields_fit sound_of whole_within tlv_of
  written-whole n room h = rw h

  module _ (list : List (Handed ℕ)) (frame : List ℕ) (at : ℕ) where
    abbrev c : Unit
    c = unit_after s list

    pub sequence-told : is_refusal (served_of c (request frame at)).answer ≡ false
        → frame_left {T = ℕ} c (request frame at) ≡ framed (request_of s.domain s.own (sequence (book s (reverse list)))) frame
    unfolding served_of asked_of requests
    sequence-told h =
        ruled c _ (first_of (request_grounds (stays_of c.core) at (length frame))) (request_of c.core.settings.domain c.core.settings.own c.core.domain.sequence) frame h
        ∙ rw ((memory s list).settings, ap (λ (k : Stays). k.sequence) ((memory s list).stays ∙ (past-tells s list).stays))

    abbrev asks : Effect
    asks = exchanges c.core.settings (with_next_sequence at (stays_of c.core)) (progress_of c.core c.servo) (tells_of c.core.domain.run.exchange (requested c.core.domain.sequence))

    abbrev others : Ruling
    others = first_of (of_exchange (own_due (stays_of c.core) at false))

    pub whole : (n : ℕ) → is_refusal (served_of c (request frame at)).answer ≡ false → write_of (request_of s.domain s.own n) [] (length frame - 14) ≡ Ok 44
    unfolding served_of asked_of requests
    whole n h =
        go (narrow (length frame)) refl
        (subst (λ (v : Ruling). is_refusal (applied c c.table (unless v asks)).answer ≡ false) (room-bars (stays_of c.core) at (narrow (length frame)) others refl) h)
      where
        go : (b : Bool) → narrow (length frame) ≡ b → is_refusal (applied c c.table (unless (or_else others (cond b (Err Room) (Ok tt))) asks)).answer ≡ false
            → write_of (request_of s.domain s.own n) [] (length frame - 14) ≡ Ok 44
        go true e k = absurd (narrow-refused c asks others k)
        go false e k = written-whole n (length frame - 14) (roomy (ltb (length frame) 14) (ltb (length frame - 14) 44) e)
