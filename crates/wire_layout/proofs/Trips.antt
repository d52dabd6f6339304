-- The two round trips: reading what was written gives the message, and writing what was read gives the octets.
use Rattle.std.specs.Prelude.{Ok, Err}
use mathlib.Core.Path.{◌≡◌, refl, sym, ap, ap₂, ◌∙◌}
use mathlib.Core.Bool.{true, cond}
use mathlib.Core.List.{List, [], ◌∷◌, ◌++◌, append_assoc}
use Prim.Native.Nat.{ℕ, ◌+◌, ◌-◌, ◌*◌, ◌/◌, ◌%◌, ◌<◌, ◌≤◌, ◌^◌}
use native.Mathlib.Omega.{arith}
use lib.Dec.{ltb, eqb}
use lib.ListN.{length, get_or, take, drop, length-append, length-take, length-drop}
use lib.Seq.{take_at, drop_at, take-add}
use borrow.Author.Tests.{ltb-true, ltb-false, eqb-true, eqb-false, lt-ltb}
use Rattle.numbers.specs.Stamps.{sound_of}
use mir.Syntax.{w8, w16, w64}
use mir.Val.{to_z, of_z}
use mir.Facts.{to_z-of_z, of_z-to_z, Fits-of_z}
use Rattle.wire_octets.specs.Octets.{num, part, big_endian}
use Rattle.wire_octets.proofs.Digits.{Octets, num-digits, digits-num, take_part, num-below}
use Rattle.wire_layout.specs.declared.message.Port.{Port}
use Rattle.wire_layout.specs.declared.message.Header.{Header}
use Rattle.numbers.specs.declared.stamp.Stamp.{Stamp}
use Rattle.wire_layout.specs.declared.message.Offer.{Offer}
use Rattle.wire_layout.specs.declared.message.Body.{Body}
use Rattle.wire_layout.specs.declared.message.Body.TheVariants.{Sync, DelayReq, FollowUp, DelayResp, Announce}
use Rattle.wire_layout.specs.declared.message.Message.{Message}
use Rattle.numbers.specs.declared.refusal.Refusal.{Refusal}
use Rattle.numbers.specs.declared.refusal.Refusal.TheVariants.{Room}
use Rattle.wire_layout.specs.declared.message.Part.{Part}
use Rattle.wire_layout.specs.Kinds.{fixed_length_of, kind_of, body_size, stamp_in}
use Rattle.wire_layout.specs.Positions.{kind_in, version_in, length_in, port_at, header_of, stamp_at, offer_of, body_of, message_of}
use Rattle.wire_layout.specs.Suffix.{whole_of}
use Rattle.wire_layout.specs.Reading.{suffix_at, suffix_in, read_of, Read}
use Rattle.wire_layout.specs.Writing.{front_bits, back_bits, header_octets, stamp_octets, port_octets, offer_bits, offer_octets, body_octets, octets_of, fields_fit, write_of}
use Rattle.wire_layout.proofs.Known.{Known, k-sync, k-delay-req, k-follow-up, k-delay-resp, k-announce, choose, known}
use Rattle.wire_layout.proofs.Sizes.{header-length, body-length, size-44, kind-16, size-fixed}
use Rattle.wire_layout.proofs.Cases.{Head, Sized, stamp_of, r-short, r-version, r-kind, r-length, r-cut, r_field, r-whole}
use Rattle.wire_layout.proofs.Ranges.{PortIn, HeaderIn, OfferIn, BodyIn, MessageIn}
use Rattle.wire_layout.proofs.Stores.{Fit, fit, w-field, w-suffix, w-length, w-room, w-wrote}

module _ (h : Header) (k n : ℕ) (u : List ℕ) (i : HeaderIn h) (a : h.sdo < 16) (b : h.minor < 16) (c : k < 16) where
  header-back : header_of (header_octets h k n ++ u) ≡ h
  unfolding header_of port_at front_bits back_bits port_octets num big_endian
  header-back =
      let e0 : (h.sdo * 16 + k) / 16 ≡ h.sdo = omega arith in
      let e1 : (h.minor * 16 + 2) / 16 ≡ h.minor = omega arith in
      λ j. record {
        sdo = e0 j;
        minor = e1 j;
        domain = h.domain;
        minorsdo = h.minorsdo;
        flags = num-digits 2 h.flags [] i.flags j;
        correction = (ap (to_z w64) (num-digits 8 (of_z w64 h.correction) [] (Fits-of_z i.correction).fits) ∙ to_z-of_z i.correction) j;
        specific = num-digits 4 h.specific [] i.specific j;
        source = record { clock = num-digits 8 h.source.clock [] i.source.clock j; number = num-digits 2 h.source.number [] i.source.number j };
        sequence = num-digits 2 h.sequence [] i.sequence j;
        control = h.control;
        interval = to_z-of_z i.interval j;
      }

-- behind any header
module _ (h : Header) (k n : ℕ) (u : List ℕ) where
  stamp-back : (t : Stamp) → t.seconds < 2 ^ 48 → t.nanoseconds < 2 ^ 32 → stamp_at 34 (header_octets h k n ++ stamp_octets t ++ u) ≡ t
  unfolding stamp_at front_bits back_bits port_octets stamp_octets num big_endian
  stamp-back t a b = λ j. record { seconds = num-digits 6 t.seconds [] a j; nanoseconds = num-digits 4 t.nanoseconds [] b j }

  module _ (t : Stamp) where
    port-back : (p : Port) → PortIn p → port_at 44 (header_octets h k n ++ (stamp_octets t ++ port_octets p) ++ u) ≡ p
    unfolding port_at front_bits back_bits stamp_octets port_octets num big_endian
    port-back p i = λ j. record { clock = num-digits 8 p.clock [] i.clock j; number = num-digits 2 p.number [] i.number j }

    offer-back : (o : Offer) → OfferIn o → offer_of (header_octets h k n ++ (stamp_octets t ++ offer_octets o) ++ u) ≡ o
    unfolding offer_of front_bits back_bits port_octets stamp_octets offer_bits num big_endian
    offer-back o i =
        λ j. record {
          utc = (ap (to_z w16) (num-digits 2 (of_z w16 o.utc) [] (Fits-of_z i.utc).fits) ∙ to_z-of_z i.utc) j;
          reserved = o.reserved;
          priority1 = o.priority1;
          class = o.class;
          accuracy = o.accuracy;
          variance = num-digits 2 o.variance [] i.variance j;
          priority2 = o.priority2;
          grandmaster = num-digits 8 o.grandmaster [] i.grandmaster j;
          steps = num-digits 2 o.steps [] i.steps j;
          time = o.time;
        }

  -- a stamp is read the same before whatever follows it
  stamp-back' : (t : Stamp) (v : List ℕ) → t.seconds < 2 ^ 48 → t.nanoseconds < 2 ^ 32 → stamp_at 34 (header_octets h k n ++ (stamp_octets t ++ v) ++ u) ≡ t
  unfolding stamp_at front_bits back_bits port_octets stamp_octets num big_endian
  stamp-back' t v a b = λ j. record { seconds = num-digits 6 t.seconds [] a j; nanoseconds = num-digits 4 t.nanoseconds [] b j }

  body_back : (b : Body) → BodyIn b → (stamp_in b).seconds < 2 ^ 48 → (stamp_in b).nanoseconds < 2 ^ 32
      → body_of (kind_of b) (header_octets h k n ++ body_octets b ++ u) ≡ b
  unfolding body_of
  body_back (Sync t) i a c = ap Sync (stamp-back t a c)
  body_back (DelayReq t) i a c = ap DelayReq (stamp-back t a c)
  body_back (FollowUp t) i a c = ap FollowUp (stamp-back t a c)
  body_back (DelayResp t p) i a c = ap₂ DelayResp (stamp-back' t (port_octets p) a c) (port-back t p i)
  body_back (Announce t o) i a c = ap₂ Announce (stamp-back' t (offer_octets o) a c) (offer-back t o i)

-- FIRST ROUND TRIP: what was written is read as the message that it was
module _ (m : Message) (n : ℕ) (u : List ℕ) (f : Fit m.header (stamp_in m.body)) (l : n < 2 ^ 16) where
  kind-back : kind_in (octets_of m n ++ u) ≡ kind_of m.body
  unfolding front_bits back_bits port_octets big_endian
  kind-back = let k = kind-16 m.body in omega arith

  version-back : version_in (octets_of m n ++ u) ≡ 2
  unfolding front_bits back_bits port_octets big_endian
  version-back = omega arith

  length_back : length_in (octets_of m n ++ u) ≡ n
  unfolding front_bits back_bits port_octets num big_endian
  length_back = num-digits 2 n [] l

  size_back : fixed_length_of (kind_in (octets_of m n ++ u)) ≡ body_size m.body
  size_back = ap fixed_length_of kind-back ∙ size-fixed m.body

octets-length : (m : Message) (n : ℕ) → length (octets_of m n) ≡ body_size m.body
octets-length m n = rw length-append (omega (arith, header-length m.header (kind_of m.body) n, body-length m.body))

pub read-written : (m : Message) (t rest : List ℕ) → MessageIn m → fields_fit m.header (stamp_in m.body) ≡ true
    → whole_of t ≡ true → body_size m.body + length t ≤ 65_535
    → read_of (octets_of m (body_size m.body + length t) ++ (t ++ rest)) ≡ Ok (m, record { from = body_size m.body; to = body_size m.body + length t })
read-written m t rest i f w l =
    let b = m.body in
    let n = body_size b + length t in
    let u = t ++ rest in
    let s = octets_of m n ++ u in
    let F = fit m.header (stamp_in b) f in
    let small : n < 2 ^ 16 = omega arith in
    let kin = kind-back m n u F small in
    let len = length_back m n u F small in
    let size = size_back m n u F small in
    let long : length s ≡ n + length rest = rw (length-append (octets_of m n) u, length-append t rest) (omega (arith, octets-length m n)) in
    let suffix : suffix_in s ≡ t =
    (λ i. take (len i - size i) (drop (size i) s))
    ∙ rw (drop_at (octets_of m n) u (body_size b) (octets-length m n)) (take_at t rest (n - body_size b) (omega arith)) in
    let body : body_of (kind_in s) s ≡ b =
    rw kin (body_back m.header (kind_of b) n u b i.body F.seconds (omega (arith, F.nanoseconds))) in
    let sound : sound_of (stamp_of s) ≡ true = ap (λ (x : Body). sound_of (stamp_in x)) body ∙ F.sound in
    let head : header_of s ≡ m.header =
    ap header_of (append_assoc (header_octets m.header (kind_of b) n) (body_octets b) u)
    ∙ header-back m.header (kind_of b) n (body_octets b ++ u) i.header F.sdo F.minor (kind-16 b) in
    let sized : Sized s = record {
      head = record { head = omega (arith, long, size-44 b); version = version-back m n u F small; kind = λ z. omega (arith, size, z, size-44 b) };
      fixed = omega (arith, size, len);
      all = omega (arith, len, long);
    } in
    rw (r-whole s sized sound, suffix, w)
    (λ x. Ok (record { header = head x; body = body x }, record { from = size x; to = len x }))

-- SECOND ROUND TRIP: what was read is written as the octets that they were
-- what is known of octets that were read
pub record Taken (s : List ℕ) : Type 0 where
  pub sized : Sized s
  pub sound : sound_of (stamp_of s) ≡ true
  pub whole : whole_of (suffix_in s) ≡ true

module _ (s : List ℕ) (m : Message) (p : Part) (got : read_of s ≡ Ok (m, p)) where
  never : {P : Type 0} (r : Refusal) → read_of s ≡ Err r → P
  never r e = absurd (let z : ◌≡◌ {A = ℕ} 0 1 = cc in omega arith)

  pub taken : Taken s
  taken =
      choose (ltb (length s) 34) (λ a. never _ (r-short s (ltb-true _ _ a))) (λ a.
      let a = ltb-false (length s) 34 a in
      choose (eqb (version_in s) 2) (λ b.
      let b = eqb-true (version_in s) 2 b in
      choose (eqb (fixed_length_of (kind_in s)) 0) (λ d. never _ (r-kind s a b (eqb-true _ _ d))) (λ d.
      let h : Head s = record { head = a; version = b; kind = eqb-false (fixed_length_of (kind_in s)) 0 d } in
      choose (ltb (length_in s) (fixed_length_of (kind_in s))) (λ e. never _ (r-length s h (ltb-true _ _ e))) (λ e.
      let e = ltb-false (length_in s) (fixed_length_of (kind_in s)) e in
      choose (ltb (length s) (length_in s)) (λ g. never _ (r-cut s h e (ltb-true _ _ g))) (λ g.
      let z : Sized s = record { head = h; fixed = e; all = ltb-false (length s) (length_in s) g } in
      choose (sound_of (stamp_of s)) (λ k.
      choose (whole_of (suffix_in s)) (λ w. record { sized = z; sound = k; whole = w }) (λ w. never _ (rw w at (r-whole s z k))))
      (λ k. never _ (r_field s z k))))))
      (λ b. never _ (r-version s a (eqb-false _ _ b))))

  same : ◌≡◌ {A = Read} (Ok (m, p)) (Ok (message_of s, suffix_at s))
  same = let T = taken in sym got ∙ (rw T.whole at (r-whole s T.sized T.sound))

  both : ◌≡◌ {A = Message × Part} (m, p) (message_of s, suffix_at s)
  both = let e = same in cc

  is-message : m ≡ message_of s
  is-message = ap (λ (x : Message × Part). x.0) both

  is-suffix : p ≡ suffix_at s
  is-suffix = ap (λ (x : Message × Part). x.1) both

module _ (s : List ℕ) (o : Octets s) (v : version_in s ≡ 2) where
  header-again : header_octets (header_of s) (kind_in s) (length_in s) ≡ part 34 0 s
  unfolding front_bits back_bits port_octets header_of port_at part
  header-again =
      let e0 : get_or s 0 0 / 16 * 16 + get_or s 0 0 % 16 ≡ get_or s 0 0 = omega arith in
      let e1 : get_or s 1 0 / 16 * 16 + 2 ≡ get_or s 1 0 = omega arith in
      let c = ap (big_endian 8) (of_z-to_z {w = w64} (record { fits = num-below 8 8 s o })) ∙ digits-num 8 8 s o in
      let g = of_z-to_z {w = w8} (record { fits = o 33 }) in
      λ j. (e0 j ∷ e1 j ∷ digits-num 2 2 s o j ++ get_or s 4 0 ∷ get_or s 5 0 ∷ digits-num 2 6 s o j ++ c j ++ digits-num 4 16 s o j)
      ++ (digits-num 8 20 s o j ++ digits-num 2 28 s o j) ++ (digits-num 2 30 s o j ++ get_or s 32 0 ∷ g j ∷ [])

  stamp-again : stamp_octets (stamp_at 34 s) ≡ part 10 34 s
  unfolding stamp_octets stamp_at part
  stamp-again = λ j. digits-num 6 34 s o j ++ digits-num 4 40 s o j

  port-again : port_octets (port_at 44 s) ≡ part 10 44 s
  unfolding port_octets port_at part
  port-again = λ j. digits-num 8 44 s o j ++ digits-num 2 52 s o j

  offer-again : offer_octets (offer_of s) ≡ part 20 44 s
  unfolding offer_bits offer_of part
  offer-again =
      let c = ap (big_endian 2) (of_z-to_z {w = w16} (record { fits = num-below 2 44 s o })) ∙ digits-num 2 44 s o in
      λ j. c j ++ get_or s 46 0 ∷ get_or s 47 0 ∷ get_or s 48 0 ∷ get_or s 49 0 ∷ digits-num 2 50 s o j ++ get_or s 52 0 ∷ digits-num 8 53 s o j
      ++ digits-num 2 61 s o j ++ get_or s 63 0 ∷ []

  -- by kinds: the whole fixed part
  fixed-again : {k : ℕ} → Known k → part 34 0 s ++ body_octets (body_of k s) ≡ part (fixed_length_of k) 0 s
  unfolding body_of fixed_length_of part
  fixed-again k-sync = ap (λ (l : List ℕ). part 34 0 s ++ l) stamp-again
  fixed-again k-delay-req = ap (λ (l : List ℕ). part 34 0 s ++ l) stamp-again
  fixed-again k-follow-up = ap (λ (l : List ℕ). part 34 0 s ++ l) stamp-again
  fixed-again k-delay-resp = λ j. part 34 0 s ++ (stamp-again j ++ port-again j)
  fixed-again k-announce = λ j. part 34 0 s ++ (stamp-again j ++ offer-again j)

kind-again : (s : List ℕ) {k : ℕ} → Known k → kind_of (body_of k s) ≡ k
unfolding body_of
kind-again s k-sync = refl
kind-again s k-delay-req = refl
kind-again s k-follow-up = refl
kind-again s k-delay-resp = refl
kind-again s k-announce = refl

pub written_read : (s : List ℕ) (m : Message) (p : Part) → Octets s → read_of s ≡ Ok (m, p) → octets_of m p.to ++ suffix_in s ≡ take p.to s
written_read s m p o got =
    let T = taken s m p got in
    let K = known (kind_in s) T.sized.head.kind in
    let z = fixed_length_of (kind_in s) in
    let e : z + (length_in s - z) ≡ length_in s = omega (arith, T.sized.fixed) in
    let q : take z s ≡ part z 0 s = take_part z 0 s (omega (arith, T.sized.fixed, T.sized.all)) in
    rw (is-message s m p got, is-suffix s m p got, kind-again s K, header-again s o T.sized.head.version, fixed-again s o T.sized.head.version K, ← q, ← take-add, e)

-- and the writer does not refuse it where there is room
fit-again : (s : List ℕ) (t : Stamp) → Octets s → sound_of t ≡ true → fields_fit (header_of s) t ≡ true
unfolding fields_fit header_of
fit-again s t o h = simp (lt-ltb (get_or s 0 0 / 16) 16 (omega (arith, o 0)), lt-ltb (get_or s 1 0 / 16) 16 (omega (arith, o 1)), h)

-- what a writing that is not refused but for its room tells
pub record Writable (m : Message) (t : List ℕ) (n : ℕ) : Type 0 where
  pub fit : fields_fit m.header (stamp_in m.body) ≡ true
  pub whole : whole_of t ≡ true
  pub short : body_size m.body + length t ≤ 65_535
  pub is : n ≡ body_size m.body + length t

-- what was read can be written
again : (s : List ℕ) (m : Message) (p : Part) → Octets s → read_of s ≡ Ok (m, p) → Writable m (suffix_in s) p.to
again s m p o got =
    let T = taken s m p got in
    let K = known (kind_in s) T.sized.head.kind in
    let q = is-message s m p got in
    let l : p.to ≡ length_in s = ap (λ (x : Part). x.to) (is-suffix s m p got) in
    let z : body_size m.body ≡ fixed_length_of (kind_in s) = rw (q, ← size-fixed (body_of (kind_in s) s), kind-again s K) in
    let t : length (suffix_in s) ≡ length_in s - fixed_length_of (kind_in s) = rw (length-take, length-drop) (omega (arith, T.sized.fixed, T.sized.all)) in
    let e : p.to ≡ body_size m.body + length (suffix_in s) = omega (arith, t, z, l, T.sized.fixed) in
    let b : p.to < 65_536 = rw l (num-below 2 2 s o) in
    record {
      fit = rw q (fit-again s (stamp_of s) o T.sound);
      whole = T.whole;
      short = omega (arith, e, b);
      is = e;
    }

pub wrote-writable : (m : Message) (t : List ℕ) (room n : ℕ) → write_of m t room ≡ Ok n → Writable m t n
wrote-writable m t room n e =
    choose (fields_fit m.header (stamp_in m.body)) (λ f.
    choose (whole_of t) (λ w.
    choose (ltb 65_535 z) (λ a. barred _ (w-length m t room f w (ltb-true 65_535 z a))) (λ a.
    let l = ltb-false 65_535 z a in
    choose (ltb room z) (λ b. barred _ (w-room m t room f w l (ltb-true room z b))) (λ b.
    let x = sym e ∙ w-wrote m t room f w l (ltb-false room z b) in
    record { fit = f; whole = w; short = l; is = cc })))
    (λ w. barred _ (w-suffix m t room f w)))
    (λ f. barred _ (w-field m t room f))
  where
    z : ℕ
    z = body_size m.body + length t

    barred : {P : Type 0} (r : Refusal) → write_of m t room ≡ Err r → P
    barred r g = absurd (let z : ◌≡◌ {A = ℕ} 0 1 = cc in omega arith)

-- what was written into a part is read from it
pub there_and_back : (m : Message) (t d : List ℕ) (n : ℕ) → MessageIn m → write_of m t (length d) ≡ Ok n
    → read_of (octets_of m n ++ t ++ drop n d) ≡ Ok (m, record { from = body_size m.body; to = n })
there_and_back m t d n i e =
    let f = wrote-writable m t (length d) n e in
    let z = body_size m.body + length t in
    rw f.is (ap read_of (append_assoc (octets_of m z) t (drop z d)) ∙ read-written m t (drop z d) i f.fit f.whole f.short)

-- what was read is written again where there is room for it
pub back-and-there : (s : List ℕ) (m : Message) (p : Part) (room : ℕ) → Octets s → read_of s ≡ Ok (m, p)
    → write_of m (suffix_in s) room ≡ cond (ltb room p.to) (Err Room) (Ok p.to)
back-and-there s m p room o got =
    let a = again s m p o got in
    let t = suffix_in s in
    choose (ltb room p.to)
    (λ e. rw e (w-room m t room a.fit a.whole a.short (omega (arith, a.is, ltb-true room p.to e))))
    (λ e. rw e (w-wrote m t room a.fit a.whole a.short (omega (arith, a.is, ltb-false room p.to e)) ∙ ap Ok (sym a.is)))

-- where the suffix of what was read lies
pub record Lies (s : List ℕ) (p : Part) : Type 0 where
  pub order : p.from ≤ p.to
  pub inside : p.to ≤ length s
  pub is : take (p.to - p.from) (drop p.from s) ≡ suffix_in s

pub lies : (s : List ℕ) (m : Message) (p : Part) → read_of s ≡ Ok (m, p) → Lies s p
lies s m p got =
    let z = (taken s m p got).sized in
    rw (is-suffix s m p got) (record { order = z.fixed; inside = z.all; is = refl })
