-- What the exchange promises of every event in every state. That each gets an answer, and only one, is said by `told`: it is a function.
use Rattle.std.specs.Prelude.{Ok, Err}
use mathlib.Core.Path.{◌≡◌, refl, ap, ◌∙◌, subst}
use mathlib.Core.Bool.{Bool, true, false, cond}
use mathlib.Core.Option.{Option, none, some}
use Prim.Native.Nat.{ℕ, ◌+◌, ◌<◌, ◌≤◌}
use borrow.Author.Tests.{ltb-false, eq-eqb, eqb-true}
use lib.IntN.{ℤ, pos, nat_abs}
use Rattle.numbers.specs.declared.stamp.Stamp.{Stamp}
use Rattle.numbers.specs.declared.refusal.Refusal.{Refusal}
use Rattle.numbers.specs.Integers.{Within}
use Rattle.numbers.proofs.Signs.{abs-within}
use Rattle.wire_layout.specs.declared.message.Port.{Port}
use Rattle.rules_exchange.specs.declared.Exchange.{Exchange}
use Rattle.rules_exchange.specs.declared.Accepted.{Accepted}
use Rattle.rules_exchange.specs.Events.{Answer}
use Rattle.rules_exchange.specs.Events.{Answered}
use Rattle.rules_exchange.specs.declared.said.Said.{Said}
use Rattle.rules_exchange.specs.declared.said.Said.TheVariants.{Held, Paired, Asked, Stamped, Back, Neg, Long, Huge, HugeFaulty, Path, PathWiped, Step, Measured}
use Rattle.rules_exchange.specs.Halves.{SyncHalf, no_sync, awaits, knows, RequestHalf, no_request, asked, stamped, sync_half, request_half, as_sync, as_request, fresh_sync, fresh_request}
use Rattle.rules_exchange.specs.Inner.{partners_of}
use Rattle.rules_exchange.specs.Said.{Verdict, verdict_of}
use Rattle.rules_exchange.specs.Table.{Event, delay_resp, same_port}
use Rattle.rules_exchange.specs.Events.{correction_of, finished, offset_of, told}
use Rattle.rules_delays.proofs.Tests.{never}
use Rattle.rules_exchange.proofs.Told.{told-correction, told-finished, told-stranger, partners-are, knows-is, given_is}
use Rattle.rules_exchange.proofs.Every.{ends-all, every}

-- ---- the exchange y after each answer, where it was x before
-- both halves are empty
pub record Spent (y : Exchange) : Type 0 where
  pub sync : y.sync ≡ fresh_sync
  pub request : y.request ≡ fresh_request

-- last stamp and delays are as they were
pub record Same (x y : Exchange) : Type 0 where
  pub last : y.last ≡ x.last
  pub delays : y.delays ≡ x.delays

-- HUGE and PATH in a row
pub record Rows (y : Exchange) (h p : ℕ) : Type 0 where
  pub huge : y.huge ≡ h
  pub path : y.path ≡ p

-- an accepted delay is from 0 to 9,999,999, its offset within 100,000,000
pub record Range (m : Accepted) : Type 0 where
  pub whole : m.delay.0 ≡ pos (nat_abs m.delay.0)
  pub most : nat_abs m.delay.0 ≤ 9999999
  pub offset : Within 100000000 m.offset.0

abbrev pub AfterSaid : Exchange → Said → Exchange → Type 0
AfterSaid x Held y = (y.delays ≡ x.delays) × Rows y x.huge x.path
AfterSaid x Paired y = Same x y × Rows y x.huge x.path
AfterSaid x (Asked n) y = Same x y × Rows y x.huge x.path
AfterSaid x Stamped y = (y.delays ≡ x.delays) × Rows y x.huge x.path
AfterSaid x Back y = y ≡ x
AfterSaid x Neg y = Spent y × Same x y × Rows y 0 0
AfterSaid x Long y = Spent y × Same x y × Rows y 0 0
AfterSaid x Huge y = (x.huge < 2) × Spent y × Same x y × Rows y (x.huge + 1) 0
AfterSaid x HugeFaulty y = (2 ≤ x.huge) × Spent y × Same x y × Rows y 3 0
AfterSaid x Path y = (x.path < 2) × Spent y × Same x y × Rows y 0 (x.path + 1)
AfterSaid x PathWiped y = (2 ≤ x.path) × Spent y × Same x y × Rows y 0 3
AfterSaid x (Step o) y = Spent y × Same x y × Rows y x.huge x.path
AfterSaid x (Measured m) y = Range m × Spent y × Rows y 0 0

abbrev pub After : Exchange → Answer → Exchange → Type 0
After x (Err n) y = y ≡ x
After x (Ok s) y = AfterSaid x s y

pub after : (x : Exchange) (e : Event) → After x (told x e).answer (told x e).exchange
after x e =
    every x (λ (r : Answered). After x r.answer r.exchange)
    (record {
      refuses = λ n. refl;
      back = refl;
      holds = λ h t. (refl, record { huge = refl; path = refl });
      pairs = λ h. (record { last = refl; delays = refl }, record { huge = refl; path = refl });
      asks = λ n. (record { last = refl; delays = refl }, record { huge = refl; path = refl });
      stamps = λ h t. (refl, record { huge = refl; path = refl });
      ends =
          record {
            neg = (record { sync = refl; request = refl }, record { last = refl; delays = refl }, record { huge = refl; path = refl });
            long = (record { sync = refl; request = refl }, record { last = refl; delays = refl }, record { huge = refl; path = refl });
            huge = λ l. (l, record { sync = refl; request = refl }, record { last = refl; delays = refl }, record { huge = refl; path = refl });
            faulty = λ l. (l, record { sync = refl; request = refl }, record { last = refl; delays = refl }, record { huge = refl; path = refl });
            path = λ l. (l, record { sync = refl; request = refl }, record { last = refl; delays = refl }, record { huge = refl; path = refl });
            wipes = λ l. (l, record { sync = refl; request = refl }, record { last = refl; delays = refl }, record { huge = refl; path = refl });
            step = λ f d. (record { sync = refl; request = refl }, record { last = refl; delays = refl }, record { huge = refl; path = refl });
            measured = λ f d l s. (
              record { whole = refl; most = l; offset = abs-within (offset_of x f d) (ltb-false 100000000 (nat_abs (offset_of x f d)) s) },
              record { sync = refl; request = refl },
              record { huge = refl; path = refl },
            );
          };
    }) e

-- ---- by name
-- what follows from the answer that was given
by : (x : Exchange) (e : Event) {a : Answer} → (told x e).answer ≡ a → After x a (told x e).exchange
by x e h = subst (λ (a : Answer). After x a (told x e).exchange) h (after x e)

-- a refused event leaves the exchange as it was
pub refused-keeps : (x : Exchange) (e : Event) (n : Refusal) → (told x e).answer ≡ Err n → (told x e).exchange ≡ x
refused-keeps x e n h = by x e h

-- an accepted delay is from 0 to 9,999,999, its offset within 100,000,000
pub accepted-range : (x : Exchange) (e : Event) (m : Accepted) → (told x e).answer ≡ Ok (Measured m) → Range m
accepted-range x e m h = (by x e h).0

-- after any finished measurement both halves are empty
abbrev pub is_some : Option Verdict → Bool
is_some none = false
is_some (some v) = true

abbrev pub finishes_of : Answer → Bool
finishes_of (Err n) = false
finishes_of (Ok s) = is_some (verdict_of s)

after-end : (x y : Exchange) (a : Answer) → After x a y → finishes_of a ≡ true → Spent y
after-end x y (Err n) f h = absurd (never h)
after-end x y (Ok Held) f h = absurd (never h)
after-end x y (Ok Paired) f h = absurd (never h)
after-end x y (Ok (Asked n)) f h = absurd (never h)
after-end x y (Ok Stamped) f h = absurd (never h)
after-end x y (Ok Back) f h = absurd (never h)
after-end x y (Ok Neg) f h = f.0
after-end x y (Ok Long) f h = f.0
after-end x y (Ok Huge) f h = f.1
after-end x y (Ok HugeFaulty) f h = f.1
after-end x y (Ok Path) f h = f.1
after-end x y (Ok PathWiped) f h = f.1
after-end x y (Ok (Step o)) f h = f.0
after-end x y (Ok (Measured m)) f h = f.1

pub halves-spent : (x : Exchange) (e : Event) → finishes_of (told x e).answer ≡ true → Spent (told x e).exchange
halves-spent x e h = after-end x (told x e).exchange (told x e).answer (after x e) h

-- ---- a Delay_Resp finishes a measurement exactly when the four stamps and both identities are there
finished-finishes : (x : Exchange) (forward sum : ℤ) → finishes_of (finished x forward sum).answer ≡ true
finished-finishes x forward sum =
    ends-all x (λ (r : Answered). finishes_of r.answer ≡ true)
    (record {
      neg = refl;
      long = refl;
      huge = λ l. refl;
      faulty = λ l. refl;
      path = λ l. refl;
      wipes = λ l. refl;
      step = λ f d. refl;
      measured = λ f d l s. refl;
    }) forward sum

module _ (x : Exchange) (n : ℕ) (c : ℤ) (t4 : Stamp) (p own : Port) where
  abbrev Resp : Event
  Resp = delay_resp n c t4 p own

  -- t4 comes with the message, whose correction is in range
  pub resp-finishes : finishes_of (told x Resp).answer ≡ cond (correction_of c) false (partners_of x.sync x.request n p own)
  resp-finishes = go (correction_of c) refl (partners_of x.sync x.request n p own) refl
    where
      go : (a : Bool) → correction_of c ≡ a → (b : Bool) → partners_of x.sync x.request n p own ≡ b → finishes_of (told x Resp).answer ≡ cond a false b
      go true e b f = ap (λ (r : Answered). finishes_of r.answer) (told-correction x Resp e)
      go false e true f = ap (λ (r : Answered). finishes_of r.answer) (told-finished x n c t4 p own e f) ∙ finished-finishes x _ _
      go false e false f = ap (λ (r : Answered). finishes_of r.answer) (told-stranger x n c t4 p own e f)

-- t1 and t2; t3, for this sequenceId; and the own port (rule 7.7)
pub record There (x : Exchange) (n : ℕ) (p own : Port) : Type 0 where
  pub sync : sync_half x.sync ≡ knows x.sync.sequence x.sync.t1 x.sync.t2 x.sync.correction x.sync.follow
  pub request : request_half x.request ≡ stamped n x.request.t3
  pub port : same_port p own ≡ true

pub partners→ : (x : Exchange) (n : ℕ) (p own : Port) → partners_of x.sync x.request n p own ≡ true → There x n p own
partners→ x n p own h =
    let w = partners-are x.sync x.request n p own h in
    let g = given_is x.request n w.request in
    record {
      sync = knows-is x.sync w.sync;
      request = g.half ∙ ap (λ (m : ℕ). stamped m x.request.t3) (eqb-true x.request.sequence n g.same);
      port = w.port;
    }

pub partners← : (x : Exchange) (n : ℕ) (p own : Port) → There x n p own → partners_of x.sync x.request n p own ≡ true
partners← x n p own f = rw (f.sync, f.request, eq-eqb n n refl, f.port)

-- ---- the memory holds the states of the table
pub sync-held : (h : SyncHalf) → sync_half (as_sync h) ≡ h
unfolding sync_half
sync-held no_sync = refl
sync-held (awaits n t2 c) = refl
sync-held (knows n t1 t2 c f) = refl

pub request-held : (h : RequestHalf) → request_half (as_request h) ≡ h
unfolding request_half
request-held no_request = refl
request-held (asked n) = refl
request-held (stamped n t3) = refl
