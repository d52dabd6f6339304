-- A call that is lent no table: what it leaves of the parts is what the unit makes of it.
use Rattle.std.specs.Prelude.{Ok, Err}
use mathlib.Core.Path.{◌≡◌, refl, sym, ap, ◌∙◌}
use mathlib.Core.Bool.{Bool, true, false}
use mathlib.Core.List.{List, []}
use Prim.Native.Nat.{ℕ}
use lib.IntN.{ℤ}
use lib.ListN.{length}
use Rattle.numbers.specs.declared.stamp.Stamp.{Stamp}
use Rattle.numbers.specs.Grounds.{Ruling, answer_by, first_of}
use Rattle.rules_exchange.specs.Events.{Answer as Tells}
use Rattle.rules_watch.specs.Rules.{Drift}
use Rattle.numbers.specs.Orders.{of_exchange}
use Rattle.wire_layout.specs.declared.message.Header.{Header}
use Rattle.wire_layout.specs.declared.message.Body.{Body}
use Rattle.rules_exchange.specs.Events.{Answered}
use Rattle.rules_exchange.specs.declared.Exchange.{Exchange}
use Rattle.rules_exchange.specs.declared.said.Said.{Said}
use Rattle.rules_exchange.specs.declared.said.Said.TheVariants.{Held, Paired, Asked, Stamped, Back, Neg, Long, Huge, HugeFaulty, Path, PathWiped, Step, Measured}
use Rattle.rules_exchange.specs.Table.{sent as leaves, requested, row_by}
use Rattle.rules_exchange.specs.Events.{told, field_of, tells_of, stamp_taken}
use Rattle.rules_watch.specs.Rules.{wipes_of, pulse_of}
use Rattle.rules_watch.specs.Watch.{taken_by, since_of, watch_line}
use Rattle.rules_settings.specs.declared.Settings.{Settings}
use Rattle.unit_core.specs.Effects.{Stays, Progress, Effect, stays_of, progress_of, with_now, unless}
use Rattle.unit_measuring.specs.Measuring.{by_said, exchanges}
use Rattle.unit_measuring.specs.Barring.{own_due}
use Rattle.unit_measuring.specs.Asking.{request_grounds, with_next_sequence, requests, sends}
use Rattle.unit_measuring.specs.Frame.{frame_after}
use Rattle.unit_measuring.specs.Inner.{message_grounds, handed}
use Rattle.unit_measuring.proofs.Barring.{unless-told}
use Rattle.unit_ticking.specs.Ticking.{ticks, line_by}
use Rattle.unit_ticking.proofs.Pulses.{every-outcome}
use Rattle.unit.specs.declared.Unit.{Unit}
use Rattle.unit.specs.declared.Stepped.{Stepped}
use Rattle.unit.specs.Calls.{applied}
use Rattle.unit_handing.specs.Handing.{request, sent, tick, line, asked_of, served_of}
use Rattle.door_records.specs.declared.unit.UnitWords.{UnitWords}
use Rattle.door_records.specs.Unit.{core_in, settings_in, exchange_in}
use Rattle.door_records.proofs.Backs.{exchange-back}
use Rattle.door_words.specs.Answers.{answer_words, drift_words}
use Rattle.door_measuring.specs.Asking.{requested_by}
use Rattle.door_measuring.specs.Measuring.{Telling, told_by, spoken_told, sent_told}
use Rattle.door_loop.specs.Lending.{told_in, ticked_in}
use Rattle.door_loop.specs.Loop.{Parts, unit_in, Found, from_lent, from_turned, lends, Meant, means}

-- what is found tells this
abbrev pub meant_in : Found → Meant
meant_in f = record { unit = unit_in f.parts; answer = f.answer; frame = f.frame }

-- of a call that is lent no frame
abbrev pub stepped : Stepped → Meant
stepped r = record { unit = r.unit; answer = answer_words r.answer; frame = [] }

module _ (p : Parts) where
  abbrev pub u : UnitWords
  u = p.unit

  abbrev pub c : Unit
  c = unit_in p

  abbrev pub set : Settings
  set = settings_in u.settings

  abbrev pub stays : Stays
  stays = stays_of (core_in u)

  abbrev pub progress : Progress
  progress = progress_of (core_in u) p.servo

  abbrev pub held : Exchange
  held = exchange_in u.halves u.delays

  -- by an effect that leaves the table as it is
  abbrev pub by : Effect → Meant
  by e = stepped (applied c c.table e)

  -- ---- the exchange
  abbrev exchanged : Telling → Meant
  exchanged q = meant_in (from_lent (told_in u p.servo p.table p.watch q))

  said_same : (now : ℕ) (x : Exchange) (said : Said) → exchanged (Ok (spoken_told u.state now x said)) ≡ by (by_said set (with_now now stays) progress x said)
  unfolding by_said
  said_same now x Held = rw (exchange-back x)
  said_same now x Paired = rw (exchange-back x)
  said_same now x (Asked n) = rw (exchange-back x)
  said_same now x Stamped = rw (exchange-back x)
  said_same now x Back = refl
  said_same now x Neg = rw (exchange-back x)
  said_same now x Long = rw (exchange-back x)
  said_same now x Huge = rw (exchange-back x)
  said_same now x HugeFaulty = rw (exchange-back x)
  said_same now x Path = rw (exchange-back x)
  said_same now x PathWiped = refl
  said_same now x (Step offset) = refl
  said_same now x (Measured found) = rw (exchange-back x)

  told_same : (now : ℕ) (a : Tells) (x : Exchange) → exchanged (told_by u.state now a x) ≡ by (exchanges set (with_now now stays) progress (record { answer = a; exchange = x }))
  told_same now (Err n) x = refl
  told_same now (Ok said) x = said_same now x said

  pub unless-same : (now : ℕ) (v : Ruling) (a : Answered)
      → exchanged (answer_by Err (told_by u.state now a.answer a.exchange) v) ≡ by (unless v (exchanges set (with_now now stays) progress a))
  unless-same now (Ok _) a = told_same now a.answer a.exchange
  unless-same now (Err n) a = refl

  -- a call that is lent no table leaves it
  turned_same : (q : Telling) → meant_in (from_turned p (told_in u p.servo [] p.watch q)) ≡ exchanged q
  turned_same (Err n) = refl
  turned_same (Ok q) = refl

  pub sent-same : (now sequence : ℕ) (t3 : Stamp) → meant_in (lends p (sent now sequence t3)) ≡ means c (sent now sequence t3)
  unfolding lends means served_of asked_of sends
  sent-same now sequence t3 =
      turned_same (sent_told u now sequence t3) ∙ unless-same now (first_of (of_exchange (own_due stays now (field_of t3)))) (told held (leaves sequence t3))
      ∙ ap by (sym (unless-told set (with_now now stays) progress held (leaves sequence t3) (own_due stays now (field_of t3)) refl refl refl))

  pub heard-same : (now : ℕ) (t2 : Stamp) (h : Header) (b : Body)
      → exchanged (answer_by Err (told_by u.state now (handed held set.own t2 h b).answer (handed held set.own t2 h b).exchange) (first_of (message_grounds set stays now t2 h b)))
      ≡ by (unless (first_of (message_grounds set stays now t2 h b)) (exchanges set (with_now now stays) progress (handed held set.own t2 h b)))
  heard-same now t2 h b = unless-same now (first_of (message_grounds set stays now t2 h b)) (handed held set.own t2 h b)

  -- ---- a request
  asked-same : (now : ℕ) (v : Ruling)
      → meant_in
      (record {
        parts =
            record {
              unit =
                  record {
                    settings = u.settings;
                    state = (requested_by u.state u.halves now v).state;
                    halves = (requested_by u.state u.halves now v).halves;
                    delays = u.delays;
                  };
              servo = p.servo;
              table = p.table;
              watch = p.watch;
            };
        answer = (requested_by u.state u.halves now v).answer;
        frame = [];
        stray = [];
      })
      ≡ by (unless v (exchanges set (with_next_sequence now stays) progress (tells_of held (requested u.state.sequence))))
  unfolding tells_of row_by stamp_taken by_said
  asked-same now (Ok _) = refl
  asked-same now (Err n) = refl

  pub requested-same : (frame : List ℕ) (now : ℕ) → meant_in (lends p (request frame now)) ≡ means c (request frame now)
  unfolding lends means served_of asked_of requests
  requested-same frame now =
      ap (λ (m : Meant). record { unit = m.unit; answer = m.answer; frame = frame_after c.core now frame }) (asked-same now (first_of (request_grounds stays now (length frame))))

  -- ---- a pulse
  taken-wipes-not : (valid : Bool) → wipes_of (pulse_of valid) ≡ false
  taken-wipes-not true = refl
  taken-wipes-not false = refl

  pub ticked-same : (reference clock : ℤ) → meant_in (lends p (tick reference clock)) ≡ means c (tick reference clock)
  unfolding lends means served_of asked_of
  ticked-same reference clock =
      every-outcome
      (λ o. meant_in (from_turned p (ticked_in u p.servo (taken_by set.watch p.watch o))) ≡ by (ticks stays o))
      (λ n. refl) (λ a k. rw k) (λ origin x. rw (taken-wipes-not x.valid))
      set.watch (since_of p.watch) reference clock

  -- ---- the line
  drift-same : (d : Drift) (count : ℕ) → drift_words d count ≡ answer_words (line_by d count)
  drift-same (Err n) count = refl
  drift-same (Ok l) count = refl

  pub lined-same : meant_in (lends p line) ≡ means c line
  unfolding lends means served_of asked_of
  lined-same = rw (drift-same (watch_line set.watch p.watch) u.state.wipes)
