-- The place of the sender's live record, or the first that is not live.
use Rattle.std.proofs.Common.{not, true, false, sym}
use Rattle.rules_masters.specs.declared.standing.Standing.{Standing}
use Rattle.rules_masters.proofs.Placing.{place-found, place-missed}
use Rattle.rules_masters.proofs.Standings.{seat-known, seat-free, seat-full}
use Rattle.rules_masters.proofs.seats.seat.Goals as goal

pub returns-in-Some-clause-value : goal.returns-in-Some-clause-value
returns-in-Some-clause-value c =
    let f = place-found (λ (s : Standing). s.known) c.args.standings.now c.home.result c.home.ensures.value c.in-Some.at c.in-Some.is in
    sym (seat-known c.args.standings.now c.told-standings c.in-Some.at _ true f.0 f.1 c.if-standings-at.true)

pub returns-in-Some-2-clause-value : goal.returns-in-Some-2-clause-value
returns-in-Some-2-clause-value c =
    let f = place-found (λ (s : Standing). s.known) c.args.standings.now c.home.result c.home.ensures.value c.in-Some.at c.in-Some.is in
    sym (seat-known c.args.standings.now c.told-standings c.in-Some.at _ false f.0 f.1 c.if-standings-at.false)

pub returns-in-Some-free-clause-value : goal.returns-in-Some-free-clause-value
returns-in-Some-free-clause-value c =
    let m = place-missed (λ (s : Standing). s.known) c.args.standings.now c.home.result c.home.ensures.value c.in-None.is in
    let f = place-found (λ (s : Standing). not s.live) c.args.standings.now c.free.result c.free.ensures.value c.in-Some-free.at c.in-Some-free.is in
    sym (seat-free c.args.standings.now c.told-standings m c.in-Some-free.at f.0 f.1)

pub returns-in-None-free-clause-value : goal.returns-in-None-free-clause-value
returns-in-None-free-clause-value c =
    let m = place-missed (λ (s : Standing). s.known) c.args.standings.now c.home.result c.home.ensures.value c.in-None.is in
    sym (seat-full c.args.standings.now c.told-standings m (place-missed (λ (s : Standing). not s.live) c.args.standings.now c.free.result c.free.ensures.value c.in-None-free.is))
