-- An Announce that is seated: by its place, the record stored there, and the choice over the table after it.
use Rattle.std.proofs.Common.{◌≡◌, ◌∙◌, sym, length, rules}
use Rattle.std.proofs.lemmas.Result.{err_from_is_err_and}
use Rattle.door_choosing.proofs.Five.{stood, asked}
use Rattle.door_choosing.proofs.Seating.{stored, unseated}
use Rattle.door_choosing.proofs.announce.Goals as goal

pub returns-clause-value : goal.returns-clause-value
returns-clause-value c =
    let a = c.args in
    let same : c.in_ok-five.five.now ≡ a.table.now = search rules in
    let table : length c.in_ok-five.five.now ≡ 5 = search rules in
    let five : length a.table.now ≡ 5 = search rules in
    let clear = rw (c.announce_in-heard.ensures, c.own.ensures) at c.barred.ensures in
    let standings = stood c.in_ok-five.five.now table _ a.m.header _ _ _ _ _ _ _ c.look-a.ensures c.look-b.ensures c.look-c.ensures c.look-d.ensures c.look-e.ensures in
    let candidates = asked c.in_ok-five.five.now table _ a.m.header _ _ _ _ _ _ _ c.look-a.ensures c.look-b.ensures c.look-c.ensures c.look-d.ensures c.look-e.ensures in
    let seat = rw (standings, c.of-at.ensures, same) at c.seat.ensures.value in
    let put = rw (same, c.announce_in-heard.ensures) at c.placed-record.ensures in
    stored a.s a.t a.table.now a.m a.now five (sym clear ∙ c.in_ok-barred.was) c.in_ok-entry.entry (sym seat ∙ c.in_ok-entry.was)
    _ c.place-place.ensures _ put _ c.into.ensures _
    (rw (c.best_stored-best.ensures, candidates, c.candidate.ensures, c.of-at.ensures, same) at c.hold.ensures)

pub returns-in_err-entry-clause-value : goal.returns-in_err-entry-clause-value
returns-in_err-entry-clause-value c =
    let a = c.args in
    let same : c.in_ok-five.five.now ≡ a.table.now = search rules in
    let table : length c.in_ok-five.five.now ≡ 5 = search rules in
    let five : length a.table.now ≡ 5 = search rules in
    let clear = rw (c.announce_in-heard.ensures, c.own.ensures) at c.barred.ensures in
    let standings = stood c.in_ok-five.five.now table _ a.m.header _ _ _ _ _ _ _ c.look-a.ensures c.look-b.ensures c.look-c.ensures c.look-d.ensures c.look-e.ensures in
    let seat = rw (standings, c.of-at.ensures, same) at c.seat.ensures.value in
    let e = unseated a.s a.t a.table.now a.m a.now five (sym clear ∙ c.in_ok-barred.was) c.in_err-entry.field-0.0 (sym seat ∙ c.in_err-entry.was) in
    let p = err_from_is_err_and c.from_residual-in_err-entry.result c.from_residual-in_err-entry.ensures.1 in
    rw (e, p.1, p.2)
