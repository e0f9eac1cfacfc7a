use Rattle.wcp_queue.proofs.Words.{◌≡◌, true, subst, false≢true, CheckerState}
use Rattle.wcp_queue.specs.Checker.{KeepsFound}
use Rattle.wcp_queue.proofs.Panels.{searches, TakesOrIsStarved-starved}
use Rattle.wcp_queue.proofs.question.take_or_starve.Goals as goal

pub returns : goal.returns
returns c =
    let old = c.args.checker.now in
    let fed = c.starve.new.self in
    let refused = c.in-Err.ensures in
    let same : c.take_note.new.self ≡ old = refused.unchanged in
    TakesOrIsStarved-starved old fed c.take_note-2.new.self c.args.item.now
    (searches old (λ found. false≢true (refused.found_needs_none found))
    (λ starved. false≢true (refused.starved_needs_none starved))) (λ last. false≢true (refused.last_needs_none last))
    (subst (λ (before : CheckerState). fed ≡ record before { starved = true }) same c.starve.ensures.starved)
    (λ items stands. c.starve.ensures.stands items (rw same stands))
    (subst (λ (before : CheckerState). KeepsFound before fed) same c.starve.ensures.found_stays)
    c.in-Ok.ensures.taken c.in-Ok.ensures.found_stays c.in-Ok.ensures.grows_nothing c.in-Ok.ensures.processes
