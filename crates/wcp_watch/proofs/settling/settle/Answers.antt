use Rattle.wcp_watch.proofs.Words.{true≢false, Err, refl, sym, ap, ◌∙◌, Unfinished}
use Rattle.wcp_watch.proofs.FirstFaults.{answered, handed, no_fault}
use Rattle.wcp_watch.proofs.SettledEnds.{all_settled, book_finished, book_posted, ends_there, few, free_before}
use Rattle.wcp_watch.proofs.SettledEnds.{links_matched, places, some, unfinished}
use Rattle.wcp_watch.proofs.settling.settle.Goals as goal

pub returns-in_err-seated-clause-first : goal.returns-in_err-seated-clause-first
returns-in_err-seated-clause-first c =
    answered c.args.probes.items c.args.relays.items c.args.checker c.args.book c.from_residual.result
    c.in_err-seated.field-0.0
    (handed c.from_residual.result c.in_err-seated.field-0.0 c.from_residual.ensures)
    (c.in_err-seated.ensures.first c.args.book)

pub tallies-tallies-requires-clause-some : goal.tallies-tallies-requires-clause-some
tallies-tallies-requires-clause-some c = some c.requires

pub tallies-tallies-requires-clause-few : goal.tallies-tallies-requires-clause-few
tallies-tallies-requires-clause-few c = few c.requires

pub tallies-tallies-requires-clause-there : goal.tallies-tallies-requires-clause-there
tallies-tallies-requires-clause-there c = places c.requires c.in_ok-seated.ensures.seated

pub returns-then-not-is_book_of-clause-first : goal.returns-then-not-is_book_of-clause-first
returns-then-not-is_book_of-clause-first c =
    let seats = c.in_ok-seated.ensures.seated in
    answered c.args.probes.items c.args.relays.items c.args.checker c.args.book (Err Unfinished) Unfinished refl
    (unfinished c.requires seats c.args.book (λ finished.
    true≢false (sym (c.is_book_of.ensures.1
    (book_posted c.requires seats c.tallies-tallies.ensures c.args.book
    (c.report-report.ensures.told c.requires.watch.inbox c.requires.questions c.requires.of_checker) finished)) ∙ c.if-not-is_book_of.true)))

pub match_links-requires : goal.match_links-requires
match_links-requires c = ends_there c.requires c.in_ok-seated.ensures.seated

pub returns-in_err-match_links-clause-first : goal.returns-in_err-match_links-clause-first
returns-in_err-match_links-clause-first c =
    let seats = c.in_ok-seated.ensures.seated in
    answered c.args.probes.items c.args.relays.items c.args.checker c.args.book
    c.from_residual-in_err-match_links.result Unfinished
    (handed c.from_residual-in_err-match_links.result c.in_err-match_links.field-0.0
    c.from_residual-in_err-match_links.ensures
    ∙ ap Err c.in_err-match_links.ensures.fault)
    (unfinished c.requires seats c.args.book (λ finished.
    true≢false (sym (c.in_err-match_links.ensures.exact.1 ((links_matched c.requires seats).1 finished.links)))))

pub returns-clause-settled : goal.returns-clause-settled
returns-clause-settled c =
    all_settled c.requires c.in_ok-seated.ensures.seated c.tallies-tallies.ensures c.args.book
    (c.report-report.ensures.told c.requires.watch.inbox c.requires.questions c.requires.of_checker)
    (c.is_book_of.ensures.0 c.if-not-is_book_of.false) (c.in_ok-match_links.ensures.exact.0 refl)

pub returns-clause-first : goal.returns-clause-first
returns-clause-first c =
    let seats = c.in_ok-seated.ensures.seated in
    let posted = c.is_book_of.ensures.0 c.if-not-is_book_of.false in
    let finished =
    book_finished c.requires seats c.tallies-tallies.ensures c.args.book
    (c.report-report.ensures.told c.requires.watch.inbox c.requires.questions c.requires.of_checker) posted
    (c.in_ok-match_links.ensures.exact.0 refl) in
    let before = free_before c.requires seats c.args.book in
    λ first. (
      λ same. absurd (cc),
      λ is. absurd (no_fault c.args.probes.items c.args.relays.items c.args.checker c.args.book
          (before.0, (before.1.0, (before.1.1.0, (finished, tt)))) first is),
    )
