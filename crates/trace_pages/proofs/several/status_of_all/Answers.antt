use Rattle.std.proofs.Common.{◌∙◌, sym}
use Rattle.trace_pages.proofs.Statuses.{status_found, status_none, status_unknown}
use Rattle.trace_pages.proofs.several.status_of_all.Goals as goal

pub returns-then-are_undecided-clause-status : goal.returns-then-are_undecided-clause-status
returns-then-are_undecided-clause-status c =
    status_unknown c.args.answered.now (sym c.are_undecided.ensures ∙ c.if-are_undecided.true)

pub returns-then-are_found-clause-status : goal.returns-then-are_found-clause-status
returns-then-are_found-clause-status c =
    status_found c.args.answered.now (sym c.are_undecided.ensures ∙ c.if-are_undecided.false)
    (sym c.are_found.ensures ∙ c.if-are_found.true)

pub returns-clause-status : goal.returns-clause-status
returns-clause-status c =
    status_none c.args.answered.now (sym c.are_undecided.ensures ∙ c.if-are_undecided.false)
    (sym c.are_found.ensures ∙ c.if-are_found.false)
