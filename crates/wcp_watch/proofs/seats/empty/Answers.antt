use Rattle.wcp_watch.proofs.Words.{◌≡◌, Some, None, get_or, subst, ◌<◌, slice_get_within, slice_get-get_or}
use Rattle.wcp_watch.proofs.seats.empty.Goals as goal

pub returns-clause-none : goal.returns-clause-none
returns-clause-none g c = λ place end at.
    let within = slice_get_within c.from_fn.result place (Some end) at in
    let made = c.from_fn.ensures.items.at place None (subst (λ n. place < n) c.from_fn.ensures.items.long within) in
    let there = slice_get-get_or c.from_fn.result place None within in
    let none : get_or c.from_fn.result place None ≡ None = made.2.met in
    cc
