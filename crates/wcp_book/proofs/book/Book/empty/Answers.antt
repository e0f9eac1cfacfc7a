use Rattle.std.proofs.Common.{None, false, List, Option, ap}
use Rattle.std.proofs.lemmas.List.{take-replicate}
use Rattle.wcp_model.specs.declared.outcome.Tally.{Tally}
use Rattle.wcp_book.specs.State.{BookState}
use Rattle.wcp_book.proofs.book.Book.empty.Goals as goal

pub returns : goal.returns
returns g c =
    ap (λ (shares : List (Option Tally)). let book : BookState =
    record { shares = shares; found = None; ended = None; in_use = false } in book)
    (take-replicate c.args.n 16 None c.requires.within)
