use Rattle.std.proofs.Common.{map}
use Rattle.trace_pages.specs.Pages.{said_by}
use Rattle.trace_pages.proofs.Statuses.{shows_page}
use Rattle.trace_pages.proofs.several.draw_all.Goals as goal

pub returns-then-options : goal.returns-then-options
returns-then-options g c = rw c.if-options.true c.draw_first.ensures

pub returns : goal.returns
returns g c =
    rw c.if-options.false (shows_page (map said_by c.args.answered.now) c.args.behind c.in_ok-model.model c.drawn.result
    c.in_ok-model.ensures (rw c.if-options.false at c.drawn.ensures))
