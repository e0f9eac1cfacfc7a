use Rattle.trace_moment.proofs.Words.{◌∙◌, ap}
use Rattle.trace_moment.specs.Kept.{watched_in}
use Rattle.trace_moment.proofs.KeptRest.{KeepAllTaken-behind, watched_without}
use Rattle.trace_moment.proofs.next_moment.go_behind.Goals as goal

pub returns-clause-behind : goal.returns-clause-behind
returns-clause-behind c taken moment has is =
    KeepAllTaken-behind taken moment c.args.queues.now c.eliminate.new.queues c.args.floors.now c.raise_all.new.floors
    c.eliminate.new.floors c.all_stand.result has is
    (rw c.drop_heads.ensures at c.raise_all.ensures) (rw c.drop_heads.ensures at c.eliminate.ensures.left)
    c.eliminate.ensures.settled c.all_stand.ensures

pub returns-clause-watched : goal.returns-clause-watched
returns-clause-watched c = c.eliminate.ensures.watched ∙ ap watched_in c.drop_heads.ensures
    ∙ watched_without c.args.queues.now
