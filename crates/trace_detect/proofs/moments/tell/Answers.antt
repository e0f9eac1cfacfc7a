use Rattle.trace_detect.proofs.Words.{refl}
use Rattle.trace_detect.proofs.Following.{goes_behind}
use Rattle.trace_detect.proofs.moments.tell.Goals as goal

pub returns-clause-behind : goal.returns-clause-behind
returns-clause-behind c conditions told logged moment keeping is =
    goes_behind conditions told logged moment c.args.watcher.now
    (record c.args.watcher.now { search = c.go_on.new.self }) keeping is c.requires.known c.go_on.ensures.behind refl
    refl c.go_on.ensures.watched
