use Rattle.trace_detect.proofs.Words.{refl}
use Rattle.trace_detect.proofs.Following.{tells_known}
use Rattle.trace_detect.proofs.moments.Moments.answer_known.Goals as goal

pub returns-clause-answer : goal.returns-clause-answer
returns-clause-answer c form conditions input left told at way =
    tells_known form conditions input left told at c.args.self.now
    (record c.args.self.now { watcher = c.tell.new.watcher; known = c.tell.new.known }) c.in_ok-answer.answer way
    c.in_ok-answer.ensures.known refl refl refl c.requires.known
    c.in_ok-answer.ensures.behind c.in_ok-answer.ensures.told
