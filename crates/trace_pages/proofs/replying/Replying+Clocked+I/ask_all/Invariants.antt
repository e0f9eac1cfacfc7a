use Rattle.std.proofs.Common.{List}
use Rattle.trace_source.specs.Clocked.{LogInput, log_story}
use Rattle.trace_asking.specs.declared.question.Question.{Question}
use Rattle.trace_pages.specs.Replies.{CanReply, IsReplying}
use Rattle.trace_pages.proofs.replying.Replying+Clocked+I.ask_all.Given as goal

abbrev pub invariant-loop : goal.invariant-loop
invariant-loop g l =
    let story = log_story g.I.Read.remaining in
    CanReply story l.self
    × ((log : LogInput) (questions : List Question) →
    IsReplying (story log) log.form log.bytes questions l.fn.self →
    IsReplying (story log) log.form log.bytes questions l.self)
