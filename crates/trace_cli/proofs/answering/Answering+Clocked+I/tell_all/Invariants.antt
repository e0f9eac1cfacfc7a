use Rattle.std.proofs.Common.{List, ◌≤◌}
use Rattle.trace_source.specs.Clocked.{LogInput, log_story}
use Rattle.trace_asking.specs.declared.question.Question.{Question}
use Rattle.trace_text.specs.declared.format.AnswerFormat.{AnswerFormat}
use Rattle.trace_cli.specs.Questions.{CanTell, IsTellingSome}
use Rattle.trace_cli.specs.Requested.{Known}
use Rattle.trace_cli.specs.Statuses.{refused}
use Rattle.trace_cli.proofs.answering.Answering+Clocked+I.tell_all.Given as goal

abbrev pub invariant-loop : goal.invariant-loop
invariant-loop g l =
    let story = log_story g.I.Read.remaining in
    let contents = g.O.Write.contents in
    CanTell story l.self × (l.self.status ≤ refused)
    × ((log : LogInput) (format : AnswerFormat) (questions : List Question) (before : Known) →
    IsTellingSome (story log) log.form format questions log.bytes before (contents l.fn.output) l.fn.self →
    IsTellingSome (story log) log.form format questions log.bytes before (contents l.output) l.self)
