use Rattle.wcp_script.proofs.Words.{sym, seen_line}
use Rattle.wcp_script.specs.declared.fault.FaultKind.TheVariants as kind
use Rattle.wcp_script.proofs.Questions.{ask_ok}
use Rattle.wcp_script.proofs.ScheduleWords.{step_in_is}
use Rattle.wcp_script.proofs.schedule_line.step_in.Goals as goal

pub returns-in-Three : goal.returns-in-Three
returns-in-Three c =
    step_in_is (seen_line c.args.line) _ c.step_of_two.result
    (ask_ok c.args.line.ended kind.Line tt (sym c.in_ok-ask.ensures)) c.in-Three.ensures c.step_of_two.ensures
