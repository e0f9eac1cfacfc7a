use Rattle.std.specs.Prelude.{ℕ, List, ◌++◌}
use Rattle.std.specs.List.{flat_map}
use Rattle.wcp_model.specs.declared.outcome.Outcome.{Outcome}
use Rattle.wcp_model.specs.declared.step.Reply.{Reply}
use Rattle.wcp_report.specs.ReplyText.{reply_line}
use Rattle.wcp_report.specs.ReportText.{outcome_text}

-- The text of a replay: the line of each reply, and then the text of the outcome so far.
abbrev pub replay_text : List Reply → Outcome → List ℕ
replay_text replies outcome = flat_map reply_line replies ++ outcome_text outcome
