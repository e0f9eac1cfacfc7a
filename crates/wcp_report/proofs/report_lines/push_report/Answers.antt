use Rattle.std.proofs.Common.{rules, append_assoc}
use Rattle.wcp_report.specs.ReportText.{outcome_text}
use Rattle.wcp_report.proofs.report_lines.push_report.Goals as goal

pub returns : goal.returns
unfolding outcome_text
returns c = search (rules, append_assoc)
