use Rattle.std.proofs.Common.{◌≡◌, ◌++◌, string_bytes, drop}
use Rattle.wcp_report.specs.ReportText.{lines_from, process_lines}
use Rattle.wcp_report.proofs.report_lines.push_processes.Given as goal

abbrev pub invariant-loop-p : goal.invariant-loop-p
invariant-loop-p l = string_bytes l.text ++ lines_from l.p-counter
    (drop l.p-counter l.tallies) ≡ string_bytes l.fn.text ++ process_lines l.tallies
