use Rattle.std.proofs.Common.{◌≡◌, ◌++◌, string_bytes, take, codes}
use Rattle.wcp_report.specs.ReportText.{member_text}
use Rattle.std.specs.List.{flat_map}
use Rattle.wcp_report.proofs.report_lines.push_cut.Given as goal

abbrev pub invariant-loop-p : goal.invariant-loop-p
invariant-loop-p l =
    string_bytes l.text ≡ string_bytes l.fn.text ++ (codes "found" ++ flat_map member_text (take l.p l.cut))
