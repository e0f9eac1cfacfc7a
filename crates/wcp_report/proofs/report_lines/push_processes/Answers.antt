use Rattle.std.proofs.Common.{arith, string_bytes}
use Rattle.wcp_report.proofs.Lines.{line_more}
use Rattle.wcp_report.proofs.report_lines.push_processes.Goals as goal

pub loop-p-preserved : goal.loop-p-preserved
loop-p-preserved c =
    line_more (string_bytes c.loop-p.text)
    (string_bytes c.writeln.new.self) _ c.args.tallies.now c.loop-p.p-counter c.get-tally.result
    (c.get-tally.ensures.there (omega arith)) c.in_ok-writeln.ensures.bytes c.loop-p.invariant
