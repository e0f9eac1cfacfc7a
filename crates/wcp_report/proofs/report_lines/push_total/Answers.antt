use Rattle.std.proofs.Common.{arith}
use Rattle.wcp_report.proofs.Lines.{sum_more}
use Rattle.wcp_report.proofs.report_lines.push_total.Goals as goal

pub loop-p-preserved : goal.loop-p-preserved
loop-p-preserved c =
    let here = c.get-tally.ensures.there (omega arith) in
    let emitted = sum_more (λ tally. tally.emitted) c.args.tallies.now c.loop-p.p c.get-tally.result here in
    let taken = sum_more (λ tally. tally.taken) c.args.tallies.now c.loop-p.p c.get-tally.result here in
    record {
      emitted = omega (arith, emitted);
      taken = omega (arith, taken);
      emitted_bound = omega (arith, c.get-tally.type_inv);
      taken_bound = omega (arith, c.get-tally.type_inv);
    }
