use Rattle.std.proofs.Common.{arith}
use Rattle.std.proofs.lemmas.Grind.{common_steps}
use Rattle.std.proofs.lemmas.List.Folds.{flat_map-map}
use Rattle.trace_detect.specs.Told.{seen_count}
use Rattle.trace_text.specs.Lines.{host_line}
use Rattle.trace_text.proofs.lines.count_lines.Goals as goal

pub returns : goal.returns
returns c = grind (arith, common_steps, flat_map-map host_line seen_count c.args.counts.now)
