use Rattle.std.proofs.Common.{arith}
use Rattle.std.proofs.lemmas.Grind.{common_steps}
use Rattle.std.proofs.lemmas.List.Folds.{flat_map-map}
use Rattle.trace_detect.specs.Told.{seen_run}
use Rattle.trace_text.specs.Json.{run_tokens}
use Rattle.trace_text.proofs.objects.put_runs.Goals as goal

pub returns : goal.returns
returns c = grind (arith, common_steps, flat_map-map run_tokens seen_run c.args.runs.now)
