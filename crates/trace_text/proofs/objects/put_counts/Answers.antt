use Rattle.std.proofs.Common.{arith}
use Rattle.std.proofs.lemmas.Grind.{common_steps}
use Rattle.std.proofs.lemmas.List.Folds.{flat_map-map}
use Rattle.trace_detect.specs.Told.{seen_count}
use Rattle.trace_text.specs.Json.{host_tokens}
use Rattle.trace_text.proofs.objects.put_counts.Goals as goal

pub returns : goal.returns
returns c = grind (arith, common_steps, flat_map-map host_tokens seen_count c.args.counts.now)
