use Rattle.std.proofs.Common.{arith}
use Rattle.std.proofs.lemmas.Grind.{common_steps}
use Rattle.std.proofs.lemmas.List.Folds.{flat_map-map}
use Rattle.trace_detect.specs.Told.{seen_member}
use Rattle.trace_text.specs.Json.{member_tokens}
use Rattle.trace_text.proofs.objects.put_members.Goals as goal

pub returns : goal.returns
returns c = grind (arith, common_steps, flat_map-map member_tokens seen_member c.args.members.now)
