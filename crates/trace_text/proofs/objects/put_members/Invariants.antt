use Rattle.std.proofs.Common.{take}
use Rattle.std.specs.List.{flat_map}
use Rattle.trace_detect.specs.Told.{seen_member}
use Rattle.trace_text.specs.Json.{Adds, member_tokens}
use Rattle.trace_text.proofs.objects.put_members.Given as goal

abbrev pub invariant-loop-member : goal.invariant-loop-member
invariant-loop-member l =
    Adds l.initial.out l.out (flat_map (λ member. member_tokens (seen_member member)) (take l.member-index l.members))
