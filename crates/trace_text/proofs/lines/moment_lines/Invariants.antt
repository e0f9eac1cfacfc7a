use Rattle.std.proofs.Common.{◌≡◌, ◌++◌, take}
use Rattle.std.specs.List.{flat_map}
use Rattle.std.specs.Prelude.{string_bytes}
use Rattle.trace_detect.specs.Told.{seen_member}
use Rattle.trace_text.specs.Lines.{member_line}
use Rattle.trace_text.proofs.lines.moment_lines.Given as goal

abbrev pub invariant-loop-member : goal.invariant-loop-member
invariant-loop-member l = string_bytes l.text
    ≡ l.head ++ flat_map (λ member. member_line (seen_member member)) (take l.member-index l.members)
