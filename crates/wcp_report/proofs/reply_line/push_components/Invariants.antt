use Rattle.std.proofs.Common.{◌≡◌, ◌∷◌, ◌++◌, string_bytes, take}
use Rattle.std.specs.Fmt.{decimal}
use Rattle.std.specs.List.{flat_map}
use Rattle.wcp_report.proofs.reply_line.push_components.Given as goal

abbrev pub invariant-loop-p : goal.invariant-loop-p
invariant-loop-p l =
    string_bytes l.text ≡ string_bytes l.fn.text ++ flat_map (λ component. 32 ∷ decimal component) (take l.p l.clock)
