use Rattle.std.proofs.Common.{◌≡◌, ◌++◌, take}
use Rattle.std.specs.Prelude.{string_bytes}
use Rattle.std.specs.List.{flat_map}
use Rattle.trace_explain.specs.Texts.{over_line}
use Rattle.trace_explain.specs.Views.{watched_by}
use Rattle.trace_explain.proofs.history.History.push_each_over.Given as goal

abbrev pub invariant-loop-one : goal.invariant-loop-one
invariant-loop-one l = string_bytes l.text
    ≡ string_bytes l.fn.text ++ flat_map (over_line (watched_by l.self) l.place) (take l.one-index l.over)
