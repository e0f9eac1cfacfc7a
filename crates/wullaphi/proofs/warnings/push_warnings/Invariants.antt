use Rattle.std.proofs.Common.{◌≡◌, ◌++◌, string_bytes, drop}
use Rattle.wullaphi.specs.Warnings.{warning_lines, warnings_from}
use Rattle.wullaphi.proofs.warnings.push_warnings.Given as goal

abbrev pub invariant-loop-process : goal.invariant-loop-process
invariant-loop-process l = string_bytes l.text ++ warnings_from l.process
    (drop l.process l.counts) ≡ string_bytes l.fn.text ++ warning_lines l.counts
