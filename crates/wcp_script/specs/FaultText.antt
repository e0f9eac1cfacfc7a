-- What the fault of a text is shown as.
use Rattle.std.specs.Prelude.{ℕ, List, ◌++◌, codes}
use Rattle.std.specs.Fmt.{decimal}
use Rattle.wcp_script.specs.declared.fault.FaultKind.{FaultKind}
use Rattle.wcp_script.specs.declared.fault.FaultKind.TheVariants as kind
use Rattle.wcp_script.specs.declared.fault.ScriptFault.{ScriptFault}

-- The word for what is wrong.
abbrev pub fault_word : FaultKind → List ℕ
fault_word kind.Header = codes "header"
fault_word kind.Line = codes "line"
fault_word kind.Number = codes "number"
fault_word kind.Plan = codes "plan"
fault_word kind.Process = codes "process"
fault_word kind.Stuck = codes "stuck"
fault_word kind.TooLong = codes "toolong"

-- With its line.
abbrev pub fault_text : ScriptFault → List ℕ
fault_text fault = codes "line " ++ (decimal fault.line ++ (codes ": " ++ fault_word fault.kind))
