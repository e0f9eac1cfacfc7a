-- The exit statuses of the program.
use Rattle.std.specs.Prelude.{ℕ, Result, Ok, Err}
use Rattle.wcp_io.specs.declared.io_fault.IoFault.TheVariants as io
use Rattle.trace_cli.specs.declared.fault.TraceFault.{TraceFault}
use Rattle.trace_cli.specs.declared.fault.TraceFault.TheVariants as fault

-- The exit status where there is no answer.
abbrev pub refused : ℕ
refused = 2

-- The exit status where nobody reads the output any more: that of a program which a closed pipe has ended.
abbrev pub closed_pipe : ℕ
closed_pipe = 141

-- The exit status of a fault.
abbrev pub status_of : TraceFault → ℕ
status_of (fault.Io io.Closed) = closed_pipe
status_of _ = refused

-- The exit status: that of the answer, or of the fault where there is none.
abbrev pub status_after : Result ℕ TraceFault → ℕ
status_after (Ok status) = status
status_after (Err fault) = status_of fault
