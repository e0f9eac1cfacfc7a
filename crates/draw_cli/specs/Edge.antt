-- What the program does at its edge.
use Rattle.std.specs.Prelude.{◌≡◌, ◌⊎◌, ℕ, List, Result, Ok, Err}
use Rattle.std.specs.Io.KnownBytes.{Appends, Keeps}
use Rattle.wcp_io.specs.Edge.{Edge}
use Rattle.wcp_io.specs.Prefixes.{AppendsPrefix}
use Rattle.wcp_io.specs.declared.io_fault.IoFault.TheVariants as io
use Rattle.draw_cli.specs.declared.fault.DrawFault.{DrawFault}
use Rattle.draw_cli.specs.declared.fault.DrawFault.TheVariants as fault
use Rattle.draw_cli.specs.declared.words.DrawRequest.{DrawRequest}
use Rattle.draw_cli.specs.Answers.{AnswersRequest}

-- The exit status where there is no answer.
abbrev pub refused : ℕ
refused = 2

-- The exit status where nobody reads the output any more: that of a program which a closed pipe has ended.
abbrev pub closed_pipe : ℕ
closed_pipe = 141

-- The exit status of a fault.
abbrev pub status_of_fault : DrawFault → ℕ
status_of_fault (fault.Io io.Closed) = closed_pipe
status_of_fault _ = refused

-- The program answers a request, with this status: it writes the answer whole; or, where a write failed, a prefix of
-- it, with the status of that fault; or, where there is no answer, nothing, with status 2.
pub data DoesAsked (request : DrawRequest) (edge : Edge) (status : ℕ) : Type 0 where
  Whole : (printed : List ℕ) → AnswersRequest request edge.input edge.input_after printed status
      → Appends edge.output edge.output_after printed → DoesAsked request edge status
  Prefix : (printed : List ℕ) (wanted : ℕ) → AnswersRequest request edge.input edge.input_after printed wanted
      → AppendsPrefix edge.output edge.output_after printed → (status ≡ refused) ⊎ (status ≡ closed_pipe)
      → DoesAsked request edge status
  Quiet : Keeps edge.output edge.output_after → status ≡ refused → DoesAsked request edge status

-- The exit status: that of the answer, or of the fault where there is none.
abbrev pub status_after : Result ℕ DrawFault → ℕ
status_after (Ok status) = status
status_after (Err fault) = status_of_fault fault
