use Rattle.std.specs.Prelude.{◌≡◌, ℕ, List, Result, Ok, Err}
use Rattle.std.specs.Io.KnownBytes.{Appends, Keeps}
use Rattle.wcp_io.specs.Edge.{Edge}
use Rattle.wcp_io.specs.Prefixes.{AppendsPrefix}
use Rattle.wcp_cli.specs.declared.fault.Fault.{Fault}
use Rattle.wcp_cli.specs.declared.words.Request.{Request}
use Rattle.wcp_cli.specs.RequestAnswers.{IsAnswerTo, Reads}
use Rattle.wcp_cli.specs.Words.{HasRing, IsSameRequest}

-- The program does this request at its edge, with this status: it writes the answer whole; or, where a write failed, a
-- prefix of the answer, with status 2; or, where there is no answer, nothing, with status 2.
pub data Does (request : Request) (edge : Edge) (status : ℕ) : Type 0 where
  Whole : (printed : List ℕ) → IsAnswerTo request edge.input edge.input_after printed status
      → Appends edge.output edge.output_after printed → Does request edge status
  Prefix : (printed : List ℕ) (wanted : ℕ) → IsAnswerTo request edge.input edge.input_after printed wanted
      → AppendsPrefix edge.output edge.output_after printed → status ≡ 2 → Does request edge status
  Quiet : Reads request edge.input edge.input_after → Keeps edge.output edge.output_after → status ≡ 2
      → Does request edge status

-- The program does some request, and one for a ring only within the ranges.
pub record DoesSome (edge : Edge) (status : ℕ) : Type 0 where
  pub request : Request
  pub in_ranges : HasRing request
  pub did : Does request edge status

-- The program does the request that was asked for.
pub record DoesAsked (asked : Request) (edge : Edge) (status : ℕ) : Type 0 where
  pub request : Request
  pub same : IsSameRequest asked request
  pub did : Does request edge status

-- The exit status: that of the answer, or 2 where there is none.
abbrev pub status_after : Result ℕ Fault → ℕ
status_after (Ok status) = status
status_after (Err fault) = 2
