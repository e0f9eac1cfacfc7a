-- What the program does at its edge.
use Rattle.std.specs.Prelude.{◌≡◌, ◌⊎◌, ℕ, List, is_some, true}
use Rattle.std.specs.Io.KnownBytes.{Appends, Keeps}
use Rattle.wcp_io.specs.Edge.{Edge}
use Rattle.wcp_io.specs.Prefixes.{AppendsPrefix}
use Rattle.trace_words.specs.declared.options.TraceRequest.{TraceRequest}
use Rattle.trace_words.specs.Requests.{IsRequestOf, spelled}
use Rattle.trace_words.specs.declared.options.TraceRequest.TheVariants.{Trace}
use Rattle.trace_words.specs.declared.options.Options.{Options}
use Rattle.trace_cli.specs.EachMoment.{AnswersAll}
use Rattle.trace_cli.specs.Questions.{AnswersFile}
use Rattle.trace_cli.specs.Requested.{AnswersRequest, Known}
use Rattle.trace_cli.specs.Statuses.{closed_pipe, refused}

-- The words, of which the first is the program's name, ask for this request: what `clap` finds in them.
abbrev pub AskFor : List (List ℕ) → TraceRequest → Type 0
AskFor words request = IsRequestOf (spelled words) request

-- The program answers what the words ask for, with this status: it writes the answer whole; or, where a write failed, a
-- prefix of it, with the status of that fault; or, where there is no answer, nothing, with status 2. Where a file asks
-- questions, of which these are the bytes, it answers them. Where each moment is asked for, it tells them.
pub data DoesAsked (words : List (List ℕ)) (file : Known) (edge : Edge) (status : ℕ) : Type 0 where
  Whole : (request : TraceRequest) (printed : List ℕ) → AskFor words request
      → AnswersRequest request edge.input edge.input_after printed status
      → Appends edge.output edge.output_after printed → DoesAsked words file edge status
  Prefix : (request : TraceRequest) (printed : List ℕ) (wanted : ℕ) → AskFor words request
      → AnswersRequest request edge.input edge.input_after printed wanted
      → AppendsPrefix edge.output edge.output_after printed → (status ≡ refused) ⊎ (status ≡ closed_pipe)
      → DoesAsked words file edge status
  Quiet : Keeps edge.output edge.output_after → status ≡ refused → DoesAsked words file edge status
  ByFile : (options : Options) → AskFor words (Trace options) → is_some options.questions ≡ true
      → AnswersFile options file edge status → DoesAsked words file edge status
  EachMoment : (options : Options) → AskFor words (Trace options) → options.all ≡ true
      → AnswersAll options edge status → DoesAsked words file edge status
