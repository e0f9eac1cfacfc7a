-- What a rewriting reader has left to give.
use Rattle.std.specs.Prelude.{ℕ, ◌+◌, List, [], drop, Option, Some, option_map}
use Rattle.std.specs.Io.KnownBytes.{prepend_known}
use Rattle.wcp_io.specs.Lines.{lines_of}
use Rattle.wcp_io.specs.Reader.{left}
use Rattle.trace_log.specs.declared.turn.Form.{Form}
use Rattle.trace_rewrite.specs.declared.reader.Stage.{Stage}
use Rattle.trace_rewrite.specs.declared.reader.Stage.TheVariants.{Reading, Saying, Failed, Ending, Over}
use Rattle.trace_rewrite.specs.declared.reader.RewritingReader.{RewritingReader}
use Rattle.trace_rewrite.specs.Saying as spec
use Rattle.trace_rewrite.specs.Given.{read_lines, said_from, up_to_long}

-- What is said of the lines that are read behind so many, of these bytes.
abbrev pub said_of_bytes : spec.Saying → Form → ℕ → List ℕ → List ℕ
said_of_bytes say form count bytes = said_from say form.first count (read_lines form.last count (lines_of bytes))

-- What is still to be said, by the bytes that are left and the line that was read.
abbrev pub to_be_said : Stage → spec.Saying → Form → ℕ → List ℕ → Option (List ℕ) → Option (List ℕ)
to_be_said Reading say form count line known = option_map (said_of_bytes say form count) known
to_be_said Saying say form count line known = option_map (λ bytes.
    said_from say form.first count (up_to_long line (read_lines form.last (count + 1) (lines_of bytes)))) known
to_be_said Failed say form count line known = option_map (said_of_bytes say form count) (prepend_known line known)
to_be_said Ending say form count line known = Some (say (count + 1) [])
to_be_said Over say form count line known = Some []

-- What was said and not taken yet.
abbrev pub waiting : {I R : Type 0} → RewritingReader I R → List ℕ
waiting reader = drop reader.taken reader.said.items

module _ {I R : Type 0} (remaining : I → Option (List ℕ)) (says : R → spec.Saying) where
  -- What waits, and what is still to be said.
  abbrev pub said_remaining : RewritingReader I R → Option (List ℕ)
  said_remaining reader = prepend_known (waiting reader)
      (to_be_said reader.stage (says reader.rewriter) reader.form reader.count reader.lines.line.items
      (left reader.lines (remaining reader.input)))
