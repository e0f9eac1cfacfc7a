use Rattle.trace_words.proofs.OptionWords.{Some, None, sym, ◌∙◌, found_of}
use Rattle.trace_words.proofs.Found.{first_line_as}
use Rattle.trace_words.proofs.options.first_line_of.Goals as goal

pub returns-in-Some : goal.returns-in-Some
returns-in-Some c =
    c.line_said.ensures ∙ sym
    (first_line_as (found_of c.args.matches.now) (Some c.in-Some.word) (rw c.in-Some.is at c.get_str.ensures))

pub returns-in-None : goal.returns-in-None
returns-in-None c =
    sym (first_line_as (found_of c.args.matches.now) None (rw c.in-None.is at c.get_str.ensures))
