use Rattle.trace_words.proofs.OptionWords.{Some, None, sym, ◌∙◌, found_of}
use Rattle.trace_words.proofs.Found.{last_line_as}
use Rattle.trace_words.proofs.options.last_line_of.Goals as goal

pub returns-in-Some : goal.returns-in-Some
returns-in-Some c =
    c.last_line_said.ensures ∙ sym
    (last_line_as (found_of c.args.matches.now) (Some c.in-Some.word) (rw c.in-Some.is at c.get_str.ensures))

pub returns-in-None : goal.returns-in-None
returns-in-None c =
    sym (last_line_as (found_of c.args.matches.now) None (rw c.in-None.is at c.get_str.ensures))
