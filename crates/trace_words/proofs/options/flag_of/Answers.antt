use Rattle.trace_words.proofs.OptionWords.{Some, None, sym, ◌∙◌, found_of}
use Rattle.trace_words.proofs.Found.{flag_as}
use Rattle.trace_words.proofs.options.flag_of.Goals as goal

pub returns-in-Some : goal.returns-in-Some
returns-in-Some c =
    c.eq.ensures ∙ sym
    (flag_as (found_of c.args.matches.now) c.args.name.now (Some c.in-Some.text) (rw c.in-Some.is at c.get_str.ensures))

pub returns-in-None : goal.returns-in-None
returns-in-None c =
    sym (flag_as (found_of c.args.matches.now) c.args.name.now None (rw c.in-None.is at c.get_str.ensures))
