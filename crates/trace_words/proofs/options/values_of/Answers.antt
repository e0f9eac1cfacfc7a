use Rattle.trace_words.proofs.OptionWords.{Some, None, sym, ◌∙◌, ap, IfOk-weaker, found_of, seen_texts}
use Rattle.trace_words.proofs.Found.{values_as}
use Rattle.trace_words.proofs.options.values_of.Goals as goal

pub returns-in-Some : goal.returns-in-Some
returns-in-Some c =
    let are = values_as (found_of c.args.matches.now) c.args.name.now (Some c.in-Some.values)
    (rw c.in-Some.is at c.get_strs.ensures) in
    IfOk-weaker c.from_slice.result _ _ (λ values is. ap seen_texts is ∙ sym are) c.from_slice.ensures.items

pub returns-in-None : goal.returns-in-None
returns-in-None c =
    let are = values_as (found_of c.args.matches.now) c.args.name.now None (rw c.in-None.is at c.get_strs.ensures) in
    ap seen_texts c.new.ensures.items ∙ sym are
