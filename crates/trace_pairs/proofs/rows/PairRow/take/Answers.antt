use Rattle.trace_pairs.proofs.Words.{◌∙◌, get_or_default}
use Rattle.trace_pairs.proofs.Answering.{takes_at}
use Rattle.trace_pairs.proofs.rows.PairRow.take.Goals as goal

pub returns : goal.returns
returns c =
    let one = c.index_mut.result.now in
    takes_at c.args.self.now.searches.items c.args.at c.args.watched _ one c.take.new.self c.take.result
    (λ other. c.index_mut.ensures.value
    ∙ get_or_default c.args.self.now.searches.items c.args.at one other c.requires.at)
    c.take.ensures.watched c.take.ensures.taken
