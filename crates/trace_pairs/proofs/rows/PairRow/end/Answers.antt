use Rattle.trace_pairs.proofs.Words.{◌∙◌, get_or_default}
use Rattle.trace_pairs.proofs.Answering.{ends_at}
use Rattle.trace_pairs.proofs.rows.PairRow.end.Goals as goal

pub returns : goal.returns
returns c =
    let one = c.index_mut.result.now in
    ends_at c.args.self.now.searches.items c.args.at one c.end.new.self c.end.result
    (λ other. c.index_mut.ensures.value
    ∙ get_or_default c.args.self.now.searches.items c.args.at one other c.requires)
    c.end.ensures.watched c.end.ensures.known c.end.ensures.none c.end.ensures.moment
