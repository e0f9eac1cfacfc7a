use Rattle.trace_pairs.proofs.pair_search.PairSearch.moment.Goals as goal

pub returns : goal.returns
returns c row one host moment keeps = record {
  of_first = c.in_ok-first.ensures row one host moment keeps;
  of_second = c.in_ok-second.ensures row one host moment keeps;
}
