use Rattle.trace_pairs.proofs.Words.{refl, subst, List, Lasting}
use Rattle.trace_pairs.specs.declared.hosts.MatchedHost.{MatchedHost}
use Rattle.trace_pairs.specs.Searching.{StandWithNew}
use Rattle.trace_pairs.specs.Taking.{lasting_of}
use Rattle.trace_pairs.proofs.pair_search.PairSearch.add.Goals as goal

pub returns : goal.returns
returns c =
    let name = c.args.host.now in
    let searches = c.in_ok-row.row.searches.items in
    record {
      host = c.in_ok-added.added;
      row = c.in_ok-row.row;
      hosts = c.in_ok-push-2.ensures.items;
      rows = c.in_ok-push.ensures.items;
      knows = c.in_ok-added.ensures;
      stand = subst (λ (l : Lasting). StandWithNew l c.args.self.now.hosts.items name searches) c.lasting_of.ensures
          (subst (λ (hosts : List MatchedHost). StandWithNew c.lasting_of.result hosts name searches)
          c.deref.ensures.value c.in_ok-row.ensures);
      names = refl;
      condition = refl;
    }
