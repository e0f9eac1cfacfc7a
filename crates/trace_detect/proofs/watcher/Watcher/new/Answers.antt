use Rattle.trace_detect.proofs.Words.{◌∙◌, refl, sym, subst, HasTaken, HaveDistinctHosts}
use Rattle.trace_detect.proofs.Watches.{none_taken, watches_distinct}
use Rattle.trace_detect.proofs.watcher.Watcher.new.Goals as goal

pub new-requires-clause-distinct : goal.new-requires-clause-distinct
new-requires-clause-distinct c =
    subst HaveDistinctHosts (sym c.in_ok-watched_of.ensures) (watches_distinct c.args.conditions.now c.requires)

pub returns : goal.returns
returns c = record {
  by = refl;
  hosts = c.requires;
  judges = c.in_ok-judges.ensures;
  watched = c.in_ok-search.ensures.watched ∙ c.in_ok-watched_of.ensures;
  passed = tt;
  taken = subst (λ taken. HasTaken taken c.in_ok-search.search)
      (sym (none_taken c.args.conditions.now)) c.in_ok-search.ensures.taken;
}
