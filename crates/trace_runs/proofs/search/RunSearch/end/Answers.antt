use Rattle.std.proofs.Common.{sym, subst, MatchBool}
use Rattle.trace_runs.specs.declared.search.RunSearch.{RunSearch}
use Rattle.trace_runs.specs.Search.{KeepsAtEnd, watched_by}
use Rattle.trace_runs.specs.Runs.{HasNoRuns}
use Rattle.trace_runs.proofs.KeptSince.{ended_known, ended_searching}
use Rattle.trace_runs.proofs.search.RunSearch.end.Goals as goal
use Rattle.trace_runs.proofs.search.RunSearch.end.Goals.{then-not-self, else-not-self}

pub returns-clause-runs : goal.returns-clause-runs
returns-clause-runs c taken has =
    let old : RunSearch = c.args.self.now in
    let ended : RunSearch → Type 0 = λ search. MatchBool search.known (KeepsAtEnd old.known taken search)
    (HasNoRuns (watched_by search) taken) in
    elim c.if-not-self.branch [
      | then-not-self w ↦ subst ended (sym w.self-is) (ended_searching taken old.queues.items old.known
          w.have_firsts-self.result w.if-not-self.true (rw w.deref.ensures.value at w.have_firsts-self.ensures) has)
      | else-not-self w ↦ subst ended (sym w.self-is)
          (ended_known taken old.queues.items old.known w.if-not-self.false has)
    ]
