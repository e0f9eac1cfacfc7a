use Rattle.std.proofs.Common.{Bool, List, [], ◌∷◌, ◌++◌, sym, subst}
use Rattle.trace_log.specs.Turns.{seen_logged}
use Rattle.trace_moment.specs.Moment.{Taken}
use Rattle.trace_runs.specs.Keeping.{KeepTaken}
use Rattle.trace_runs.proofs.KeptSince.{since_next}
use Rattle.trace_runs.proofs.search.RunSearch.take.Goals as goal

pub returns-then-self-clause-taken : goal.returns-then-self-clause-taken
returns-then-self-clause-taken c taken has next =
    let one : Taken = record { logged = seen_logged c.args.logged.now; holds = c.args.holds } in
    let keeping : List Taken → Bool → Type 0 = λ all known. KeepTaken all c.args.self.now.queues.items known in (
      subst (keeping (taken ++ one ∷ [])) (sym c.if-self.true)
          (since_next taken c.args.self.now.queues.items one next.follows (subst (keeping taken) c.if-self.true has)),
      c.if-self.true,
    )
