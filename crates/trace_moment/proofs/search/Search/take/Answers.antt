use Rattle.trace_log.specs.Turns.{seen_logged}
use Rattle.trace_moment.specs.Keeping.{KeepTaken}
use Rattle.trace_moment.proofs.Words.{Bool, List, [], ◌∷◌, ◌++◌, sym, subst, Taken}
use Rattle.trace_moment.proofs.KeptSteps.{KeepTaken-known}
use Rattle.trace_moment.proofs.search.Search.take.Goals as goal

pub returns-then-self-clause-taken : goal.returns-then-self-clause-taken
returns-then-self-clause-taken c taken has next =
    let one : Taken = record { logged = seen_logged c.args.logged.now; holds = c.args.holds } in
    let keeping : List Taken → Bool → Type 0 =
    λ all known. KeepTaken all c.args.self.now.queues.items c.args.self.now.floors.items known in (
      subst (keeping (taken ++ one ∷ [])) (sym c.if-self.true)
          (KeepTaken-known taken one c.args.place c.args.self.now.queues.items c.args.self.now.floors.items next
          (subst (keeping taken) c.if-self.true has)),
      c.if-self.true,
    )
