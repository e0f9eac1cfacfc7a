use Rattle.trace_moment.specs.declared.search.Search.{Search}
use Rattle.trace_moment.specs.Search.{watched_by, KeepsEarliest}
use Rattle.trace_moment.specs.Keeping.{KeepTaken}
use Rattle.trace_moment.specs.Standing.{HasNoMoment}
use Rattle.trace_moment.proofs.Words.{Bool, sym, subst, MatchBool}
use Rattle.trace_moment.proofs.KeptSteps.{kept_end_known, kept_end_searching}
use Rattle.trace_moment.proofs.search.Search.end.Goals as goal
use Rattle.trace_moment.proofs.search.Search.end.Goals.{then-not-self, else-not-self}

pub returns-clause-moment : goal.returns-clause-moment
returns-clause-moment c taken has =
    let old : Search = c.args.self.now in
    let answered : Bool → Type 0 =
    λ known. MatchBool known (KeepsEarliest taken old) (HasNoMoment (watched_by old) taken) in
    let ended : Search → Type 0 =
    λ search. MatchBool search.known (KeepsEarliest taken search) (HasNoMoment (watched_by search) taken) in
    let keeping : Bool → Type 0 = λ known. KeepTaken taken old.queues.items old.floors.items known in
    elim c.if-not-self.branch [
      | then-not-self w ↦ subst ended (sym w.self-is) (kept_end_searching taken old.queues.items old.floors.items
          w.have_firsts-self.result (rw w.deref.ensures.value at w.have_firsts-self.ensures)
          (subst keeping w.if-not-self.true has))
      | else-not-self w ↦ subst ended (sym w.self-is) (subst answered (sym w.if-not-self.false)
          (kept_end_known taken old.queues.items old.floors.items (subst keeping w.if-not-self.false has)))
    ]
