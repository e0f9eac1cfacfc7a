use Rattle.std.proofs.Common.{[], subst}
use Rattle.std.proofs.lemmas.List.Elements.{All-cons, All-nil}
use Rattle.std.specs.Prelude.{All}
use Rattle.wcp_queue.specs.Checker.{IsSoundChecker}
use Rattle.wcp_c.proofs.saving.parts_of.Goals as goal
use Rattle.wcp_c.proofs.saving.parts_of.Goals.{in-One+in_ok-parts-in-One+in_ok-push-in-One}
use Rattle.wcp_c.proofs.saving.parts_of.Goals.{in-Many+in_ok-put_parts-in-Many}

pub returns-clause-sound : goal.returns-clause-sound
returns-clause-sound c = elim c.match-questions.branch [
  | in-One+in_ok-parts-in-One+in_ok-push-in-One w ↦ rw w.in-One.is
      (All-cons IsSoundChecker w.in-One.checker []
      (subst IsSoundChecker w.in_ok-parts-in-One.ensures.value w.in_ok-parts-in-One.ensures.sound)
      (All-nil IsSoundChecker))
  | in-Many+in_ok-put_parts-in-Many w ↦ rw w.in-Many.is
      (subst (All IsSoundChecker) w.panel.ensures.value w.in_ok-put_parts-in-Many.ensures.sound)
]
