use Rattle.std.proofs.Common.{◌≡◌, refl, subst, ap, ◌∙◌}
use Rattle.wcp_queue.specs.Checker.{CheckerState, taken_of}
use Rattle.wcp_clock.specs.declared.note.Note.TheVariants.{Lost}
use Rattle.wcp_c.specs.Questions.{first_of, TakesNote}
use Rattle.wcp_c.specs.Checkers.{lost_item}
use Rattle.wcp_c.specs.declared.watching.Watching.{Watching}
use Rattle.wcp_c.proofs.TakenTags.{takes_untagged}
use Rattle.wcp_c.proofs.watching.Watching.lose.Goals as goal

pub returns-clause-tagged : goal.returns-clause-tagged
returns-clause-tagged c =
    let old = c.args.self.now in
    let new : Watching = record { watch = old.watch; questions = c.take.new.self; shelf = old.shelf } in
    let count : c.in-Ok.count ≡ taken_of (first_of old.questions) c.args.p =
    c.in-Ok.ensures.1 ∙ c.taken.ensures.value
    ∙ ap (λ (one : CheckerState). taken_of one c.args.p) c.first-first.ensures.value in
    λ _. takes_untagged old new (lost_item (first_of old.questions) c.args.p) 0
    (subst (λ n. TakesNote old.questions c.take.new.self (record { from = c.args.p; note = Lost n })) count
    c.in-Ok-take.ensures.taken) refl refl
