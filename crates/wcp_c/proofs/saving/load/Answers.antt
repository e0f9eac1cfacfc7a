use Rattle.std.proofs.Common.{◌≡◌, ◌∙◌, Some, map, sym, ap, subst}
use Rattle.std.specs.Prelude.{All}
use Rattle.wcp_queue.specs.Checker.{IsSoundChecker}
use Rattle.wcp_queue.specs.Parts.{state_of}
use Rattle.wcp_saved.specs.Watches.{IsWatchInRange, WatchState, watch_of, watch_spelling}
use Rattle.wcp_c.specs.Questions.{checkers_of, is_panel}
use Rattle.wcp_c.specs.Saving.{state_held}
use Rattle.wcp_c.proofs.LoadedHandles.{not_none, is_some, asked_alike, same_questions}
use Rattle.wcp_c.specs.declared.watching.Watching.{Watching}
use Rattle.wcp_c.proofs.saving.load.Goals as goal

pub returns-in_default-clause-all : goal.returns-in_default-clause-all
returns-in_default-clause-all c = λ held saved. absurd (not_none c.in_ok-parts.field-0 c.in_default.is
    (c.in_ok-parts.ensures.all (state_held held) saved.sound saved.range saved.spelled))

pub returns-in_default-2-clause-all : goal.returns-in_default-2-clause-all
returns-in_default-2-clause-all c = λ held saved.
    let same : watch_of c.in-Some.parts ≡ state_held held =
    rw c.in-Some.is at c.in_ok-parts.ensures.same (state_held held) saved.sound saved.range saved.spelled in
    let questions = ap (map state_of) c.deref.ensures.value ∙ ap (λ (watch : WatchState). watch.questions) same in
    absurd (not_none c.in_ok-checkers.field-0 c.in_default-2.is
    (c.in_ok-checkers.ensures.sound.1 (subst (All IsSoundChecker) (sym questions) saved.sound)))

pub returns-in_default-asked-clause-all : goal.returns-in_default-asked-clause-all
returns-in_default-asked-clause-all c = λ held saved.
    let same : watch_of c.in-Some.parts ≡ state_held held =
    rw c.in-Some.is at c.in_ok-parts.ensures.same (state_held held) saved.sound saved.range saved.spelled in
    let made : c.in-Some-2.checkers.items ≡ map state_of c.deref.result.now =
    rw c.in-Some-2.is at c.in_ok-checkers.ensures.value in
    let questions = made ∙ ap (map state_of) c.deref.ensures.value
    ∙ ap (λ (watch : WatchState). watch.questions) same in
    absurd (not_none c.asked.result c.in_default-asked.is (c.asked.ensures.some.1
    (asked_alike (is_panel held.questions) c.in-Some.parts.panel (checkers_of held.questions) c.in-Some-2.checkers.items
    (sym (ap (λ (watch : WatchState). watch.panel) same)) (sym questions) saved.asked)))

pub returns-clause-saved : goal.returns-clause-saved
returns-clause-saved c =
    let parts = c.in-Some.parts in
    let questions = c.in-Some-asked.questions in
    let made : c.in-Some-2.checkers.items ≡ map state_of c.deref.result.now =
    rw c.in-Some-2.is at c.in_ok-checkers.ensures.value in
    let from : c.in-Some-2.checkers.items ≡ map state_of parts.questions.items =
    made ∙ ap (map state_of) c.deref.ensures.value in
    let asked : checkers_of questions ≡ map state_of parts.questions.items = c.in-Some-asked.ensures.value ∙ from in
    let panel : is_panel questions ≡ parts.panel = c.in-Some-asked.ensures.panel in
    let held : WatchState = record {
      watch = parts.watch;
      panel = is_panel questions;
      questions = checkers_of questions;
      tags = c.of.result;
    } in
    let same : held ≡ watch_of parts =
    λ j. record { watch = parts.watch; panel = panel j; questions = asked j; tags = c.of.ensures j } in
    let spelled : c.args.bytes.now ≡ watch_spelling (watch_of parts) = rw c.in-Some.is at
    c.in_ok-parts.ensures.spelled in
    let range : IsWatchInRange (watch_of parts) = rw c.in-Some.is at c.in_ok-parts.ensures.range in
    record {
      spelled = spelled ∙ ap watch_spelling (sym same);
      sound = subst (All IsSoundChecker) (sym (c.in-Some-asked.ensures.value ∙ made)) (c.in_ok-checkers.ensures.sound.0
          (is_some c.in_ok-checkers.field-0 c.in-Some-2.checkers c.in-Some-2.is));
      asked = asked_alike parts.panel (is_panel questions) c.in-Some-2.checkers.items (checkers_of questions) (sym
          panel)
          (sym c.in-Some-asked.ensures.value)
          (c.asked.ensures.some.0 (is_some c.asked.result questions c.in-Some-asked.is));
      range = subst IsWatchInRange (sym same) range;
    }

pub returns-clause-all : goal.returns-clause-all
returns-clause-all c = λ held saved.
    let same : watch_of c.in-Some.parts ≡ state_held held =
    rw c.in-Some.is at c.in_ok-parts.ensures.same (state_held held) saved.sound saved.range saved.spelled in
    let made : c.in-Some-2.checkers.items ≡ map state_of c.deref.result.now =
    rw c.in-Some-2.is at c.in_ok-checkers.ensures.value in
    let watch : c.in-Some.parts.watch ≡ held.watch = ap (λ (watch : WatchState). watch.watch) same in
    let questions : c.in-Some-asked.questions ≡ held.questions = same_questions c.in-Some-asked.questions
    held.questions
    (c.in-Some-asked.ensures.value ∙ made ∙ ap (map state_of) c.deref.ensures.value
    ∙ ap (λ (watch : WatchState). watch.questions) same)
    (c.in-Some-asked.ensures.panel ∙ ap (λ (watch : WatchState). watch.panel) same) in
    let tags : c.of.result ≡ held.shelf = c.of.ensures ∙ ap (λ (watch : WatchState). watch.tags) same in
    ap Some (λ j. record { watch = watch j; questions = questions j; shelf = tags j })
