use Rattle.wcp_world.proofs.Words.{◌≡◌, ℕ, ◌+◌, ◌<◌, ◌≤◌, Result, Ok, Err, IfOk, OnErr, List, [], ◌∷◌, ◌++◌, length}
use Rattle.wcp_world.proofs.Words.{take, sym, ap, ◌∙◌, subst, subst₂, ⊎_elim, append-nil, arith, le_refl, cases_lt}
use Rattle.wcp_world.proofs.Words.{flat_map-append, length_push, take-append-le, take_at, take_all, map_push}
use Rattle.wcp_world.proofs.Words.{slice_get_within, Plan, Step, Reply, Answered, accepted, items_taken, accepted_by}
use Rattle.wcp_world.proofs.Words.{taken_by, computation, IsReply, AreReplies, ArePrefixesOfEmissions, AreInTurn}
use Rattle.wcp_world.proofs.Words.{ClocksRise, IsReportByClocks, get_push, WorldState, Stands, IsReached, MakesStep}
use Rattle.wcp_world.proofs.Words.{IsWorldOf, IsTallyOf, AreTalliesOf, HasAnswered, nothing_follows, processes}
use Rattle.wcp_world.proofs.Words.{StandsForItems, Item, notes_taken}
use Rattle.wcp_world.proofs.WorldAfterStep.{taken_prefixes, handed_in_turn}
use Rattle.wcp_world.proofs.LostMarks.{prefix_in_turn, report_without, rises_with}
use Rattle.wcp_model.proofs.NotesInTurn.{emissions_in_turn}
use Rattle.wcp_model.specs.declared.outcome.Tally.{Tally}
use Rattle.wcp_model.specs.declared.outcome.Report.{Report}
use Rattle.wcp_model.specs.Cut.{IsLeastCut}
use Rattle.wcp_model.specs.Headline.{IsHeadline}
use Rattle.wcp_model.proofs.GrowthLaws.{computation_append, early_find_holds}
use Rattle.wcp_model.proofs.RisingClocks.{clocks_rise}
use Rattle.wcp_model.proofs.TakenPrefixes.{report_of_taken, found_is_least, report_when_drained}

-- a history with one more step and its reply
accepted_push : (history : List Answered) (a : Answered)
    → accepted (history ++ a ∷ []) ≡ accepted history ++ accepted_by a.step a.reply
accepted_push history a = flat_map-append _ history (a ∷ [])
    ∙ ap (λ e. accepted history ++ e) (append-nil (accepted_by a.step a.reply))

taken_push : (history : List Answered) (a : Answered)
    → items_taken (history ++ a ∷ []) ≡ items_taken history ++ taken_by a.reply
taken_push history a = flat_map-append _ history (a ∷ [])
    ∙ ap (λ e. items_taken history ++ e) (append-nil (taken_by a.reply))

pub replies_push : (plan : Plan) (history : List Answered) (a : Answered) → AreReplies plan history
    → IsReply plan (accepted history) a.step a.reply → AreReplies plan (history ++ a ∷ [])
replies_push plan history a are is place b at =
    grind (arith, slice_get_within, take-append-le, take_at, get_push history a b place at)

-- after each front of a longer history what was taken is a prefix of what was emitted
abbrev pub HasPrefixes : Plan → List Answered → Type 0
HasPrefixes plan history =
    ArePrefixesOfEmissions plan.n plan.watched plan.flag (computation (accepted history)) (items_taken history)

prefixes_push : (plan : Plan) (history : List Answered) (a : Answered)
    → ((place : ℕ) → HasPrefixes plan (take place history)) → HasPrefixes plan (history ++ a ∷ []) → (place : ℕ)
    → HasPrefixes plan (take place (history ++ a ∷ []))
prefixes_push plan history a before now place = ⊎_elim
    (λ (lt : place < length history + 1). subst (HasPrefixes plan)
    (sym (take-append-le place history (a ∷ []) (omega (arith, lt)))) (before place))
    (λ (ge : length history + 1 ≤ place). subst (HasPrefixes plan)
    (sym (take_all place (history ++ a ∷ []) (omega (arith, ge, length_push history a)))) now)
    (cases_lt place (length history + 1))

-- a world after a step that was answered
pub world_push : (plan : Plan) (history : List Answered) (old new : WorldState) (s : Step) (reply : Reply)
    → MakesStep old s reply new → IsWorldOf plan history old
    → IsWorldOf plan (history ++ record { step = s; reply = reply } ∷ []) new
world_push plan history old new s reply answers is =
    let a : Answered = record { step = s; reply = reply } in
    let told = answers plan (accepted history) (items_taken history) is.stands in
    let stands : Stands plan (accepted (history ++ a ∷ [])) (items_taken (history ++ a ∷ [])) new =
    rw (accepted_push history a, taken_push history a) told.1 in
    record {
      replies = replies_push plan history a is.replies told.0;
      prefixes = prefixes_push plan history a is.prefixes
          (taken_prefixes plan (accepted (history ++ a ∷ [])) (items_taken (history ++ a ∷ [])) new stands);
      stands = stands;
    }

-- a world before any step
pub fresh_world : (plan : Plan) (w : WorldState) → Stands plan [] [] w → IsWorldOf plan [] w
fresh_world plan w stands = record {
  replies = λ place a at. cc at;
  prefixes = λ place. subst (HasPrefixes plan) (sym (take_all place [] (omega arith)))
      (taken_prefixes plan [] [] w stands);
  stands = stands;
}

pub world_after : {E : Type 0} (result : Result Reply E) (old new : WorldState) (s : Step)
    → IfOk result (λ reply. MakesStep old s reply new) →
    IfOk result (λ reply. (plan : Plan) (history : List Answered) → IsWorldOf plan history old
    → IsWorldOf plan (history ++ record { step = s; reply = reply } ∷ []) new)
world_after (Ok reply) old new s answers = λ plan history is. world_push plan history old new s reply answers is
world_after (Err e) old new s answers = answers

-- a network stays one that stands for something
pub reached_after : {E : Type 0} (result : Result Reply E) (old new : WorldState) (s : Step)
    → IfOk result (λ reply. MakesStep old s reply new) → OnErr result (new ≡ old) → IsReached old → IsReached new
reached_after (Ok reply) old new s answers same reached = (
  reached.0,
  reached.1 ++ accepted_by s reply,
  reached.2 ++ taken_by reply,
  (answers reached.0 reached.1 reached.2 reached.3).1,
)
reached_after (Err e) old new s answers same reached = subst IsReached (sym same) reached

-- one more tally
pub tallies_push : (w : WorldState) (p : ℕ) (tallies : List Tally) (tally : Tally) → AreTalliesOf w p tallies
    → ((plan : Plan) (history : List Answered) → IsWorldOf plan history w
    → IsTallyOf plan.n plan.watched plan.flag (computation (accepted history)) (items_taken history) p tally) →
    AreTalliesOf w (p + 1) (tallies ++ tally ∷ [])
tallies_push w p tallies tally are is = (
  length_push tallies tally ∙ ap (λ k. k + 1) are.0,
  grind (arith, get_push),
)

-- one more step was answered
pub answered_push : (plan : Plan) (steps : List Step) (replies : List Reply) (old new : WorldState) (s : Step)
    (reply : Reply) → HasAnswered plan steps replies old →
    ((plan : Plan) (history : List Answered) → IsWorldOf plan history old → IsWorldOf plan (history
    ++ record { step = s; reply = reply } ∷ []) new) → HasAnswered plan (steps ++ s ∷ []) (replies ++ reply ∷ []) new
answered_push plan steps replies old new s reply has more = grind (arith, map_push, more plan has.history has.is)

prefixes_now : (plan : Plan) (history : List Answered) (w : WorldState) → IsWorldOf plan history w
    → ArePrefixesOfEmissions plan.n plan.watched plan.flag (computation (accepted history)) (items_taken history)
prefixes_now plan history w is = subst (λ h. ArePrefixesOfEmissions plan.n plan.watched plan.flag
    (computation (accepted h)) (items_taken h)) (take_all (length history) history (le_refl (length history)))
    (is.prefixes (length history))

-- the report by clocks of what a world's checker took is that of the headline
headline_holds : (plan : Plan) (history : List Answered) (w : WorldState) (report : Report) → IsWorldOf plan history w
    → IsReportByClocks plan.n plan.watched (items_taken history) report → IsHeadline plan history report
headline_holds plan history w report is by_clocks =
    let c = computation (accepted history) in
    let items = items_taken history in
    let fronts = prefixes_now plan history w is in
    record {
      replies = is.replies;
      taken_is_prefix = is.prefixes;
      none_after_close = λ p count before after within taken. nothing_follows before after count
          (let (rest, are) = fronts p within in subst AreInTurn taken
          (prefix_in_turn (notes_taken p items) rest (emissions_in_turn plan.n plan.watched plan.flag c p _ are)));
      of_what_was_taken = report_of_taken plan.n plan.watched plan.flag c items fronts report by_clocks;
      when_drained =
          λ drained. report_when_drained plan.n plan.watched plan.flag c items fronts drained report by_clocks;
      found_early =
          λ cut more found. subst (λ d. IsLeastCut plan.n plan.watched d cut) (sym (computation_append history more))
          (early_find_holds plan.n plan.watched c (computation (accepted more)) cut (found_is_least plan.n plan.watched
          plan.flag c items fronts cut (subst (IsReportByClocks plan.n plan.watched items) found by_clocks)));
    }

-- and the checker's report is exact, since its clocks rise
pub report_holds : (plan : Plan) (history : List Answered) (w : WorldState) (report : Report) → IsWorldOf plan history w
    →
    ((items : List Item) → StandsForItems w.checker items → ClocksRise (processes w.checker) items
    → IsReportByClocks (processes w.checker) w.checker.watched items report) → IsHeadline plan history report
report_holds plan history w report is exact =
    let handed = is.stands.handed in
    let turn = handed_in_turn plan (accepted history) (items_taken history) w is.stands in
    let rise : ClocksRise plan.n handed =
    rises_with plan.n plan.watched handed turn (subst (ClocksRise plan.n) is.stands.taken_are (clocks_rise plan.n
    plan.watched plan.flag (computation (accepted history)) (items_taken history) (prefixes_now plan history w is))) in
    headline_holds plan history w report is
    (subst (λ items. IsReportByClocks plan.n plan.watched items report) (sym is.stands.taken_are)
    (report_without plan.n plan.watched handed turn report
    (subst₂ (λ n watched. IsReportByClocks n watched handed report) is.stands.processes_are is.stands.watched_are
    (exact handed is.stands.checker (subst (λ n. ClocksRise n handed) (sym is.stands.processes_are) rise)))))
