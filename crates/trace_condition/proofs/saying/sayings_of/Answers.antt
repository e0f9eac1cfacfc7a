use Rattle.trace_condition.proofs.Words.{◌≡◌, ◌≢◌, ◌==◌, true, false, map, length, sym, ◌∙◌, conditions_of, are_fit}
use Rattle.trace_condition.proofs.Words.{Gives, seen_saying, seen_texts, seen_words, length-map}
use Rattle.trace_condition.proofs.Handed.{handed_on}
use Rattle.trace_condition.proofs.Sayings.{untils_fail, whiles_fail, spans_fail, ats_fail, said, seen_in_one, fit_said}
use Rattle.trace_condition.proofs.Sayings.{unfit_said, unpaired_said}
use Rattle.trace_condition.proofs.saying.sayings_of.Goals as goal
use Rattle.trace_condition.proofs.saying.sayings_of.Goals.{else-words-via-then-words+else-are_fit}
use Rattle.trace_condition.proofs.saying.sayings_of.Goals.{else-words-via-else-words}

pub returns-in_err-untils : goal.returns-in_err-untils
returns-in_err-untils c =
    let asked = seen_words c.args.words.now in
    let fails = untils_fail asked c.in_err-untils.field-0.0 c.in_err-untils.ensures in
    handed_on (λ r. Gives (λ sayings. map seen_saying sayings.items) r (conditions_of asked)) c.from_residual.result
    c.in_err-untils.field-0.0 c.from_residual.ensures fails

pub returns-in_err-whiles : goal.returns-in_err-whiles
returns-in_err-whiles c =
    let asked = seen_words c.args.words.now in
    let fails = whiles_fail asked _ c.in_ok-untils.ensures c.in_err-whiles.field-0.0 c.in_err-whiles.ensures in
    handed_on (λ r. Gives (λ sayings. map seen_saying sayings.items) r (conditions_of asked))
    c.from_residual-in_err-whiles.result c.in_err-whiles.field-0.0 c.from_residual-in_err-whiles.ensures fails

pub returns-in_err-spans : goal.returns-in_err-spans
returns-in_err-spans c =
    let asked = seen_words c.args.words.now in
    let fails = spans_fail asked _ c.in_ok-untils.ensures _ c.in_ok-whiles.ensures c.in_err-spans.field-0.0
    (rw c.as_slice.ensures.value at c.in_err-spans.ensures) in
    handed_on (λ r. Gives (λ sayings. map seen_saying sayings.items) r (conditions_of asked))
    c.from_residual-in_err-spans.result c.in_err-spans.field-0.0 c.from_residual-in_err-spans.ensures fails

pub returns-in_err-ats : goal.returns-in_err-ats
returns-in_err-ats c =
    let asked = seen_words c.args.words.now in
    let fails = ats_fail asked _ c.in_ok-untils.ensures _ c.in_ok-whiles.ensures _
    (rw c.as_slice.ensures.value at c.in_ok-spans.ensures) c.in_err-ats.field-0.0 c.in_err-ats.ensures in
    handed_on (λ r. Gives (λ sayings. map seen_saying sayings.items) r (conditions_of asked))
    c.from_residual-in_err-ats.result c.in_err-ats.field-0.0 c.from_residual-in_err-ats.ensures fails

pub returns-then-are_fit : goal.returns-then-are_fit
returns-then-are_fit c =
    let words = c.args.words.now in
    let all = seen_in_one c.in_ok-whiles.whiles.items c.in_ok-spans.spans.items c.in_ok-ats.ats.items
    c.in_ok-sayings.sayings.items c.in_ok-sayings.ensures in
    let spans = rw c.as_slice.ensures.value at c.in_ok-spans.ensures in
    let said_all = rw (← all) at
    (said (seen_words words) _ c.in_ok-untils.ensures _ c.in_ok-whiles.ensures _ spans _ c.in_ok-ats.ensures) in
    let paired : length (seen_texts words.untils.now) ≡ length (seen_texts words.froms.now) =
    simp length-map c.if-words.true in
    let fit : are_fit (map seen_saying c.in_ok-sayings.sayings.items) ≡ true =
    rw (← c.deref.ensures.value) (sym c.are_fit.ensures ∙ c.if-are_fit.true) in
    said_all ∙ fit_said _ _ _ paired fit

pub returns : goal.returns
returns c =
    let words = c.args.words.now in
    let all = seen_in_one c.in_ok-whiles.whiles.items c.in_ok-spans.spans.items c.in_ok-ats.ats.items
    c.in_ok-sayings.sayings.items c.in_ok-sayings.ensures in
    let spans = rw c.as_slice.ensures.value at c.in_ok-spans.ensures in
    let said_all = rw (← all) at
    (said (seen_words words) _ c.in_ok-untils.ensures _ c.in_ok-whiles.ensures _ spans _ c.in_ok-ats.ensures) in
    said_all ∙ elim c.else-words.branch [
      | else-words-via-then-words+else-are_fit w ↦
          let unfit : are_fit (map seen_saying c.in_ok-sayings.sayings.items) ≡ false =
          rw (← w.deref.ensures.value) (sym w.are_fit.ensures ∙ w.if-are_fit.false) in
          unfit_said (map seen_saying c.in_ok-sayings.sayings.items)
          (length (seen_texts words.untils.now) == length (seen_texts words.froms.now)) unfit
      | else-words-via-else-words w ↦
          let unpaired : length (seen_texts words.untils.now) ≢ length (seen_texts words.froms.now) =
          simp length-map w.if-words.false in
          unpaired_said (map seen_saying c.in_ok-sayings.sayings.items) (length (seen_texts words.untils.now))
          (length (seen_texts words.froms.now)) unpaired
    ]
