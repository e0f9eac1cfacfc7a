use Rattle.trace_words.proofs.OptionWords.{◌≡◌, ◌∙◌, ap, map, sym, subst, List, IfOk-weaker, App, HasKind, Row, app_of}
use Rattle.trace_words.proofs.OptionWords.{fault_of, is_simple, is_simple_and_free, kind_of, matches_of, program}
use Rattle.trace_words.proofs.OptionWords.{IsTraceOf}
use Rattle.trace_words.proofs.OptionWords.{Passed}
use Rattle.trace_words.proofs.Found.{program_is_free, program_is_simple, refused_as}
use Rattle.trace_words.proofs.options.request_of.Goals as goal

pub returns-in-Ok : goal.returns-in-Ok
returns-in-Ok g c =
    let words = map g.S.AsStr.text c.args.words.now in
    let app : app_of c.in_ok-command.field-0 ≡ program = c.in_ok-command.ensures in
    let found = (c.in-Ok.ensures.matches (ap is_simple app ∙ program_is_simple)).0
    ∙ ap (λ (a : App). matches_of a words) app in
    let passes = ap (λ (a : App). fault_of a words) (sym app)
    ∙ c.in-Ok.ensures.kinds (ap is_simple_and_free app ∙ program_is_free) in
    IfOk-weaker c.trace_of.result _ _
    (λ request is. Passed passes (subst (λ (rows : List Row). IsTraceOf rows request) found is)) c.trace_of.ensures

pub returns-in-Err : goal.returns-in-Err
returns-in-Err g c =
    let words = map g.S.AsStr.text c.args.words.now in
    let failed = c.in-Err.ensures.kinds (ap is_simple_and_free c.in_ok-command.ensures ∙ program_is_free) in
    refused_as words (kind_of c.in-Err.error) c.request_without_matches.result
    (subst (λ (a : App). HasKind (fault_of a words) c.in-Err.error) c.in_ok-command.ensures failed)
    c.request_without_matches.ensures
