use Rattle.std.proofs.Common.{◌≡◌, refl, sym, ap, ◌∙◌, subst, unwrap_or}
use Rattle.wcp_queue.specs.Checker.{processes, report_of, IsReportOfAnyClocks}
use Rattle.wcp_c.specs.Checkers.{IsInCut}
use Rattle.wcp_c.specs.Tags.{IsTagOf, items_of}
use Rattle.wcp_c.proofs.TagsInCuts.{same_interval, tag_in_cut, tag_told}
use Rattle.wcp_c.proofs.watching.Watching.tag_in_cut.Goals as goal

pub returns-clause-tag : goal.returns-clause-tag
returns-clause-tag c = λ taken k s order in_cut.
    let checker = c.args.checker.now in
    let shelf = c.args.self.now.shelf in
    let p = c.args.p in
    let report = report_of checker in
    let told = c.report-report.ensures in
    let interval = c.in_ok-interval.interval in
    let here : IsInCut report p interval = subst (λ it. IsInCut it p interval) told.value
    c.in_ok-interval.ensures.some in
    let any = subst (λ it. IsReportOfAnyClocks (processes checker) checker.watched (items_of taken) it)
    told.value
    (told.any_clocks s.not_starved (items_of taken) s.stands) in
    let same : interval ≡ k = same_interval report p interval k here in_cut in
    subst (IsTagOf taken p k)
    (sym (c.unwrap_or.ensures ∙ ap (λ it. unwrap_or it 0) c.find.ensures ∙ ap (tag_told shelf p) same))
    (tag_in_cut checker shelf taken s order p k report refl any in_cut)
