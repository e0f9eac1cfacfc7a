use Rattle.wcp_watch.proofs.Words.{List, ap, sym, subst, ◌∙◌, arith, Item, IfNone, TakeEnd, processes, AreAllEnded, Bundle}
use Rattle.wcp_watch.proofs.Words.{no_question, question_at, CheckerState, StandsForItems, IsLowestLost}
use Rattle.wcp_watch.proofs.CheckedItems.{all_drained, as_many_processes, as_many_questions, first_stands, without_cut}
use Rattle.wcp_watch.proofs.Words.{◌≡◌, true, IsSameTaker}
use Rattle.wcp_book.specs.Allowed.{may_tell}
use Rattle.wcp_book.specs.State.{answer_of_report}
use Rattle.wcp_queue.specs.Checker.{report_of}
use Rattle.wcp_watch.specs.CheckerEnds.{MayTellReports}
use Rattle.wcp_watch.proofs.checking.check_loop.Goals as goal

pub take_all-requires-clause-allowed : goal.take_all-requires-clause-allowed
take_all-requires-clause-allowed g c =
    subst (λ (taker : TakeEnd Bundle Item). MayTellReports g.A.Answers.allows taker c.args.panel)
    (sym c.into_taker-taker.ensures) c.requires.allowed

pub end_book-requires-clause-allowed : goal.end_book-requires-clause-allowed
end_book-requires-clause-allowed g c =
    let same = c.take_all.ensures.same in
    let taker = c.take_all.new.taker in
    let taken_is = c.into_taker-taker.ensures in
    let of : TakeEnd Bundle Item → Type 0 = λ (from : TakeEnd Bundle Item). IsSameTaker from taker in
    subst (λ report. may_tell g.A.Answers.allows (answer_of_report report) ≡ true)
    (ap report_of (sym c.first-first.ensures.value) ∙ sym c.report.ensures.value)
    (c.requires.allowed taker c.take_all.new.panel (subst of taken_is same.0) same.1 c.take_all.ensures.keeps_up)

pub returns : goal.returns
returns g c =
    let panel = c.take_all.new.panel in
    let taker = c.take_all.new.taker in
    let same = c.take_all.ensures.same in
    let up = c.take_all.ensures.keeps_up in
    let taken = c.end.ensures.taken in
    let members = c.end.ensures.members ∙ same.0.1
    ∙ ap (λ (t : TakeEnd Bundle Item). t.members) c.into_taker-taker.ensures in
    let first = question_at panel 0 in
    let first_is = c.first-first.ensures.value in
    let lost = c.lowest_lost-lost.result in
    let stands = first_stands panel taker.taken up.of_lane.some up.stands in
    let lowest = subst (λ (checker : CheckerState). (items : List Item) → StandsForItems checker items
    → IsLowestLost (processes checker) items lost) first_is c.lowest_lost-lost.ensures taker.taken stands in
    let ended : IfNone c.err-cut.result (AreAllEnded (processes first) taker.taken) =
    rw c.err-cut.ensures.value (without_cut _ c.take_all.result c.take_all.ensures.ended) in
    let fresh = c.requires.fresh.of_lane in
    let some = fresh.some in
    let count = c.processes-processes.ensures.value in
    let kept = as_many_questions c.args.panel panel same.1 in
    let first_count = as_many_processes c.args.panel panel 0 no_question same.1 up.of_lane.some
    ∙ count 0 no_question some in
    record {
      watch = c.watch-watch.ensures;
      relays = c.relays-relays.ensures;
      lane = c.end.ensures.lane ∙ same.0.0 ∙ ap (λ (t : TakeEnd Bundle Item). t.lane) c.into_taker-taker.ensures;
      members = members;
      processes = λ p. rw (members, ← count 0 no_question some) (fresh.members 0 no_question some p);
      same_watched = same.1.watched;
      unmatched = c.end.ensures.matched;
      ended = rw (← first_count, taken) ended;
      lost = rw (← first_count, taken) lowest;
      drained = rw (← first_count, taken) (all_drained c.err-cut.result lost (processes first) taker.taken ended lowest);
      some = up.of_lane.some;
      of_processes = λ k d within. as_many_processes c.args.panel panel k d same.1 within
          ∙ count k d (omega (arith, kept));
      stands = rw taken up.stands;
      starved = c.is_one_starved.result;
      fed = c.is_one_starved.ensures;
      fault = c.first_fault-fault.ensures;
    }
