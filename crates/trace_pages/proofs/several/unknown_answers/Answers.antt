use Rattle.std.proofs.Common.{arith, map, refl}
use Rattle.std.proofs.lemmas.List.{length-map}
use Rattle.trace_text.specs.Waiting.{seen_waiting}
use Rattle.trace_pages.specs.Pages.{said_by}
use Rattle.trace_pages.proofs.SaidOfReplies.{all_closed_so}
use Rattle.trace_pages.proofs.Together.{shows_waiting}
use Rattle.trace_pages.proofs.several.unknown_answers.Goals as goal

pub answered_all-requires : goal.answered_all-requires
answered_all-requires g c = all_closed_so (seen_waiting c.in-Some.waiting) c.args.replies.items

pub show_all-requires : goal.show_all-requires
show_all-requires g c =
    let many = c.in_ok-answered.ensures.as_many in
    let same = length-map c.in_ok-answered.answered.items said_by in
    omega (arith, many, same, c.requires)

pub returns-clause-shows : goal.returns-clause-shows
returns-clause-shows g c =
    shows_waiting c.args.options.now.svg c.args.fault c.args.replies.items c.show_all.result
    (seen_waiting c.in-Some.waiting) (map said_by c.in_ok-answered.answered.items)
    (rw c.in-Some.is at c.in_ok-waiting.ensures) c.in_ok-answered.ensures
    (rw c.deref.ensures.value at c.show_all.ensures.shows) (rw c.deref.ensures.value at c.show_all.ensures.status)
