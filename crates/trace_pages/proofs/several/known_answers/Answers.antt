use Rattle.std.proofs.Common.{arith, map}
use Rattle.std.proofs.lemmas.List.{length-map}
use Rattle.trace_pages.specs.Pages.{most_behind, said_by}
use Rattle.trace_pages.proofs.Together.{answers_shown, read_so}
use Rattle.trace_pages.proofs.several.known_answers.Goals as goal

pub show_all-requires : goal.show_all-requires
show_all-requires g c =
    let many = c.in_ok-answered.ensures.as_many in
    let same = length-map c.in_ok-answered.answered.items said_by in
    omega (arith, many, same, c.requires.some)

pub returns-clause-shows : goal.returns-clause-shows
returns-clause-shows g c log questions is =
    let remaining = g.I.Read.remaining in
    let on = c.read_on-on.result in
    answers_shown c.args.options.now.svg log.form log.bytes questions c.args.replying.replies.items is.are
    (map said_by c.in_ok-answered.answered.items) on.behind c.show_all.result c.in_ok-answered.ensures
    (read_so remaining log most_behind questions c.args.replying.asking on c.read_on-on.new.self.source is.is
    (c.read_on-on.ensures log is.is.logged is.is.given))
    (rw c.deref.ensures.value at c.show_all.ensures.shows) (rw c.deref.ensures.value at c.show_all.ensures.status)
