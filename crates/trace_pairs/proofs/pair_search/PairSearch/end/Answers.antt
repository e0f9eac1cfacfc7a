use Rattle.trace_pairs.proofs.Words.{◌≡◌, ◌∙◌, ap, arith, length, subst, sym, List, IsEarliest, HasNoMoment}
use Rattle.std.proofs.lemmas.List.{with_items_is}
use Rattle.std.specs.Vec.{with_items}
use Rattle.trace_pairs.specs.declared.rows.PairRow.{PairRow}
use Rattle.trace_pairs.specs.Hosts.{hosts_in}
use Rattle.trace_pairs.specs.Rows.{KnowsLowest, StandAll}
use Rattle.trace_pairs.proofs.Telling.{has_pair, tells_lowest}
use Rattle.trace_pairs.proofs.pair_search.PairSearch.end.Goals as goal

pub moment-requires : goal.moment-requires
moment-requires c =
    let taken = c.requires.taken in
    let names = hosts_in c.requires.pattern c.requires.logged in
    let all : StandAll c.requires.rule c.requires.logged names c.deref_mut.result.now =
    subst (λ (rows : List PairRow). StandAll c.requires.rule c.requires.logged names rows)
    (sym c.deref_mut.ensures.value) taken.rows in
    let lowest : KnowsLowest IsEarliest HasNoMoment c.requires.rule c.requires.logged names c.end_each.new.rows
    c.in-Some.pair = c.in-Some.ensures c.requires.rule c.requires.logged names all in
    has_pair IsEarliest HasNoMoment c.requires.rule c.requires.logged names c.end_each.new.rows c.in-Some.pair lowest _
    (with_items_is c.args.self.now.rows c.end_each.new.rows (omega (arith, lowest.as_many, taken.rows.as_many)))
    taken.hosts.as_many

pub returns-in_ok-moment-in-Some-clause-last : goal.returns-in_ok-moment-in-Some-clause-last
returns-in_ok-moment-in-Some-clause-last c pattern rule logged taken =
    let names = hosts_in pattern logged in
    let all : StandAll rule logged names c.deref_mut.result.now =
    subst (λ (rows : List PairRow). StandAll rule logged names rows) (sym c.deref_mut.ensures.value) taken.rows in
    let lowest : KnowsLowest IsEarliest HasNoMoment rule logged names c.end_each.new.rows c.in-Some.pair =
    c.in-Some.ensures rule logged names all in
    tells_lowest IsEarliest HasNoMoment rule logged names c.end_each.new.rows c.in-Some.pair lowest
    (record c.args.self.now { rows = with_items c.args.self.now.rows c.end_each.new.rows })
    (with_items_is c.args.self.now.rows c.end_each.new.rows (omega (arith, lowest.as_many, taken.rows.as_many)))
    c.in_ok-moment-in-Some.field-0 taken.hosts c.in_ok-moment-in-Some.ensures
