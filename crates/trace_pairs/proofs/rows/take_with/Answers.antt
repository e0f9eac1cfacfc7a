use Rattle.trace_pairs.proofs.Words.{◌≡◌, ◌<◌, arith, length, subst, sym, get_or_default, slice_index_or, Taken}
use Rattle.std.specs.Prelude.{slice_set}
use Rattle.trace_log.specs.Turns.{seen_logged}
use Rattle.trace_pairs.specs.declared.rows.HostPair.{HostPair}
use Rattle.trace_pairs.specs.Rows.{TakesOne}
use Rattle.trace_pairs.proofs.Turns.{rows_stay, takes_lower, takes_higher, pair_is_lower, pair_is_higher}
use Rattle.trace_pairs.proofs.rows.take_with.Goals as goal

pub returns-then-other-place-2-clause-rows : goal.returns-then-other-place-2-clause-rows
returns-then-other-place-2-clause-rows c =
    let rows = c.args.rows.now in
    let place = c.args.place in
    let one = c.index-rows-place.result in
    let next : Taken = record { logged = seen_logged c.args.logged.now; holds = c.args.holds } in
    rows_stay rows c.args.other place 1 next (slice_index_or rows place one) c.take.new.self c.take.result
    c.requires.rows
    c.if-other-place-2.true c.requires.place (λ r. get_or_default rows place one r c.requires.place) c.take.ensures

pub returns-then-other-place-2-clause-taken : goal.returns-then-other-place-2-clause-taken
returns-then-other-place-2-clause-taken c rule before hosts partly comes =
    let rows = c.args.rows.now in
    let place = c.args.place in
    let one = c.index-rows-place.result in
    let logged = seen_logged c.args.logged.now in
    subst (λ (pair : HostPair). TakesOne rule before logged hosts place c.args.other pair c.take.result
    (slice_set rows place c.take.new.self)) (sym (pair_is_lower place c.args.other c.if-other-place-2.true))
    (takes_lower rule before logged c.args.holds hosts place c.args.other rows partly comes
    (slice_index_or rows place one)
    c.take.new.self c.if-other-place-2.true (λ r. get_or_default rows place one r c.requires.place) c.take.result
    c.take.ensures)

pub returns-else-other-place-2-clause-rows : goal.returns-else-other-place-2-clause-rows
returns-else-other-place-2-clause-rows c =
    let rows = c.args.rows.now in
    let other = c.args.other in
    let one = c.index-rows-other.result in
    let next : Taken = record { logged = seen_logged c.args.logged.now; holds = c.args.holds } in
    let up : c.args.place < other = omega (arith, c.if-other-place.false, c.if-other-place-2.false) in
    rows_stay rows c.args.place other 0 next (slice_index_or rows other one) c.take-else-other-place-2.new.self
    c.take-else-other-place-2.result c.requires.rows
    up c.requires.other (λ r. get_or_default rows other one r c.requires.other) c.take-else-other-place-2.ensures

pub returns-else-other-place-2-clause-taken : goal.returns-else-other-place-2-clause-taken
returns-else-other-place-2-clause-taken c rule before hosts partly comes =
    let rows = c.args.rows.now in
    let other = c.args.other in
    let one = c.index-rows-other.result in
    let logged = seen_logged c.args.logged.now in
    let up : c.args.place < other = omega (arith, c.if-other-place.false, c.if-other-place-2.false) in
    let within : other < length hosts = omega (arith, c.requires.other, partly.as_many) in
    subst (λ (pair : HostPair). TakesOne rule before logged hosts c.args.place other pair
    c.take-else-other-place-2.result (slice_set rows other c.take-else-other-place-2.new.self))
    (sym (pair_is_higher c.args.place other up))
    (takes_higher rule before logged c.args.holds hosts c.args.place other rows partly comes
    (slice_index_or rows other one)
    c.take-else-other-place-2.new.self up within (λ r. get_or_default rows other one r c.requires.other)
    c.take-else-other-place-2.result c.take-else-other-place-2.ensures)
