use Rattle.std.proofs.Common.{◌≡◌, List, [], ◌++◌, map, ◌∙◌, sym, ap, append-nil, arith, length}
use Rattle.std.proofs.lemmas.List.{nil_from_length}
use Rattle.std.specs.Vec.Iter.{into_iter_items}
use Rattle.trace_moment.specs.declared.watched.WatchedHost.{WatchedHost}
use Rattle.trace_runs.specs.Kept.{watched_in}
use Rattle.trace_runs.proofs.KeptStart.{fresh_kept, searching_start, watched_fresh}
use Rattle.trace_runs.proofs.search.RunSearch.new.Goals as goal

pub returns-clause-watched : goal.returns-clause-watched
returns-clause-watched c =
    let loop = c.loop-one in
    let ended : into_iter_items loop.one-iterator ≡ [] = nil_from_length (into_iter_items loop.one-iterator)
    (omega (arith, c.in-None.ensures.steps.0)) in
    let all : loop.yielded ≡ c.args.watched.items = sym (append-nil loop.yielded)
    ∙ ap (λ (rest : List WatchedHost). loop.yielded ++ rest) (sym ended) ∙ loop.invariant.whole in
    ap watched_in (loop.invariant.queues ∙ ap (map (fresh_kept (length c.args.watched.items))) all)
    ∙ watched_fresh (length c.args.watched.items) c.args.watched.items

pub returns-clause-taken : goal.returns-clause-taken
returns-clause-taken c =
    let loop = c.loop-one in
    let ended : into_iter_items loop.one-iterator ≡ [] = nil_from_length (into_iter_items loop.one-iterator)
    (omega (arith, c.in-None.ensures.steps.0)) in
    let all : loop.yielded ≡ c.args.watched.items = sym (append-nil loop.yielded)
    ∙ ap (λ (rest : List WatchedHost). loop.yielded ++ rest) (sym ended) ∙ loop.invariant.whole in
    searching_start c.args.watched.items loop.queues.items c.requires.some c.requires.distinct
    (loop.invariant.queues ∙ ap (map (fresh_kept (length c.args.watched.items))) all)
