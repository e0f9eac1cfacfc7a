use Rattle.std.proofs.lemmas.List.{nil_from_length}
use Rattle.std.specs.Vec.Iter.{into_iter_items}
use Rattle.trace_moment.specs.declared.watched.WatchedHost.{WatchedHost}
use Rattle.trace_explain.specs.History.{watched_in}
use Rattle.trace_explain.proofs.Words.{◌≡◌, List, [], ◌++◌, ◌∙◌, sym, ap, append-nil, arith, map}
use Rattle.trace_explain.proofs.Taking.{fresh, watched_fresh, KeepPast-fresh}
use Rattle.trace_explain.proofs.history.History.new.Goals as goal

pub returns-clause-watched : goal.returns-clause-watched
returns-clause-watched c =
    let loop = c.loop-one in
    let ended : into_iter_items loop.one-iterator ≡ [] = nil_from_length (into_iter_items loop.one-iterator)
    (omega (arith, c.in-None.ensures.steps.0)) in
    let all : loop.yielded ≡ c.args.watched.items = sym (append-nil loop.yielded)
    ∙ ap (λ (rest : List WatchedHost). loop.yielded ++ rest) (sym ended) ∙ loop.invariant.whole in
    ap watched_in (loop.invariant.hosts ∙ ap (map fresh) all) ∙ watched_fresh c.args.watched.items

pub returns-clause-taken : goal.returns-clause-taken
returns-clause-taken c =
    let loop = c.loop-one in
    let ended : into_iter_items loop.one-iterator ≡ [] = nil_from_length (into_iter_items loop.one-iterator)
    (omega (arith, c.in-None.ensures.steps.0)) in
    let all : loop.yielded ≡ c.args.watched.items = sym (append-nil loop.yielded)
    ∙ ap (λ (rest : List WatchedHost). loop.yielded ++ rest) (sym ended) ∙ loop.invariant.whole in
    KeepPast-fresh c.args.watched.items loop.hosts.items (loop.invariant.hosts ∙ ap (map fresh) all) c.requires
