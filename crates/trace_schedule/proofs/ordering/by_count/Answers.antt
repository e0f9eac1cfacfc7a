use Rattle.std.proofs.Common.{rules}
use Rattle.std.proofs.lemmas.List.Sorted.{IsNonDecreasingBy-from_sort_by_key, answers_always}
use Rattle.trace_schedule.specs.Schedule.{counted}
use Rattle.trace_schedule.proofs.Rising.{by-count}
use Rattle.trace_schedule.proofs.ordering.by_count.Goals as goal

pub returns : goal.returns
returns c = by-count c.args.events.items c.sort_by_cached_key.new.self.items c.sort_by_cached_key.ensures.permutation
    (IsNonDecreasingBy-from_sort_by_key (λ one. counted one.now) _ c.in_ok-sort_by_cached_key.ensures.sorted
    (λ a r q k. search rules))
    (c.sort_by_cached_key.ensures.stable (λ one. counted one.now) (answers_always _ _ _ (λ f a r g h. search rules)))
