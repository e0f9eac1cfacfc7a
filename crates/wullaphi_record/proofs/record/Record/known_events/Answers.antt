use Rattle.std.proofs.Common.{deque_len, length, subst, ◌≤◌, rules, ◌≡◌, ◌∙◌, ap, of_calls}
use Rattle.std.proofs.lemmas.List.Sorted.{IsPartitionPoint-from_clause}
use Rattle.wullaphi_record.specs.Logs.{known_events}
use Rattle.wullaphi_record.proofs.Counting.{is_before, known_is, before_later}
use Rattle.wullaphi_record.proofs.record.Record.known_events.Goals as goal

pub returns-clause-value : goal.returns-clause-value
returns-clause-value c =
    let inside = c.self.inside in
    let items = inside.events.items in
    let parted = before_later inside.process c.args.count items c.self.invariant.1.0 in
    let point = IsPartitionPoint-from_clause (is_before inside.process c.args.count) items _
    c.partition_point.ensures.partitioned parted (λ a r q k. search (rules, of_calls)) in
    let long : deque_len inside.events ≡ length items = search rules in
    known_is inside.process c.args.count items _ (subst (λ n. c.partition_point.result ≤ n) long c.partition_point.ensures.bound) point.0 point.1
    ∙ ap (λ v. known_events v c.args.count) c.self.view_is
