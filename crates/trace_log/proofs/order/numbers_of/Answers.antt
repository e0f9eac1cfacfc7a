use Rattle.trace_log.proofs.Words.{ℕ, List, cond, max, take, ap, sym, ◌∙◌, bytes_eq, get_by, hash_map_updates_str}
use Rattle.trace_log.proofs.Words.{number_of, seen_clock}
use Rattle.trace_log.proofs.Clocks.{no_number_of, number_of-next}
use Rattle.trace_log.proofs.Falls.{numbers-next}
use Rattle.trace_log.proofs.order.numbers_of.Goals as goal

pub loop-one-init : goal.loop-one-init
loop-one-init c = λ name. rw c.new-numbers.ensures.empty (no_number_of name)

pub loop-one-preserved : goal.loop-one-preserved
loop-one-preserved c = λ name.
    let before : List ℕ → ℕ = λ q. number_of q (seen_clock (take c.loop-one.one-index c.args.clock.now)) in
    let sets = hash_map_updates_str c.as_str-name.result.now c.loop-one.numbers c.insert.new.self _
    c.in_ok-insert.ensures.updates in
    let next =
    number_of-next name c.args.clock.now c.loop-one.one-index c.one-item.result c.loop-one-test.true c.one-item.is in
    numbers-next (λ q. get_by (λ k. bytes_eq q k.now) c.loop-one.numbers)
    (λ q. get_by (λ k. bytes_eq q k.now) c.insert.new.self) before c.as_str-name.result.now c.one-item.result.number
    c.number_kept-number.result c.max.result c.max.ensures sets c.loop-one.invariant c.number_kept-number.ensures name
    ∙ ap (λ (text : List ℕ). cond (bytes_eq text name) (max c.one-item.result.number (before name)) (before name))
    c.as_str-name.ensures.value ∙ sym next
