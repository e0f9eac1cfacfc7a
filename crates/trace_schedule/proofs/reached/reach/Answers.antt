use Rattle.std.proofs.Common.{ℕ, List, [], cond, max, take, ap, sym, ◌∙◌}
use Rattle.std.proofs.lemmas.Map.Text.{hash_map_updates_str}
use Rattle.std.specs.HashMap.{get_by}
use Rattle.std.specs.Str.{bytes_eq}
use Rattle.trace_log.specs.Clock.{number_of}
use Rattle.trace_log.specs.Kept.{number_kept}
use Rattle.trace_log.specs.Views.{seen_clock}
use Rattle.trace_log.proofs.Clocks.{no_number_of, number_of-next}
use Rattle.trace_log.proofs.Falls.{numbers-next}
use Rattle.trace_schedule.proofs.Reaching.{max-none, max-raised}
use Rattle.trace_schedule.proofs.reached.reach.Goals as goal

pub loop-member-init : goal.loop-member-init
loop-member-init c = λ host. max-none (number_kept c.args.reached.now host) (number_of host []) (no_number_of host)

pub loop-member-preserved : goal.loop-member-preserved
loop-member-preserved c = λ host.
    let clock = c.args.clock.now in
    let i = c.loop-member.member-index in
    let start : List ℕ → ℕ = λ q. number_kept c.args.reached.now q in
    let counted : List ℕ → ℕ = λ q. number_of q (seen_clock (take i clock)) in
    let before : List ℕ → ℕ = λ q. max (start q) (counted q) in
    let sets = hash_map_updates_str c.as_str-name.result.now c.loop-member.reached c.insert.new.self _
    c.in_ok-insert.ensures.updates in
    let next = number_of-next host clock i c.member-item.result c.loop-member-test.true c.member-item.is in
    numbers-next (λ q. get_by (λ k. bytes_eq q k.now) c.loop-member.reached)
    (λ q. get_by (λ k. bytes_eq q k.now) c.insert.new.self) before c.as_str-name.result.now c.member-item.result.number
    c.reached_of-number.result c.max.result c.max.ensures sets c.loop-member.invariant c.reached_of-number.ensures host
    ∙ ap (λ (text : List ℕ). cond (bytes_eq text host) (max c.member-item.result.number (before host)) (before host))
    c.as_str-name.ensures.value
    ∙ max-raised (bytes_eq _ host) c.member-item.result.number (start host) (counted host)
    ∙ ap (λ (n : ℕ). max (start host) n) (sym next)
