use Rattle.std.proofs.Common.{◌≡◌, ◌∷◌, ◌++◌, [], ◌+◌, ◌<◌, ap, sym, ◌∙◌, arith, map, max, refl, take}
use Rattle.std.proofs.lemmas.List.{get_or-map, length-map, map_more, take-map}
use Rattle.trace_log.specs.Clock.{number_of}
use Rattle.trace_log.specs.Kept.{number_kept}
use Rattle.trace_moment.specs.Moment.{own}
use Rattle.trace_schedule.proofs.Reaching.{HasReached, HasReached-none, HasReached-more, is-counted}
use Rattle.trace_schedule.proofs.reached.first_counted.Goals as goal

pub loop-event-init : goal.loop-event-init
loop-event-init c = HasReached-none _ (λ host. rw c.new-reached.ensures.empty refl)

pub loop-event-preserved : goal.loop-event-preserved
loop-event-preserved c =
    let order = c.args.order.now in
    let i = c.loop-event.event-index in
    let one = c.event-item.result.now in
    let before = map (λ one. one.now) (take i order) in
    let kept = c.reached_of.ensures ∙ ap (λ host. number_kept c.loop-event.reached host) c.host.ensures in
    let above : number_kept c.loop-event.reached one.event.host < own one.event =
    omega (arith, kept, c.own.ensures, c.if-own-reached_of.false) in
    let more = HasReached-more before one c.loop-event.reached c.reach.new.reached c.loop-event.invariant above
    (λ host. c.in_ok-reach.ensures host
    ∙ ap (λ clock. max (number_kept c.loop-event.reached host) (number_of host clock)) c.clock.ensures) in
    let next : map (λ one. one.now) (take (i + 1) order) ≡ before ++ one ∷ [] =
    map_more (λ one. one.now) order i c.event-item.result c.loop-event-test.true
    ∙ ap (λ item. before ++ item.now ∷ []) (sym c.event-item.is) in
    rw next more

pub returns-then-own-reached_of-clause-some : goal.returns-then-own-reached_of-clause-some
returns-then-own-reached_of-clause-some c =
    let order = c.args.order.now in
    let i = c.loop-event.event-index in
    let one = c.event-item.result.now in
    let all = map (λ one. one.now) order in
    let kept = c.reached_of.ensures ∙ ap (λ host. number_kept c.loop-event.reached host) c.host.ensures in
    let has : HasReached (take i all) c.loop-event.reached =
    rw (take-map (λ one. one.now) i order) c.loop-event.invariant in
    let early = is-counted all i one c.loop-event.reached
    (omega (arith, c.loop-event-test.true, length-map order (λ one. one.now)))
    (λ d. get_or-map (λ one. one.now) order i c.event-item.result d c.loop-event-test.true
    ∙ ap (λ item. item.now) (sym c.event-item.is))
    has (omega (arith, kept, c.own.ensures, c.if-own-reached_of.true)) in
    (i, rw c.line.ensures early)
