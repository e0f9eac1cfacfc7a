use Rattle.std.proofs.Common.{ℕ, ap, ◌∙◌, map, filter, subst, IfSome}
use Rattle.trace_schedule.specs.Schedule.{IsCountedEarly, led_to}
use Rattle.trace_schedule.proofs.ordering.schedule.Goals as goal

pub returns : goal.returns
returns c =
    let past = c.in_ok-past_of.ensures ∙ ap (λ ends. filter (led_to ends) c.args.events.now)
    (ap (λ ends. map (λ one. one.now) ends) c.deref.ensures.value ∙ c.in_ok-ends.ensures) in
    record {
      fits = record {
        by = rw (← past) c.in_ok-order.ensures;
        fits = rw (← c.deref-2.ensures.value) (c.in_ok-line.ensures.none c.in-None.is);
      };
      refused = tt;
    }

pub returns-in-Some : goal.returns-in-Some
returns-in-Some c =
    let order = map (λ one. one.now) c.deref-2.result.now in
    let past = c.in_ok-past_of.ensures ∙ ap (λ ends. filter (led_to ends) c.args.events.now)
    (ap (λ ends. map (λ one. one.now) ends) c.deref.ensures.value ∙ c.in_ok-ends.ensures) in
    let early = subst (λ found. IfSome found (λ line. (place : ℕ) × IsCountedEarly order place line)) c.in-Some.is
    c.in_ok-line.ensures.some in
    record {
      fits = tt;
      refused = record {
        order = order;
        place = early.0;
        by = rw (c.deref-2.ensures.value, ← past) c.in_ok-order.ensures;
        early = early.1;
      };
    }
