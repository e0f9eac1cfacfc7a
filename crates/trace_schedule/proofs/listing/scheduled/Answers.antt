use Rattle.std.proofs.Common.{◌∙◌, ap, map}
use Rattle.trace_schedule.specs.InOrder.{told_event}
use Rattle.trace_schedule.proofs.Lists.{map-said}
use Rattle.trace_schedule.proofs.listing.scheduled.Goals as goal

pub returns-clause-listed : goal.returns-clause-listed
returns-clause-listed c = record {
  order = map (λ one. one.now) c.in_ok-order.order.items;
  is = c.in_ok-order.ensures.fits;
  told = c.in_ok-told.ensures ∙ ap (λ order. map (λ one. told_event one.now) order) c.deref.ensures.value
      ∙ map-said (λ one. one.now) told_event c.in_ok-order.order.items;
}
