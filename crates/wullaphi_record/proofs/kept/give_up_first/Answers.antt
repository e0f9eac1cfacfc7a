use Rattle.std.proofs.Common.{◌∙◌, ap, sym, subst, map}
use Rattle.wullaphi_record.specs.Recorded.{AreInOrder, NoneFalls, last_clock}
use Rattle.wullaphi_record.specs.Views.{seen_event, seen_events}
use Rattle.wullaphi_record.proofs.Adding.{in_order_drop, last_drop, map_rest}
use Rattle.wullaphi_record.proofs.kept.give_up_first.Goals as goal

pub returns-clause-rest : goal.returns-clause-rest
returns-clause-rest c = ap (map seen_event) c.pop_front-first.ensures.rest ∙ map_rest seen_event c.args.events.now.items

pub returns-clause-in_order : goal.returns-clause-in_order
returns-clause-in_order c in_order =
    subst AreInOrder (sym (ap (map seen_event) c.pop_front-first.ensures.rest
    ∙ map_rest seen_event c.args.events.now.items)) (in_order_drop (seen_events c.args.events.now) in_order)

pub returns-clause-follows : goal.returns-clause-follows
returns-clause-follows c clock follows =
    subst (λ events. NoneFalls (last_clock events) clock) (sym (ap (map seen_event) c.pop_front-first.ensures.rest
    ∙ map_rest seen_event c.args.events.now.items)) (last_drop (seen_events c.args.events.now) clock follows)
