use Rattle.std.proofs.Common.{◌∷◌, [], ◌∙◌, ap, sym, subst, map}
use Rattle.std.proofs.lemmas.List.{map-append}
use Rattle.wullaphi_record.specs.Recorded.{AreInOrder}
use Rattle.wullaphi_record.specs.Views.{seen_event}
use Rattle.wullaphi_record.proofs.Adding.{in_order_push}
use Rattle.wullaphi_record.proofs.kept.put_last.Goals as goal

pub returns-clause-put : goal.returns-clause-put
returns-clause-put c =
    ap (map seen_event) c.push_back_reserved.ensures.items
    ∙ map-append seen_event c.args.events.now.items (c.args.event ∷ [])

pub returns-clause-in_order : goal.returns-clause-in_order
returns-clause-in_order c in_order follows =
    subst AreInOrder (sym (ap (map seen_event) c.push_back_reserved.ensures.items
    ∙ map-append seen_event c.args.events.now.items (c.args.event ∷ [])))
    (in_order_push (map seen_event c.args.events.now.items) (seen_event c.args.event) in_order follows)
