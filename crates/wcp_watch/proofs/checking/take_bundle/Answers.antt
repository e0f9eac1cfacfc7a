use Rattle.wcp_watch.proofs.Words.{ap, sym, subst, ◌∙◌, List, Item, TakeEnd, Bundle, StandForItems}
use Rattle.wcp_watch.proofs.CheckedItems.{still_of_lane}
use Rattle.wcp_watch.proofs.checking.take_bundle.Goals as goal

pub returns-clause-keeps_up : goal.returns-clause-keeps_up
returns-clause-keeps_up g c =
    let old = c.args.taker.now in
    let taken = ap (λ (t : TakeEnd Bundle Item). t.taken) c.in_ok-bundle.ensures.ok.1 in
    record {
      of_lane = still_of_lane old c.take.new.self c.args.panel.now c.give_all.new.panel c.take.ensures.same.1
          c.give_all.ensures.same c.requires.of_lane;
      stands = subst (λ (items : List Item). StandForItems c.give_all.new.panel items) (sym taken)
          (c.give_all.ensures.taken old.taken c.requires.stands);
    }
