use Rattle.std.proofs.Common.{refl, sym}
use Rattle.wcp_c.proofs.TakenTags.{takes_untagged}
use Rattle.wcp_c.proofs.watching.Watching.take_item.Goals as goal

pub returns-in_default-clause-tagged : goal.returns-in_default-clause-tagged
returns-in_default-clause-tagged c = takes_untagged c.args.self.now
    (record { watch = c.args.self.now.watch; questions = c.take.new.self; shelf = c.args.self.now.shelf })
    c.args.item.now c.args.tag
    c.in_ok-take.ensures.taken refl (sym (rw c.in_default.is at c.tagged.ensures.list))
