use Rattle.std.proofs.Common.{◌++◌, sym, ap, ◌∙◌, subst}
use Rattle.std.specs.List.{Contains}
use Rattle.wcp_c.proofs.TakenTags.{takes_tagged}
use Rattle.wcp_c.proofs.watching.Watching.take_tagged.Goals as goal

pub returns-clause-tagged : goal.returns-clause-tagged
returns-clause-tagged c =
    let shelf = c.args.self.now.shelf in
    let pushed = c.in_ok-push.ensures.ok ∙ ap (λ tags. shelf ++ tags) (sym c.requires.tag) in
    takes_tagged c.args.self.now
    (record { watch = c.args.self.now.watch; questions = c.take.new.self; shelf = c.drop_spent.new.self })
    c.args.item.now c.args.tagged.tag c.in_default.ensures.taken
    (λ tagged has. subst (λ all. Contains all tagged) pushed (c.drop_spent.ensures.right tagged has))
    (λ tagged has. c.drop_spent.ensures.kept tagged (subst (λ all. Contains all tagged) (sym pushed) has))
