use Rattle.draw_layout.proofs.Words.{false≢true, sym, ◌∙◌}
use Rattle.std.proofs.lemmas.Result.{on_ok_weaker}
use Rattle.draw_layout.proofs.Listing.{has_already, has_more}
use Rattle.draw_layout.proofs.row.Row.insert.Goals as goal

pub returns-then-is_last : goal.returns-then-is_last
returns-then-is_last c = has_already c.args.number c.args.self.now c.requires (c.is_last.ensures.0 c.if-is_last.true)

pub returns : goal.returns
returns c =
    on_ok_weaker c.push.result (λ pushed. rw pushed (has_more c.args.number c.args.self.now c.requires
    (λ ends. false≢true (sym c.if-is_last.false ∙ c.is_last.ensures.1 ends)))) c.push.ensures
