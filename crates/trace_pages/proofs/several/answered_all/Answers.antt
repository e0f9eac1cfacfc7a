use Rattle.std.proofs.Common.{◌∙◌, ◌++◌, ◌∷◌, [], ap, append_assoc, map, subst, sym, List}
use Rattle.std.specs.Vec.Iter.{into_iter_items}
use Rattle.std.specs.Prelude.{option_map}
use Rattle.trace_text.specs.Waiting.{seen_waiting}
use Rattle.trace_pages.specs.Pages.{said_by}
use Rattle.trace_pages.specs.Several.{AreSaidOf}
use Rattle.trace_pages.specs.declared.answered.Answered.{Answered}
use Rattle.trace_pages.proofs.SaidOfReplies.{said_more}
use Rattle.trace_pages.proofs.several.answered_all.Goals as goal

pub loop-reply-preserved : goal.loop-reply-preserved
loop-reply-preserved c =
    let waiting = option_map (λ waiting. seen_waiting waiting.now) c.args.waiting in
    record {
      whole = append_assoc c.loop-reply.yielded (c.in-Some.reply ∷ []) (into_iter_items c.next.new.self)
          ∙ ap (λ l. c.loop-reply.yielded ++ l) (sym c.in-Some.ensures.steps.0) ∙ c.loop-reply.invariant.whole;
      said = subst (λ (those : List Answered). AreSaidOf waiting (c.loop-reply.yielded ++ c.in-Some.reply ∷ [])
          (map said_by those)) (sym c.in_ok-add.ensures)
          (said_more waiting c.loop-reply.yielded c.loop-reply.answered.items c.in-Some.reply c.in_ok-one.one
          c.loop-reply.invariant.said c.in_ok-one.ensures);
    }
