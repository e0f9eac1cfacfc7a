use Rattle.std.proofs.Common.{◌≡◌, ◌++◌, map}
use Rattle.std.specs.Prelude.{option_map}
use Rattle.std.specs.Vec.Iter.{into_iter_items}
use Rattle.trace_text.specs.Waiting.{seen_waiting}
use Rattle.trace_pages.specs.Pages.{said_by}
use Rattle.trace_pages.specs.Several.{AreSaidOf}
use Rattle.trace_pages.proofs.several.answered_all.Given as goal

abbrev pub invariant-loop-reply : goal.invariant-loop-reply
invariant-loop-reply l = record {
  whole : l.yielded ++ into_iter_items l.reply-iterator ≡ l.fn.replies.items;
  said : AreSaidOf (option_map (λ waiting. seen_waiting waiting.now) l.fn.waiting) l.yielded
      (map said_by l.answered.items);
}
