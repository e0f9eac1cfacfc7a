use Rattle.std.proofs.Common.{arith}
use Rattle.wcp_saved.specs.Watches.{tags_words}
use Rattle.wcp_saved.proofs.Restored.{starved_is}
use Rattle.wcp_saved.proofs.watch_reading.watch_parts_of.Goals as goal

pub returns : goal.returns
returns c = λ saved sound range e.
    let magic = c.take_word-magic.ensures _ _ e in
    let version = c.take_word-version.ensures _ _ magic.1 in
    let watch = c.take_word-watch.ensures _ _ version.1 in
    let panel = c.take_word-panel.ensures _ _ watch.1 in
    let questions = c.in_ok-questions.ensures saved.questions (tags_words saved.tags) sound range.questions_fit
    panel.1 in
    let tags = c.in_ok-tags.ensures saved.tags range.tags_fit questions.1 in
    let flag = starved_is _ saved.panel panel.0 in
    λ j. record { watch = watch.0 j; panel = flag j; questions = questions.0 j; tags = tags j }
