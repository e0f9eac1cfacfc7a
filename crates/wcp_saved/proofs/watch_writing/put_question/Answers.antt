use Rattle.std.proofs.Common.{◌++◌, ◌∙◌, ap, arith}
use Rattle.wcp_queue.specs.Parts.{state_of}
use Rattle.wcp_saved.specs.Spelling.{words_of}
use Rattle.wcp_saved.proofs.Spelled.{counted_behind}
use Rattle.wcp_saved.proofs.watch_writing.put_question.Goals as goal

pub returns-clause-words : goal.returns-clause-words
returns-clause-words c = counted_behind c.args.words.now.items c.push.new.self.items c.extend_from_slice.new.self.items
    c.in_ok-own.own.items (words_of (state_of c.args.parts.now)) _ c.in_ok-push.ensures.items (grind arith)
    c.in_ok-own.ensures.spelled
    (c.in_ok-extend_from_slice.ensures.items ∙ ap (λ own. c.push.new.self.items ++ own) c.deref.ensures.value)
