use Rattle.std.proofs.Common.{◌++◌, length, ap, arith}
use Rattle.std.proofs.lemmas.List.{length-append}
use Rattle.wcp_saved.specs.Spelling.{words_of}
use Rattle.wcp_saved.proofs.watch_reading.take_question.Goals as goal

pub returns : goal.returns
returns c = λ checker after sound range e.
    let own = words_of checker in
    let count = c.take_word-count.ensures (length own) (own ++ after) e in
    let first = c.take_first.ensures.value own after count.1
    (omega (arith, count.0, ap length count.1, length-append own after, c.min-count.ensures)) in
    (c.in_ok-parts_of.ensures checker sound range.range first.0, first.1)
