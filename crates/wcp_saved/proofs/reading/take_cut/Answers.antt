use Rattle.wcp_saved.proofs.Cuts.{none_read, some_read}
use Rattle.wcp_saved.proofs.reading.take_cut.Goals as goal

pub returns-then-count-eq0 : goal.returns-then-count-eq0
returns-then-count-eq0 c = λ found rest is e.
    none_read found rest c.args.words.now c.take_counted-count.result.0 c.take_counted-count.result.1
    c.take_counted-count.result.2.now is e c.take_counted-count.ensures.value c.if-count-eq0.true

pub returns : goal.returns
returns c = λ found rest is e.
    some_read found rest c.args.words.now c.take_counted-count.result.0 c.take_counted-count.result.1
    c.take_counted-count.result.2.now c.new.result is e c.take_counted-count.ensures.value c.if-count-eq0.false
    c.new.ensures
