use Rattle.trace_words.proofs.OptionWords.{ap}
use Rattle.std.specs.Prelude.{is_some}
use Rattle.trace_words.proofs.options.is_given.Goals as goal

pub returns-in-Some : goal.returns-in-Some
returns-in-Some c = ap is_some (rw c.in-Some.is at c.word_of.ensures)

pub returns-in-None : goal.returns-in-None
returns-in-None c = ap is_some (rw c.in-None.is at c.word_of.ensures)
