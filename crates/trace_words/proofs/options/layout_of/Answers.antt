use Rattle.trace_words.proofs.OptionWords.{◌∙◌, ap₂}
use Rattle.trace_words.specs.Options.{layout_said}
use Rattle.trace_words.proofs.options.layout_of.Goals as goal

pub returns : goal.returns
returns c = c.layout_said.ensures ∙ ap₂ layout_said c.word_of.ensures c.says_spelling.ensures
