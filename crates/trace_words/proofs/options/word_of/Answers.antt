use Rattle.trace_words.proofs.OptionWords.{found_of}
use Rattle.trace_words.proofs.Found.{word_as}
use Rattle.trace_words.proofs.options.word_of.Goals as goal

pub returns : goal.returns
returns c = word_as (found_of c.args.matches.now) c.args.name.now c.get_str.result c.get_str.ensures
