use Rattle.wcp_script.proofs.Words.{◌≡◌}
use Rattle.wcp_script.specs.Head.{numbers_in}
use Rattle.wcp_script.specs.Named.{nobody, named_by}
use Rattle.wcp_script.specs.Views.{words_behind}
use Rattle.wcp_script.proofs.WordsLeft.{bytes_left}
use Rattle.wcp_script.proofs.watch_line.named_by.Given as goal

abbrev pub invariant-loop-rest : goal.invariant-loop-rest
invariant-loop-rest l =
    named_by l.n l.named (numbers_in (words_behind l.rest)) ≡ named_by l.n nobody (numbers_in (words_behind l.words))

abbrev pub decreases-loop-rest : goal.decreases-loop-rest
decreases-loop-rest l = bytes_left l.rest
