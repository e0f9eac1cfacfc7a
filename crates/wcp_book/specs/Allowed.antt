use Rattle.std.specs.Prelude.{Bool, true, false, ◌||◌}
use Rattle.wcp_book.specs.declared.cut_answer.CutAnswer.{CutAnswer}
use Rattle.wcp_book.specs.declared.cut_answer.CutAnswer.TheVariants as answer

abbrev pub is_not_run : CutAnswer → Bool
is_not_run (answer.Found cut) = false
is_not_run answer.Nothing = false
is_not_run answer.Undecided = false
is_not_run answer.NotRun = true

-- Whether a book may tell this, of which these answers are allowed: each book may tell that no watch has run.
abbrev pub may_tell : (CutAnswer → Bool) → CutAnswer → Bool
may_tell allows answer = allows answer || is_not_run answer
