-- How many lines a head has.
use Rattle.wcp_script.proofs.Words.{◌≡◌, ℕ, ◌+◌, Bool, List, Ok, refl, ◌∙◌, HeadLine, TextLine, Head, head_line}
use Rattle.wcp_script.proofs.Words.{with_line, head_by, GoesOn}

-- A head line more, before the others.
pub head_more : (is_step_word : List ℕ → Bool) (head : Head) (last : ℕ) (lines : List TextLine) (line : TextLine)
    (after : List TextLine) (said : HeadLine) → GoesOn is_step_word lines line after → head_line head line ≡ Ok said
    → head_by is_step_word head last lines ≡ head_by is_step_word (with_line head said) (last + 1) after
head_more is_step_word head last lines line after said goes e = goes head last ∙ rw e refl
