use Rattle.wcp_script.proofs.Words.{◌<◌, length, sym, arith, eqb-true, eqb-false, false≢true}
use Rattle.wcp_script.proofs.Numbers.{no_number_of_nothing, no_number_after_zero, number_by_value}
use Rattle.wcp_script.proofs.number.number.Goals as goal
use Rattle.wcp_script.proofs.number.number.Goals.{then-is_empty-via-then-is_empty}
use Rattle.wcp_script.proofs.number.number.Goals.{then-is_empty-via-else-is_empty+then-is_padded}

pub returns-then-is_empty : goal.returns-then-is_empty
returns-then-is_empty c = elim c.then-is_empty.branch [
  | then-is_empty-via-then-is_empty w ↦ no_number_of_nothing _ (eqb-true _ _ (sym w.if-is_empty.ensures))
  | then-is_empty-via-else-is_empty+then-is_padded w ↦ let padded = w.is_padded.ensures.0 w.if-is_padded.true in
      no_number_after_zero _ padded.1 (omega arith)
]

pub returns : goal.returns
returns c =
    let some : 0 < length c.args.word.now =
    omega (arith, eqb-false (length c.args.word.now) 0 (sym c.if-is_empty.ensures)) in
    number_by_value _ _ some (λ padded. absurd (false≢true (c.if-is_padded.ensures.1 padded))) c.value.ensures
