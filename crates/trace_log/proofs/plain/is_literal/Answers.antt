use Rattle.trace_log.proofs.Words.{◌∙◌, sym, subst, true, false, bytes_eq-Decides}
use Rattle.json.specs.Json.{boolean, null}
use Rattle.trace_log.specs.Fields.{IsWord}
use Rattle.trace_log.proofs.Objects.{boolean_spelled, null_spelled}
use Rattle.trace_log.proofs.plain.is_literal.Goals as goal

pub returns-then-eq : goal.returns-then-eq
returns-then-eq c is =
    let same = (bytes_eq-Decides _ _).0 (sym c.eq.ensures ∙ c.if-eq.true) ∙ c.as_slice.ensures in
    (boolean true, subst (IsWord (boolean true)) (sym same) (λ gap is_gap. boolean_spelled 1 gap true is_gap))

pub returns-then-eq-2 : goal.returns-then-eq-2
returns-then-eq-2 c is =
    let same = (bytes_eq-Decides _ _).0 (sym c.eq-2.ensures ∙ c.if-eq-2.true) ∙ c.as_slice-2.ensures in
    (boolean false, subst (IsWord (boolean false)) (sym same) (λ gap is_gap. boolean_spelled 1 gap false is_gap))

pub returns : goal.returns
returns c is =
    let same = (bytes_eq-Decides _ _).0 (sym c.eq-3.ensures ∙ is) ∙ c.as_slice-3.ensures in
    (null, subst (IsWord null) (sym same) (λ gap is_gap. null_spelled 1 gap is_gap))
