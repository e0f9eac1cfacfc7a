use Rattle.trace_questions.proofs.Words.{◌≡◌, ◌∷◌, [], Some, None, sym, map-append, view}
use Rattle.trace_questions.proofs.Words.{wording_of, seen_wording}
use Rattle.trace_questions.proofs.Reading.{all_taken, read_more, read_fails}
use Rattle.trace_questions.proofs.Members.{listed}
use Rattle.trace_questions.proofs.wording.each_wording.Goals as goal

pub returns-in_default : goal.returns-in_default
returns-in_default c =
    let none : wording_of (view c.value-item.result) ≡ None =
    sym (rw c.in_default.is at c.in_ok-wording.ensures) in
    rw (listed c.args.tables.now.items, ← c.deref-value-items.ensures.value)
    (sym (read_fails wording_of view c.deref-value-items.result.now c.loop-value.value-index c.value-item.result
    c.loop-value-test.true (rw (← c.value-item.is) none)))

pub loop-value-preserved : goal.loop-value-preserved
loop-value-preserved c =
    let one : wording_of (view c.value-item.result) ≡ Some (seen_wording c.in-Some.wording) =
    sym (rw c.in-Some.is at c.in_ok-wording.ensures) in
    let more = read_more wording_of view c.deref-value-items.result.now c.loop-value.value-index c.value-item.result _
    _ c.loop-value-test.true c.loop-value.invariant (rw (← c.value-item.is) one) in
    rw (c.in_ok-push.ensures.items, map-append seen_wording c.loop-value.wordings.items (c.in-Some.wording ∷ [])) more

pub returns : goal.returns
returns c =
    rw (listed c.args.tables.now.items, ← c.deref-value-items.ensures.value)
    (sym (all_taken wording_of view c.deref-value-items.result.now c.loop-value.value-index _ c.loop-value-test.false
    c.loop-value.invariant))
