use Rattle.trace_questions.proofs.Words.{◌≡◌, ◌∷◌, [], Some, None, sym, map-append, as_str, view, Bor, Text}
use Rattle.trace_questions.proofs.Reading.{all_taken, read_more, read_fails}
use Rattle.trace_questions.proofs.Members.{listed}
use Rattle.trace_questions.proofs.keys.each_text.Goals as goal

pub returns-in_default : goal.returns-in_default
returns-in_default c =
    let none : as_str (view c.value-item.result) ≡ None = sym (rw c.in_default.is at c.as_str.ensures) in
    rw (listed c.args.values.now.items, ← c.deref-value-items.ensures.value)
    (sym (read_fails as_str view c.deref-value-items.result.now c.loop-value.value-index c.value-item.result
    c.loop-value-test.true (rw (← c.value-item.is) none)))

pub loop-value-preserved : goal.loop-value-preserved
loop-value-preserved c =
    let one : as_str (view c.value-item.result) ≡ Some c.in-Some.text.now =
    sym (rw c.in-Some.is at c.as_str.ensures) in
    let more = read_more as_str view c.deref-value-items.result.now c.loop-value.value-index c.value-item.result _ _
    c.loop-value-test.true c.loop-value.invariant (rw (← c.value-item.is) one) in
    rw (
      c.in_ok-push.ensures.items,
      map-append (λ (text : Bor Text). text.now) c.loop-value.texts.items
          (c.in-Some.text ∷ []),
    ) more

pub returns : goal.returns
returns c =
    rw (listed c.args.values.now.items, ← c.deref-value-items.ensures.value)
    (sym (all_taken as_str view c.deref-value-items.result.now c.loop-value.value-index _ c.loop-value-test.false
    c.loop-value.invariant))
