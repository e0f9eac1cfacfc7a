use Rattle.trace_rewrite.proofs.Words.{◌≢◌, ◌⊎◌, inl, inr, ap, sym, subst, refl, IsAtEnd, to_be_said, Stage}
use Rattle.trace_rewrite.proofs.Words.{Over, List, ℕ, []}
use Rattle.std.specs.Prelude.{◌≡◌, Option}
use Rattle.trace_log.specs.declared.turn.Form.{Form}
use Rattle.wcp_io.specs.Reader.{left}
use Rattle.trace_rewrite.specs.Saying as spec
use Rattle.trace_rewrite.specs.Remaining.{waiting}
use Rattle.trace_rewrite.proofs.Waits.{gives}
use Rattle.trace_rewrite.proofs.reader.RewritingReaderRead.read.Goals as goal

over_or_more : (waits : List ℕ) (stage : Stage) (say : spec.Saying) (form : Form) (count : ℕ) (line : List ℕ)
    (known : Option (List ℕ)) → (waits ≢ []) ⊎ (stage ≡ Over)
    → (waits ≢ []) ⊎ IsAtEnd (to_be_said stage say form count line known)
over_or_more waits stage say form count line known (inl some) = inl some
over_or_more waits stage say form count line known (inr over) =
    inr (subst (λ stage. IsAtEnd (to_be_said stage say form count line known)) (sym over) refl)

pub returns-then-has_more-clause-bytes : goal.returns-then-has_more-clause-bytes
returns-then-has_more-clause-bytes g c =
    let old = c.loop.self in
    let new = c.give.new.self in
    let say = g.R.Rewrite.said in
    let remaining = g.I.Read.remaining in
    gives _ (to_be_said old.stage (say old.rewriter) old.form old.count old.lines.line.items
    (left old.lines (remaining old.input)))
    (to_be_said new.stage (say new.rewriter) new.form new.count new.lines.line.items
    (left new.lines (remaining new.input))) (waiting old) (waiting new) c.give.new.buf c.give.result
    (over_or_more (waiting old) old.stage (say old.rewriter) old.form old.count old.lines.line.items
    (left old.lines (remaining old.input)) (c.has_more.ensures.over c.if-has_more.true)) c.loop.invariant
    (ap (λ r. to_be_said r.stage (say r.rewriter) r.form r.count r.lines.line.items (left r.lines (remaining r.input)))
    c.give.ensures.same) c.give.ensures.bytes c.give.ensures.count
