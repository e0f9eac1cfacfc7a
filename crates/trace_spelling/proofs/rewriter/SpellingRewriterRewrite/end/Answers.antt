use Rattle.trace_spelling.proofs.Words.{◌∙◌, sym, ap, arith}
use Rattle.trace_spelling.specs.Said.{rule_of}
use Rattle.trace_spelling.specs.Windows.{number_behind, seen_waits}
use Rattle.trace_spelling.proofs.Ends.{end_skips, end_none, end_faulty}
use Rattle.trace_spelling.proofs.Turns.{none_wait, some_wait}
use Rattle.trace_spelling.proofs.rewriter.SpellingRewriterRewrite.end.Goals as goal

pub returns-then-self-clause-ok : goal.returns-then-self-clause-ok
returns-then-self-clause-ok c =
    let self = c.args.self.now in
    end_skips (rule_of self) (seen_waits self.waits.items) c.args.out.now.items c.if-self.true

pub returns-then-is_empty-clause-ok : goal.returns-then-is_empty-clause-ok
returns-then-is_empty-clause-ok c =
    let self = c.args.self.now in
    end_none (rule_of self) (seen_waits self.waits.items) c.args.out.now.items c.if-self.false
    (none_wait _ self.waits.items (omega arith) (sym c.is_empty.ensures ∙ c.if-is_empty.true))

pub returns-clause-ok : goal.returns-clause-ok
returns-clause-ok c =
    let self = c.args.self.now in
    end_faulty (rule_of self) (seen_waits self.waits.items) c.args.out.now.items c.push_fault.new.out.items
    c.number_at-number.result c.if-self.false
    (some_wait _ self.waits.items (omega arith) (sym c.is_empty.ensures ∙ c.if-is_empty.false))
    (c.number_at-number.ensures ∙ ap (λ lines. number_behind (seen_waits lines) 0) c.deref.ensures.value)
    c.in_ok-push_fault.ensures
