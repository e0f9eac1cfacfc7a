use Rattle.trace_spelling.proofs.Words.{◌∙◌, ◌++◌, ◌∷◌, [], sym, ap, refl, arith, append-nil}
use Rattle.trace_spelling.specs.Said.{rule_of}
use Rattle.trace_spelling.specs.Windows.{seen_waits}
use Rattle.trace_spelling.proofs.Turns.{says_turn, long_turn, short_turn, whole_turn, same_whole, few_wait, many_wait}
use Rattle.trace_spelling.proofs.rewriter.SpellingRewriterRewrite.line.Goals as goal

pub returns-then-line-gt-MAX_LINE-clause-ok : goal.returns-then-line-gt-MAX_LINE-clause-ok
returns-then-line-gt-MAX_LINE-clause-ok c =
    let self = c.args.self.now in
    let waits = seen_waits self.waits.items in
    says_turn (rule_of self) (rule_of self) waits (seen_waits c.clear.new.self.items) c.args.number c.args.line.now
    c.args.out.now.items c.push_fault.new.out.items _
    (long_turn (rule_of self) waits c.args.number c.args.line.now c.if-line-gt-MAX_LINE.true) refl
    (ap seen_waits c.clear.ensures.items) c.in_ok-push_fault.ensures

pub returns-then-len-self-clause-ok : goal.returns-then-len-self-clause-ok
returns-then-len-self-clause-ok c =
    let self = c.args.self.now in
    let new = c.wait.new.self in
    let waits = seen_waits self.waits.items in
    says_turn (rule_of self) (rule_of new) waits (seen_waits new.waits.items) c.args.number c.args.line.now
    c.args.out.now.items c.args.out.now.items _
    (short_turn (rule_of self) waits c.args.number c.args.line.now c.if-line-gt-MAX_LINE.false
    (few_wait (rule_of self) (rule_of new) new.waits.items (waits ++ (c.args.number, c.args.line.now) ∷ [])
    c.wait.ensures.rule c.in_ok-wait.ensures.ok (omega arith))) c.wait.ensures.rule
    c.in_ok-wait.ensures.ok (sym (append-nil c.args.out.now.items))

pub returns-in-Ok-clause-ok : goal.returns-in-Ok-clause-ok
returns-in-Ok-clause-ok c =
    let self = c.args.self.now in
    let mid = c.wait.new.self in
    let new = c.say_waiting.new.self in
    let waits = seen_waits self.waits.items in
    let now = waits ++ (c.args.number, c.args.line.now) ∷ [] in
    let same = same_whole (rule_of self) (rule_of mid) now (seen_waits mid.waits.items) c.wait.ensures.rule
    c.in_ok-wait.ensures.ok in
    says_turn (rule_of self) (rule_of new) waits (seen_waits new.waits.items)
    c.args.number c.args.line.now c.args.out.now.items c.say_waiting.new.out.items _
    (whole_turn (rule_of self) waits c.args.number c.args.line.now c.if-line-gt-MAX_LINE.false
    (many_wait (rule_of self) (rule_of mid) mid.waits.items now c.wait.ensures.rule c.in_ok-wait.ensures.ok
    (omega arith))) (c.say_waiting.ensures.rule ∙ c.wait.ensures.rule)
    (c.in-Ok.ensures.waits ∙ ap (λ turn. turn.waits) same)
    (c.in-Ok.ensures.said ∙ ap (λ turn. c.args.out.now.items ++ turn.said) same)
