use Rattle.trace_log.proofs.Words.{ap, ◌∙◌, ◌++◌, sym, length, bytes_eq-Decides}
use Rattle.std.proofs.Common.{ap₂}
use Rattle.std.proofs.lemmas.List.{take-append-drop}
use Rattle.trace_log.proofs.Passing.{member_is}
use Rattle.trace_log.proofs.look.member.Goals as goal

pub returns : goal.returns
returns c =
    let cases = c.in_ok-rest.ensures.cases in
    let named = sym (take-append-drop (length c.args.name.now) c.in_ok-after_byte-2.field-0.now)
    ∙ ap₂ (λ front back. front ++ back) ((bytes_eq-Decides _ c.args.name.now).0 cases.0) (sym cases.1) in
    let whole = sym (take-append-drop c.in_ok-number.length c.after_blank-rest-2.result.now)
    ∙ ap₂ (λ front back. front ++ back) (sym c.split_at.ensures.front) (sym c.split_at.ensures.back) in
    member_is c.args.lead c.args.name.now c.in_ok-number.number c.args.text.now c.in_ok-after_byte.field-0.now
    c.after_blank-rest.result.now c.in_ok-after_byte-2.field-0.now c.in_ok-rest.rest.now
    c.in_ok-after_byte-3.field-0.now c.in_ok-after_byte-4.field-0.now c.split_at.result.0.now c.split_at.result.1.now
    c.after_blank-rest.ensures.0 c.after_blank-rest-2.ensures.0 c.in_ok-after_byte.ensures
    c.after_blank-rest.ensures.1 c.after_blank-rest.ensures.2 c.in_ok-after_byte-2.ensures named
    c.in_ok-after_byte-3.ensures c.in_ok-after_byte-4.ensures c.after_blank-rest-2.ensures.1
    (c.after_blank-rest-2.ensures.2 ∙ ap (λ l. c.after_blank-rest-2.ensures.0 ++ l) whole)
    (c.split_at.ensures.front ∙ c.in_ok-number.ensures.digits) c.in_ok-number.ensures.most
