use Rattle.trace_condition.proofs.Words.{◌≡◌, ◌∷◌, [], Some, None, option_map, ap, sym, ◌∙◌, map-append, saying_by}
use Rattle.trace_condition.proofs.Words.{seen_saying, kind_rule}
use Rattle.trace_condition.proofs.Reading.{read_more, read_fails}
use Rattle.trace_condition.proofs.saying.sayings_in.Goals as goal

pub returns-in_default : goal.returns-in_default
returns-in_default c =
    let none : option_map seen_saying c.saying_in.result ≡ None = ap (option_map seen_saying) c.in_default.is in
    read_fails (saying_by (kind_rule c.args.kind.now)) c.args.texts.now c.loop-text.text-index _ c.loop-text-test.true
    (sym c.saying_in.ensures ∙ none)

pub loop-text-preserved : goal.loop-text-preserved
loop-text-preserved c =
    let one : option_map seen_saying c.saying_in.result ≡ Some (seen_saying c.in-Some.saying) =
    ap (option_map seen_saying) c.in-Some.is in
    let more = read_more (saying_by (kind_rule c.args.kind.now)) c.args.texts.now c.loop-text.text-index _ _ _
    c.loop-text-test.true c.loop-text.invariant (sym c.saying_in.ensures ∙ one) in
    rw (c.in_ok-push.ensures.items, map-append seen_saying c.loop-text.sayings.items (c.in-Some.saying ∷ [])) more
