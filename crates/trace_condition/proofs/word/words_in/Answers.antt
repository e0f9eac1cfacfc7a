use Rattle.trace_condition.proofs.Words.{◌≡◌, ◌∷◌, [], Some, None, option_map, ap, sym, ◌∙◌, map-append, word_in}
use Rattle.trace_condition.proofs.Words.{seen_word}
use Rattle.trace_condition.proofs.Reading.{read_more, read_fails}
use Rattle.trace_condition.proofs.word.words_in.Goals as goal

pub returns-in_default : goal.returns-in_default
returns-in_default c =
    let none : option_map seen_word c.word_in.result ≡ None = ap (option_map seen_word) c.in_default.is in
    read_fails word_in c.args.texts.now c.loop-text.text-index _ c.loop-text-test.true (sym c.word_in.ensures ∙ none)

pub loop-text-preserved : goal.loop-text-preserved
loop-text-preserved c =
    let one : option_map seen_word c.word_in.result ≡ Some (seen_word c.in-Some.word) =
    ap (option_map seen_word) c.in-Some.is in
    let more = read_more word_in c.args.texts.now c.loop-text.text-index _ _ _ c.loop-text-test.true
    c.loop-text.invariant (sym c.word_in.ensures ∙ one) in
    rw (c.in_ok-push.ensures.items, map-append seen_word c.loop-text.words.items (c.in-Some.word ∷ [])) more
