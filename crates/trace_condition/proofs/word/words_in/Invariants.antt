use Rattle.trace_condition.proofs.Words.{◌≡◌, map, take, Some, word_in, all_read, seen_texts, seen_word}
use Rattle.trace_condition.proofs.word.words_in.Given as goal

abbrev pub invariant-loop-text : goal.invariant-loop-text
invariant-loop-text l =
    all_read word_in (seen_texts (take l.text-index l.texts)) ≡ Some (map seen_word l.words.items)
