-- Each word of a watch is below 2 ^ 64.
use Rattle.std.proofs.Common.{ℕ, ◌<◌, ◌≤◌, ◌^◌, ◌+◌, ◌*◌, List, [], ◌∷◌, ◌++◌, length, ap, ◌∙◌, arith}
use Rattle.std.specs.Prelude.{All}
use Rattle.std.specs.List.{flat_map}
use Rattle.std.proofs.lemmas.List.Elements.{All-append, All-cons, All-head, All-nil, All-tail}
use Rattle.wcp_queue.specs.Checker.{CheckerState, IsSoundChecker}
use Rattle.wcp_saved.specs.Spelling.{version, flag, words_of, IsInRange}
use Rattle.wcp_saved.specs.Watches.{watch_magic, watch_words, question_words, questions_words, tag_words, tags_words}
use Rattle.wcp_saved.specs.Watches.{IsQuestionInRange, IsTag, IsWatchInRange, WatchState}
use Rattle.wcp_saved.specs.declared.watch.Tagged.{Tagged}
use Rattle.wcp_saved.proofs.Small.{IsWord, long_words, small_flag, small_flat, small_words}

small_tag : (tagged : Tagged) → IsTag tagged → All IsWord (tag_words tagged)
small_tag tagged is = All-cons IsWord tagged.process (tagged.interval ∷ tagged.tag ∷ []) (omega (arith, is.process))
    (All-cons IsWord tagged.interval (tagged.tag ∷ []) (omega (arith, is.interval))
    (All-cons IsWord tagged.tag [] is.tag (All-nil IsWord)))

small_tags : (tags : List Tagged) → length tags < 2 ^ 64 → All IsTag tags → All IsWord (tags_words tags)
small_tags tags few are =
    All-cons IsWord (length tags) (flat_map tag_words tags) few (small_flat tag_words IsTag small_tag tags are)

small_question : (checker : CheckerState) → IsSoundChecker checker × IsQuestionInRange checker
    → All IsWord (question_words checker)
small_question checker (sound, range) =
    All-cons IsWord (length (words_of checker)) (words_of checker) range.fits (small_words checker sound range.range)

-- a question has 104 words or more
pub long_question : (checker : CheckerState) → IsSoundChecker checker → IsQuestionInRange checker
    → 104 ≤ length (question_words checker)
long_question checker sound range = omega (arith, long_words checker sound range.range)

both : (checkers : List CheckerState) → All IsSoundChecker checkers → All IsQuestionInRange checkers
    → All (λ checker. IsSoundChecker checker × IsQuestionInRange checker) checkers
both checkers sound range k d within = (sound k d within, range k d within)

small_questions : (checkers : List CheckerState) → length checkers < 2 ^ 64 → All IsSoundChecker checkers
    → All IsQuestionInRange checkers → All IsWord (questions_words checkers)
small_questions checkers few sound range =
    All-cons IsWord (length checkers) (flat_map question_words checkers) few (small_flat question_words
    (λ checker. IsSoundChecker checker × IsQuestionInRange checker) small_question checkers (both checkers sound range))

pub small_watch : (watch : WatchState) → All IsSoundChecker watch.questions → IsWatchInRange watch
    → All IsWord (watch_words watch)
small_watch watch sound range =
    let behind = questions_words watch.questions ++ tags_words watch.tags in
    let asked : All IsWord behind = All-append IsWord (questions_words watch.questions) (tags_words watch.tags)
    (small_questions watch.questions range.few sound range.questions_fit)
    (small_tags watch.tags range.few_tags range.tags_fit) in
    let flagged = All-cons IsWord (flag watch.panel) behind (small_flag watch.panel) asked in
    let numbered = All-cons IsWord watch.watch (flag watch.panel ∷ behind) range.watch_fits flagged in
    let versioned = All-cons IsWord version (watch.watch ∷ flag watch.panel ∷ behind) (omega arith) numbered in
    All-cons IsWord watch_magic (version ∷ watch.watch ∷ flag watch.panel ∷ behind) (omega arith) versioned
