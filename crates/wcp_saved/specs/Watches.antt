use Rattle.std.specs.Prelude.{◌≡◌, ℕ, ◌^◌, ◌<◌, Bool, List, [], ◌∷◌, ◌++◌, length, map, All}
use Rattle.std.specs.List.{flat_map}
use Rattle.wcp_queue.specs.Checker.{CheckerState, IsSoundChecker}
use Rattle.wcp_queue.specs.Parts.{state_of}
use Rattle.wcp_saved.specs.Spelling.{version, flag, counted, words_of, bytes_of, sealed, IsInRange}
use Rattle.wcp_saved.specs.declared.watch.Tagged.{Tagged}
use Rattle.wcp_saved.specs.declared.watch.SavedWatch.{SavedWatch}

-- What is asked of the notes of one watch: the number of the watch; whether its questions are those of a panel; their
-- checkers; and the tags of snapshots that may be in a cut.
pub record WatchState : Type 0 where
  pub watch : ℕ
  pub panel : Bool
  pub questions : List CheckerState
  pub tags : List Tagged

abbrev pub watch_of : SavedWatch → WatchState
watch_of parts = record {
  watch = parts.watch;
  panel = parts.panel;
  questions = map state_of parts.questions.items;
  tags = parts.tags.items;
}

-- The first word, whose bytes are the letters "wcpwatch".
abbrev pub watch_magic : ℕ
watch_magic = 7521983764603364215

-- The words of a question behind their number, and a tag.
abbrev pub question_words : CheckerState → List ℕ
question_words checker = counted (words_of checker)

abbrev pub tag_words : Tagged → List ℕ
tag_words tagged = tagged.process ∷ tagged.interval ∷ tagged.tag ∷ []

abbrev pub tags_words : List Tagged → List ℕ
tags_words tags = length tags ∷ flat_map tag_words tags

abbrev pub questions_words : List CheckerState → List ℕ
questions_words questions = length questions ∷ flat_map question_words questions

abbrev pub watch_words : WatchState → List ℕ
watch_words watch = watch_magic ∷ version ∷ watch.watch ∷ flag watch.panel
    ∷ (questions_words watch.questions ++ tags_words watch.tags)

-- The one spelling of a watch.
abbrev pub watch_spelling : WatchState → List ℕ
watch_spelling watch = sealed (bytes_of (watch_words watch))

pub record IsTag (tagged : Tagged) : Type 0 where
  pub process : tagged.process < 2 ^ 32
  pub interval : tagged.interval < 2 ^ 32
  pub tag : tagged.tag < 2 ^ 64

pub record IsQuestionInRange (checker : CheckerState) : Type 0 where
  pub range : IsInRange checker
  pub fits : length (words_of checker) < 2 ^ 64

-- The numbers of a watch are such as its memory holds.
pub record IsWatchInRange (watch : WatchState) : Type 0 where
  pub watch_fits : watch.watch < 2 ^ 64
  pub few : length watch.questions < 2 ^ 64
  pub questions_fit : All IsQuestionInRange watch.questions
  pub few_tags : length watch.tags < 2 ^ 64
  pub tags_fit : All IsTag watch.tags
