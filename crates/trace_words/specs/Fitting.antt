-- The conditions that words say, and which words go together.
use Rattle.std.specs.Prelude.{Bool, true, false, length, ◌&&◌, ◌||◌, ◌==◌, not, is_none, is_some}
use Rattle.trace_condition.specs.Asked.{Asked}
use Rattle.trace_text.specs.declared.format.AnswerFormat.{AnswerFormat}
use Rattle.trace_text.specs.declared.format.AnswerFormat.TheVariants.{Lines, Json}
use Rattle.trace_words.specs.declared.options.Options.{Options}
use Rattle.trace_words.specs.AnyTwo.{asks_any_two}
use Rattle.trace_words.specs.Options.{seen_texts}

-- The words HOST=REGEX of the options.
abbrev pub asked_by : Options → Asked
asked_by options = record {
  whiles = seen_texts options.whiles.items;
  froms = seen_texts options.froms.items;
  untils = seen_texts options.untils.items;
  ats = seen_texts options.ats.items;
}

-- No word says a condition, or a part of one.
abbrev pub say_no_condition : Options → Bool
say_no_condition options = (length options.whiles.items == 0) && (length options.froms.items == 0)
    && (length options.untils.items == 0) && (length options.ats.items == 0)

-- Neither a page nor a picture is asked for.
abbrev pub are_answers_alone : Options → Bool
are_answers_alone options = not options.page && not options.svg

-- Neither a page nor a picture is asked for, and no file asks questions.
abbrev pub are_told_as_text : Options → Bool
are_told_as_text options = is_none options.questions && not options.page && not options.svg

-- Whether answers are printed as lines.
abbrev pub are_lines : AnswerFormat → Bool
are_lines Lines = true
are_lines Json = false

-- Answers can be shown with their reasons: each of one moment, in words.
abbrev pub can_say_why : Options → Bool
can_say_why options = not options.svg && not options.all

-- Answers can give the events of a moment in order: one moment's, as text.
abbrev pub can_give_order : Options → Bool
can_give_order options = are_told_as_text options && not options.all && not options.definitely

-- Any two hosts are asked about alone: no condition is said, no file asks questions, and one answer is given, without an
-- explanation.
abbrev pub ask_any_two_alone : Options → Bool
ask_any_two_alone options = say_no_condition options && is_none options.questions && not options.all
    && not options.explain

-- It is asked whether conditions must have held at once: of named hosts whose states last, with one answer.
abbrev pub ask_definitely_alone : Options → Bool
ask_definitely_alone options = not (asks_any_two options) && (length options.ats.items == 0)
    && is_none options.questions && not options.all && not options.explain

-- The words that say how answers are shown go together: not both a page and a picture are asked for, how many events are
-- shown is said of a page alone, how many columns of a picture alone, each moment is asked for where the answer is told
-- as text, JSON neither beside a page nor a picture, an explanation of one moment in words, and an order of one moment
-- as text.
abbrev pub are_shown_together : Options → Bool
are_shown_together options = not (options.page && options.svg) && (is_none options.events || options.page)
    && (is_none options.columns || options.svg) && (not options.all || are_told_as_text options)
    && (are_lines options.format || are_answers_alone options) && (not options.explain || can_say_why options)
    && (not options.order || can_give_order options)

-- Those that ask do: a file asks alone, and one of its questions is named where there is a file; any two hosts are asked
-- about alone, and so is whether conditions must have held at once.
abbrev pub ask_together : Options → Bool
ask_together options = (is_none options.questions || say_no_condition options)
    && (is_none options.question || is_some options.questions)
    && (not (asks_any_two options) || ask_any_two_alone options)
    && (not options.definitely || ask_definitely_alone options)

-- All words go together.
abbrev pub go_together : Options → Bool
go_together options = are_shown_together options && ask_together options
