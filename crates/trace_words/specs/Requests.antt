-- What the words of the program ask for.
use Rattle.std.specs.Prelude.{◌≡◌, ◌≢◌, Bool, false, List, [], ◌∷◌, Some, None, option_map, codes}
use Rattle.std.specs.Prelude.{if◌then◌else◌}
use Rattle.std.specs.Str.{bytes_eq}
use Rattle.clap.specs.Words.{Row, Text, IsAmong, fault_of, first_of, matches_of}
use Rattle.clap.specs.declared.error.kind.ErrorKind.{ErrorKind}
use Rattle.clap.specs.declared.error.kind.ErrorKind.TheVariants as kind
use Rattle.trace_words.specs.declared.options.TraceRequest.{TraceRequest}
use Rattle.trace_words.specs.declared.options.TraceRequest.TheVariants.{Trace, Help, Version, Unknown}
use Rattle.trace_words.specs.declared.options.Options.{Options}
use Rattle.trace_words.specs.Options.{program, seen_texts, values_at, form_at, format_at, flag_at}
use Rattle.trace_words.specs.Spelled.{AreSpelledIn}

-- The options are what was found.
pub record AreFoundIn (rows : List Row) (options : Options) : Type 0 where
  pub whiles : seen_texts options.whiles.items ≡ values_at (codes "while") rows
  pub froms : seen_texts options.froms.items ≡ values_at (codes "from") rows
  pub untils : seen_texts options.untils.items ≡ values_at (codes "until") rows
  pub ats : seen_texts options.ats.items ≡ values_at (codes "at") rows
  pub any_two : option_map (λ word. word.now) options.any_two ≡ first_of (codes "any-two") rows
  pub any_two_from : option_map (λ word. word.now) options.any_two_from ≡ first_of (codes "any-two-from") rows
  pub any_two_until : option_map (λ word. word.now) options.any_two_until ≡ first_of (codes "any-two-until") rows
  pub questions : option_map (λ name. name.now) options.questions ≡ first_of (codes "questions") rows
  pub question : option_map (λ name. name.now) options.question ≡ first_of (codes "question") rows
  pub all : options.all ≡ flag_at (codes "all") rows
  pub definitely : options.definitely ≡ flag_at (codes "definitely") rows
  pub form : form_at rows ≡ Some options.form
  pub format : options.format ≡ format_at rows
  pub explain : options.explain ≡ flag_at (codes "explain") rows
  pub order : options.order ≡ flag_at (codes "order") rows
  pub page : options.page ≡ flag_at (codes "page") rows
  pub events : option_map (λ word. word.now) options.events ≡ first_of (codes "events") rows
  pub svg : options.svg ≡ flag_at (codes "svg") rows
  pub columns : option_map (λ word. word.now) options.columns ≡ first_of (codes "columns") rows
  pub spelled : AreSpelledIn rows options.spelled
  pub files : seen_texts options.files.items ≡ values_at (codes "file") rows

-- Where no word is refused: a trace by what was found, or an unknown form.
abbrev pub IsTraceOf : List Row → TraceRequest → Type 0
IsTraceOf rows (Trace options) = AreFoundIn rows options
IsTraceOf rows (Unknown why) = form_at rows ≡ None
IsTraceOf rows (Help text) = ⊥
IsTraceOf rows Version = ⊥

-- Where the words are answered by this kind of error: help, the version, or nothing known.
abbrev pub IsRefusalOf : ErrorKind → TraceRequest → Type 0
IsRefusalOf why (Help text) = why ≡ kind.DisplayHelp
IsRefusalOf why Version = why ≡ kind.DisplayVersion
IsRefusalOf why (Unknown line) = (why ≢ kind.DisplayHelp) × (why ≢ kind.DisplayVersion) × (why ≢ kind.OutOfMemory)
IsRefusalOf why (Trace options) = ⊥

-- What words ask for, of which the first is the program's name.
pub data IsRequestOf (words : List Text) (request : TraceRequest) : Type 0 where
  Passed : fault_of program words ≡ [] → IsTraceOf (matches_of program words) request → IsRequestOf words request
  Refused : (why : ErrorKind) → IsAmong why (fault_of program words) → IsRefusalOf why request
      → IsRequestOf words request

-- After the program's name there is the word `help` alone.
abbrev pub asks_by_word : List Text → Bool
asks_by_word (name ∷ word ∷ []) = bytes_eq word (codes "help")
asks_by_word _ = false

-- The words, with `--help` in the place of the word `help`.
abbrev pub spelled : List Text → List Text
spelled words = if asks_by_word words then codes "wcptrace" ∷ codes "--help" ∷ [] else words
