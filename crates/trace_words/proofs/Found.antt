-- What clap finds at the program's options, and how it answers words.
use Rattle.trace_words.proofs.OptionWords.{◌≡◌, ◌⊎◌, inl, inr, true, List, [], map, codes, Option, Some, None, option_map}
use Rattle.trace_words.proofs.OptionWords.{Result, Ok, Err, IfOk, refl, sym, ◌∙◌, Text, IsAmong, all_of, fault_of}
use Rattle.trace_words.proofs.OptionWords.{first_of}
use Rattle.trace_words.proofs.OptionWords.{first_value, is_simple, is_simple_and_free, matched_of, raw_values, rows_of}
use Rattle.trace_words.proofs.OptionWords.{TraceRequest, Trace, Help, Version, Unknown, program, seen_texts}
use Rattle.trace_words.proofs.OptionWords.{values_at}
use Rattle.trace_words.proofs.OptionWords.{first_line_at, last_line_at, line_said, IsRefusalOf, IsRequestOf, Refused}
use Rattle.std.specs.Borrow.{Bor}
use Rattle.std.specs.Option.{MatchOption, option_map_or}
use Rattle.std.specs.Str.{bytes_eq}
use Rattle.std.specs.Prelude.{false}
use Rattle.trace_words.specs.Options.{flag_at}
use Rattle.clap.proofs.OnLiterals.{clap_on_literals}
use Rattle.clap.proofs.WalkLemmas.{raw_values-rows, first_value-rows}
use Rattle.clap.specs.declared.parser.matches.Found.{Found}
use Rattle.clap.specs.declared.error.kind.ErrorKind.{ErrorKind}
use Rattle.clap.specs.declared.error.kind.ErrorKind.TheVariants as kind

pub program_is_free : is_simple_and_free program ≡ true
unfolding clap_on_literals
program_is_free = refl

pub program_is_simple : is_simple program ≡ true
unfolding clap_on_literals
program_is_simple = refl

-- The values that `get_strs` gives.
pub values_as : (found : Found) (name : Text) (values : Option (Bor (List (Bor Text))))
    → option_map (λ s. map (λ v. v.now) s.now) values ≡ option_map raw_values (matched_of found name)
    → MatchOption values (values_at name (rows_of found) ≡ []) (λ s. values_at name (rows_of found) ≡ seen_texts s.now)
values_as found name None is =
    let none : all_of name (rows_of found) ≡ None = sym (raw_values-rows found name) ∙ sym is in rw none refl
values_as found name (Some values) is =
    let some : all_of name (rows_of found) ≡ Some (seen_texts values.now) =
    sym (raw_values-rows found name) ∙ sym is in rw some refl

-- The lines that `get_str` gives the words of.
pub first_line_as : (found : Found) (word : Option (Bor Text))
    → option_map (λ s. s.now) word ≡ first_value found (codes "from-line")
    → first_line_at (rows_of found) ≡ option_map_or (λ s. line_said s.now) word (Some 1)
first_line_as found None is =
    let none : first_of (codes "from-line") (rows_of found) ≡ None =
    sym (first_value-rows found (codes "from-line")) ∙ sym is in rw none refl
first_line_as found (Some word) is =
    let some : first_of (codes "from-line") (rows_of found) ≡ Some word.now =
    sym (first_value-rows found (codes "from-line")) ∙ sym is in rw some refl

pub last_line_as : (found : Found) (word : Option (Bor Text))
    → option_map (λ s. s.now) word ≡ first_value found (codes "to-line")
    → last_line_at (rows_of found)
    ≡ option_map_or (λ s. option_map (λ line. Some line) (line_said s.now)) word (Some None)
last_line_as found None is =
    let none : first_of (codes "to-line") (rows_of found) ≡ None =
    sym (first_value-rows found (codes "to-line")) ∙ sym is in rw none refl
last_line_as found (Some word) is =
    let some : first_of (codes "to-line") (rows_of found) ≡ Some word.now =
    sym (first_value-rows found (codes "to-line")) ∙ sym is in rw some refl

-- What `get_str` gives of a flag.
pub flag_as : (found : Found) (name : Text) (text : Option (Bor Text))
    → option_map (λ s. s.now) text ≡ first_value found name
    → flag_at name (rows_of found) ≡ option_map_or (λ s. bytes_eq s.now (codes "true")) text false
flag_as found name None is =
    let none : first_of name (rows_of found) ≡ None = sym (first_value-rows found name) ∙ sym is in rw none refl
flag_as found name (Some text) is =
    let some : first_of name (rows_of found) ≡ Some text.now =
    sym (first_value-rows found name) ∙ sym is in rw some refl

-- The word of an option that `get_str` gives.
pub word_as : (found : Found) (name : Text) (word : Option (Bor Text))
    → option_map (λ s. s.now) word ≡ first_value found name
    → option_map (λ s. s.now) word ≡ first_of name (rows_of found)
word_as found name word is = is ∙ first_value-rows found name

not_for_memory : (request : TraceRequest) → IsRefusalOf kind.OutOfMemory request → ⊥
not_for_memory (Trace options) refused = refused
not_for_memory (Help text) refused = cc
not_for_memory Version refused = cc
not_for_memory (Unknown line) refused = refused.2 refl

-- What is asked for by words that clap answers with an error.
pub refused_as : {E : Type 0} (words : List Text) (why : ErrorKind) (result : Result TraceRequest E)
    → (why ≡ kind.OutOfMemory) ⊎ IsAmong why (fault_of program words) → IfOk result (IsRefusalOf why)
    → IfOk result (IsRequestOf words)
refused_as words why (Err error) by refused = tt
refused_as words why (Ok request) (inl memory) refused = absurd (not_for_memory request (rw memory at refused))
refused_as words why (Ok request) (inr among) refused = Refused why among refused
