use Rattle.wcp_cli.proofs.Imports.{◌≡◌, ◌≢◌, true, false, List, [], ◌∷◌, codes, ap, ◌∙◌, sym, subst, refl, None}
use Rattle.wcp_cli.proofs.Imports.{inl, inr, IsAmong, Kinds, Text, fault_of, is_simple, is_simple_and_free, built}
use Rattle.wcp_cli.proofs.Imports.{built_fault, strip_byte, names_of, nothing_held, walk_from, stopped_fault}
use Rattle.wcp_cli.proofs.Imports.{false_from_ne_true, ErrorKind, bytes_eq, AskForSingle, AskForHelp, AskForVersion}
use Rattle.wcp_cli.proofs.Imports.{AskForUnknown, IsAlone, IsReader, IsUnknown, UnknownWord, Further, is_flag}
use Rattle.wcp_cli.proofs.Imports.{program}
use Rattle.clap.proofs.OnLiterals.{clap_on_literals}
use Rattle.std.proofs.lemmas.Slice.Eq.{bytes_eq-Decides}
use Rattle.clap.specs.declared.error.kind.ErrorKind.TheVariants as kind
use Rattle.wcp_cli.proofs.StoppedWalk.{stays_stopped}

pub program_is_free : is_simple_and_free program ≡ true
unfolding clap_on_literals
program_is_free = refl

pub program_is_simple : is_simple program ≡ true
unfolding clap_on_literals
program_is_simple = refl

no_word_passes : built_fault (built program) nothing_held [] ≡ []
unfolding clap_on_literals
no_word_passes = refl

reader_passes : (word : Text) → IsReader word → built_fault (built program) nothing_held (word ∷ []) ≡ []
unfolding clap_on_literals
reader_passes word (inl is) = rw is refl
reader_passes word (inr (inl is)) = rw is refl
reader_passes word (inr (inr is)) = rw is refl

-- a word that reads the input, alone, makes no parse fail
pub reader-passes : (word : Text) (words : List Text) → IsReader word → IsAlone word words → fault_of program words ≡ []
reader-passes word words is alone = ap (built_fault (built program) nothing_held) alone ∙ reader_passes word is

-- the words that ask for an outcome make no parse fail
pub single-passes : (words : List Text) → AskForSingle words → fault_of program words ≡ []
single-passes words (inl none) = ap (built_fault (built program) nothing_held) none ∙ no_word_passes
single-passes words (inr one) = reader-passes (codes "single") words (inl refl) one

-- the words that ask for help make a parse fail
pub help-fails : (words : List Text) → AskForHelp words → fault_of program words ≡ [] → ⊥
unfolding clap_on_literals
help-fails words (inl e) passes = let bad = sym (ap (built_fault (built program) nothing_held) e) ∙ passes in cc
help-fails words (inr (inl e)) passes = let bad = sym (ap (built_fault (built program) nothing_held) e) ∙ passes in cc
help-fails words (inr (inr e)) passes = let bad = sym (ap (built_fault (built program) nothing_held) e) ∙ passes in cc

-- and not as a wish for the version
pub help-is_no_version : (words : List Text) → AskForHelp words → IsAmong kind.DisplayVersion (fault_of program words)
    → ⊥
unfolding clap_on_literals
help-is_no_version words (inl e) among =
    elim (subst (IsAmong kind.DisplayVersion) (ap (built_fault (built program) nothing_held) e) among)
    [ inl bad ↦ cc | inr rest ↦ elim rest [ inl bad ↦ cc | inr none ↦ none ] ]
help-is_no_version words (inr (inl e)) among =
    elim (subst (IsAmong kind.DisplayVersion) (ap (built_fault (built program) nothing_held) e) among)
    [ inl bad ↦ cc | inr none ↦ none ]
help-is_no_version words (inr (inr e)) among =
    elim (subst (IsAmong kind.DisplayVersion) (ap (built_fault (built program) nothing_held) e) among)
    [ inl bad ↦ cc | inr none ↦ none ]

-- the words that ask for the version make a parse fail, and only as a wish for it
pub version-fails : (words : List Text) → AskForVersion words → fault_of program words ≡ kind.DisplayVersion ∷ []
unfolding clap_on_literals
version-fails words (inl e) = ap (built_fault (built program) nothing_held) e
version-fails words (inr e) = ap (built_fault (built program) nothing_held) e

-- ---- words that the command doesn't know

no_hyphen : (word : Text) → is_flag word ≡ false → strip_byte 45 word ≡ None
no_hyphen [] no_flag = refl
no_hyphen (byte ∷ bytes) no_flag = rw no_flag refl

not_end_of_flags : (word : Text) → is_flag word ≡ false → bytes_eq word (45 ∷ 45 ∷ []) ≡ false
not_end_of_flags [] no_flag = refl
not_end_of_flags (byte ∷ bytes) no_flag = rw no_flag refl

not_equal : (name word : Text) → (word ≡ name → ⊥) → bytes_eq name word ≡ false
not_equal name word differs =
    false_from_ne_true (bytes_eq name word) (λ same. differs (sym ((bytes_eq-Decides name word).0 same)))

-- the first word is unknown
unknown_first : (word : Text) (rest : List Text) → IsUnknown word
    → built_fault (built program) nothing_held (word ∷ rest) ≡ kind.UnknownArgument ∷ kind.InvalidSubcommand ∷ []
unfolding clap_on_literals
unknown_first word rest unknown =
    simp (
      not_equal (codes "single") word (λ same. unknown.not_reader (inl same)),
      not_equal (codes "run") word (λ same. unknown.not_reader (inr (inl same))),
      not_equal (codes "replay") word (λ same. unknown.not_reader (inr (inr same))),
      not_equal (codes "ring") word unknown.not_ring,
      not_equal (codes "help") word unknown.not_help,
      not_end_of_flags word unknown.no_flag,
      no_hyphen word unknown.no_flag,
    ) refl

-- a word that reads the input has a further word
further_word : (reader word : Text) (rest : List Text) → IsReader reader → is_flag word ≡ false
    → built_fault (built program) nothing_held (reader ∷ word ∷ rest) ≡ kind.UnknownArgument ∷ []
unfolding clap_on_literals
further_word reader word rest is not_flag =
    let no_flag = no_hyphen word not_flag in
    let not_end = not_end_of_flags word not_flag in
    let stops = λ (name : Text). stays_stopped (built program).top.rules (names_of (built program))
    (walk_from nothing_held) name (word ∷ []) rest in
    let passes = λ (name : Text). stopped_fault (built program).top (names_of (built program)) (walk_from nothing_held)
    (name, word ∷ []) rest in
    elim is [
      | inl single ↦ rw single (simp (stops (codes "single"), passes (codes "single"), not_end, no_flag) refl)
      | inr (inl run) ↦ rw run (simp (stops (codes "run"), passes (codes "run"), not_end, no_flag) refl)
      | inr (inr replay) ↦ rw replay (simp (stops (codes "replay"), passes (codes "replay"), not_end, no_flag) refl)
    ]

-- A parse fails, and neither for help nor for the version.
pub record FailsPlainly (kinds : Kinds) : Type 0 where
  pub fails : kinds ≡ [] → ⊥
  pub no_help : IsAmong kind.DisplayHelp kinds → ⊥
  pub no_version : IsAmong kind.DisplayVersion kinds → ⊥

fails_by_word : FailsPlainly (kind.UnknownArgument ∷ kind.InvalidSubcommand ∷ [])
fails_by_word = record {
  fails = λ bad. cc;
  no_help = λ among. elim among [ inl bad ↦ cc | inr rest ↦ elim rest [ inl bad ↦ cc | inr none ↦ none ] ];
  no_version = λ among. elim among [ inl bad ↦ cc | inr rest ↦ elim rest [ inl bad ↦ cc | inr none ↦ none ] ];
}

-- one reason other than these
fails_by : (why : ErrorKind) → why ≢ kind.DisplayHelp → why ≢ kind.DisplayVersion → FailsPlainly (why ∷ [])
fails_by why not_help not_version = record {
  fails = λ bad. cc;
  no_help = λ among. elim among [ inl same ↦ not_help (sym same) | inr none ↦ none ];
  no_version = λ among. elim among [ inl same ↦ not_version (sym same) | inr none ↦ none ];
}

-- words that ask for what the program doesn't know are refused, and not as a wish for help or the version
pub unknown-fails : (words : List Text) → AskForUnknown words → FailsPlainly (fault_of program words)
unknown-fails words (UnknownWord word rest is unknown) =
    rw (ap (built_fault (built program) nothing_held) is ∙ unknown_first word rest unknown) fails_by_word
unknown-fails words (Further reader word rest is reads no_flag) =
    rw (ap (built_fault (built program) nothing_held) is ∙ further_word reader word rest reads no_flag)
    (fails_by kind.UnknownArgument (λ same. cc) (λ same. cc))
