use Rattle.std.specs.Prelude.{◌≡◌, ◌≢◌, ◌⊎◌, ◌==◌, ◌≤◌, ℕ, Bool, true, false, List, [], ◌∷◌, Some, pos, drop, codes}
use Rattle.clap.specs.Words.{App, Rule, Shape, Text, new_app, new_rule, with_subcommand}
use Rattle.clap.specs.Simple.{new_shape, on_top}
use Rattle.clap.specs.declared.builder.action.ArgAction.TheVariants.{SetTrue}
use Rattle.clap.specs.declared.builder.value_parser.ValueParser.TheVariants.{Signed}
use Rattle.wcp_clock.specs.Limits.{most_processes}
use Rattle.wcp_script.specs.Ring.{most_rounds}
use Rattle.wcp_cli.specs.declared.words.Request.{Request}
use Rattle.wcp_cli.specs.declared.words.Request.TheVariants.{Single, Run, Replay, Ring, Help, Version, Unknown}

-- A ring has at least 2 processes.
abbrev pub least_ring : ℕ
least_ring = 2

-- Each process of a ring has its turn at least once.
abbrev pub least_rounds : ℕ
least_rounds = 1

-- An option that is required and takes one number of 32 bits.
abbrev pub number_option : Text → Rule
number_option name = record (new_rule name) {
  long = Some name;
  value_names = 1;
  parser = Some (Signed (pos 0) (pos 4294967295));
  required = true;
}

-- An option that takes no value and may be left out.
abbrev pub flag_option : Text → Rule
flag_option name = record (new_rule name) {
  long = Some name;
  action = Some SetTrue;
}

-- The word `ring` with its options.
abbrev pub ring_shape : Shape
ring_shape = record (new_shape (codes "ring")) {
  rules = number_option (codes "procs") ∷ number_option (codes "rounds") ∷ flag_option (codes "fault") ∷ [];
}

-- The program's name, and that it has a version.
abbrev pub named : App
named = on_top (λ s. record s { has_version = true }) (new_app (codes "wcpwatch"))

-- The command line of the program: the words `single`, `run`, `replay` and `ring`, and what clap adds for help and for
-- the version.
abbrev pub program : App
program =
    let with_single = with_subcommand named (new_shape (codes "single")) in
    let with_run = with_subcommand with_single (new_shape (codes "run")) in
    with_subcommand (with_subcommand with_run (new_shape (codes "replay"))) ring_shape

-- After the program's name there is this word alone.
abbrev pub IsAlone : Text → List Text → Type 0
IsAlone word words = drop 1 words ≡ word ∷ []

-- The words ask for the outcome of a workload: after the program's name there is none, or `single` alone.
abbrev pub AskForSingle : List Text → Type 0
AskForSingle words = (drop 1 words ≡ []) ⊎ IsAlone (codes "single") words

-- There is a ring of so many processes and rounds.
pub record IsRing (n rounds : ℕ) : Type 0 where
  pub more_than_one : least_ring ≤ n
  pub few : n ≤ most_processes
  pub some_rounds : least_rounds ≤ rounds
  pub few_rounds : rounds ≤ most_rounds

-- The words ask for help.
abbrev pub AskForHelp : List Text → Type 0
AskForHelp words =
    (drop 1 words ≡ codes "help" ∷ []) ⊎ (drop 1 words ≡ codes "-h" ∷ []) ⊎ (drop 1 words ≡ codes "--help" ∷ [])

-- The words ask for the version.
abbrev pub AskForVersion : List Text → Type 0
AskForVersion words = IsAlone (codes "-V") words ⊎ IsAlone (codes "--version") words

-- A flag begins with a hyphen.
abbrev pub is_flag : Text → Bool
is_flag [] = false
is_flag (byte ∷ bytes) = byte == 45

-- A word for which the program reads its input, and after which no other stands.
abbrev pub IsReader : Text → Type 0
IsReader word = (word ≡ codes "single") ⊎ (word ≡ codes "run") ⊎ (word ≡ codes "replay")

-- The program doesn't know the word, which is no flag.
pub record IsUnknown (word : Text) : Type 0 where
  pub no_flag : is_flag word ≡ false
  pub not_reader : IsReader word → ⊥
  pub not_ring : word ≢ codes "ring"
  pub not_help : word ≢ codes "help"

-- The words ask for what the program doesn't know: their first is unknown, or it is `single`, `run` or `replay` and a
-- word that is no flag follows it.
pub data AskForUnknown (words : List Text) : Type 0 where
  UnknownWord : (word : Text) (rest : List Text) → drop 1 words ≡ word ∷ rest → IsUnknown word → AskForUnknown words
  Further : (reader word : Text) (rest : List Text) → drop 1 words ≡ reader ∷ word ∷ rest → IsReader reader
      → is_flag word ≡ false → AskForUnknown words

-- The words ask for this request. A request for help is asked for with any text. Of no words it is said that they ask
-- for a ring.
abbrev pub AskFor : Request → List Text → Type 0
AskFor Single words = AskForSingle words
AskFor Run words = IsAlone (codes "run") words
AskFor Replay words = IsAlone (codes "replay") words
AskFor (Ring ring) words = ⊥
AskFor (Help text) words = AskForHelp words
AskFor Version words = AskForVersion words
AskFor Unknown words = AskForUnknown words

-- A request for help, or what the program doesn't know: clap doesn't promise that the word `help` is heard.
abbrev pub MayHelp : Request → Type 0
MayHelp (Help text) = Unit {0}
MayHelp Unknown = Unit {0}
MayHelp _ = ⊥

-- A request is the one that was asked for; where that is help, it carries any text, or the words are turned away.
abbrev pub IsSameRequest : Request → Request → Type 0
IsSameRequest (Help text) request = MayHelp request
IsSameRequest asked request = request ≡ asked

-- A request for a ring is for one that there is.
abbrev pub HasRing : Request → Type 0
HasRing (Ring ring) = IsRing ring.procs ring.rounds
HasRing _ = Unit {0}
