use Rattle.wcp_cli.proofs.Imports.{◌≡◌, ◌∙◌, ◌⊎◌, List, [], ◌∷◌, codes, ap, Some, None, Option, refl, inl, inr}
use Rattle.wcp_cli.proofs.Imports.{option_map, Text, Row, subcommand_of, subcommand_name_of, subcommand_rows}
use Rattle.wcp_cli.proofs.Imports.{subcommand_rows_of, AskForSingle, IsAlone, IsReader, program, built, entered}
use Rattle.wcp_cli.proofs.Imports.{names_of, stop_after}
use Rattle.clap.proofs.OnLiterals.{clap_on_literals}
use Rattle.clap.specs.declared.parser.matches.ArgMatches.{ArgMatches}
use Rattle.clap.specs.declared.parser.matches.ArgMatches.TheViews.{out-ArgMatches, out-SubCommand}
use Rattle.clap.specs.declared.parser.matches.SubCommand.{SubCommand}
use Rattle.std.specs.Box.{box_value}
use Rattle.std.specs.Prelude.{Box}

-- the subcommand that clap finds by the words after the program's name
abbrev found_by : List Text → Option (Text × List Row)
found_by words = entered (built program) (stop_after (built program).top.rules (names_of (built program)) words)

abbrev pub name_of : Option (Text × List Row) → Option Text
name_of = option_map (λ p. p.0)

name_of_rows : {Z : Type 0} (sub : Option (Box SubCommand Z))
    → option_map (λ b. (out-SubCommand (box_value b)).name.now) sub ≡ name_of (subcommand_rows sub)
name_of_rows None = refl
name_of_rows (Some sub) = refl

-- the name of the subcommand that a parse met stands with its rows
pub name-from_rows : (m : ArgMatches) → subcommand_name_of m ≡ name_of (subcommand_rows_of m)
name-from_rows m = name_of_rows (out-ArgMatches m).subcommand

nothing_found : name_of (found_by []) ≡ None
unfolding clap_on_literals
nothing_found = refl

reader_found : (word : Text) → IsReader word → name_of (found_by (word ∷ [])) ≡ Some word
unfolding clap_on_literals
reader_found word (inl is) = rw is refl
reader_found word (inr (inl is)) = rw is refl
reader_found word (inr (inr is)) = rw is refl

pub reader-found : (word : Text) (words : List Text) → IsReader word → IsAlone word words
    → name_of (subcommand_of program words) ≡ Some word
reader-found word words is alone = ap (λ ws. name_of (found_by ws)) alone ∙ reader_found word is

pub single-found : (words : List Text) → AskForSingle words
    → (name_of (subcommand_of program words) ≡ None) ⊎ (name_of (subcommand_of program words) ≡ Some (codes "single"))
single-found words (inl none) = inl (ap (λ ws. name_of (found_by ws)) none ∙ nothing_found)
single-found words (inr one) = inr (reader-found (codes "single") words (inl refl) one)
