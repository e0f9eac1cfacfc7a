-- What is asked about any two hosts.
use Rattle.std.specs.Prelude.{◌||◌, Bool, is_some, Option, Some, None}
use Rattle.std.specs.Borrow.{Bor}
use Rattle.clap.specs.Words.{Text}
use Rattle.trace_condition.specs.declared.rule.Rule.{Rule}
use Rattle.trace_condition.specs.declared.rule.Rule.TheVariants.{While, FromUntil}
use Rattle.trace_words.specs.declared.options.Options.{Options}

-- Whether any two hosts are asked about.
abbrev pub asks_any_two : Options → Bool
asks_any_two options =
    is_some options.any_two || (is_some options.any_two_from || is_some options.any_two_until)

-- The words that ask about them: a state of `--any-two`, or one from `--any-two-from` until `--any-two-until`.
abbrev pub pair_rule : Option (Bor Text) → Option (Bor Text) → Option (Bor Text) → Option (Rule Text)
pair_rule (Some word) None None = Some (While word.now)
pair_rule None (Some from) (Some until) = Some (FromUntil from.now until.now)
pair_rule _ _ _ = None

abbrev pub pair_words : Options → Option (Rule Text)
pair_words options = pair_rule options.any_two options.any_two_from options.any_two_until
