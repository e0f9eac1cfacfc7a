-- What the values of the code stand for while words are read: texts, words, sayings.
use Rattle.std.specs.Prelude.{◌≡◌, List, map, Option, Some, None, Result, Ok, Err}
use Rattle.std.specs.Borrow.{Bor}
use Rattle.trace_condition.specs.declared.fault.ConditionFault.{ConditionFault}
use Rattle.trace_condition.specs.declared.fault.ConditionFault.TheVariants.{Usage, Expression, Memory}
use Rattle.trace_condition.specs.declared.rule.Rule.{Rule}
use Rattle.trace_condition.specs.declared.word.Word.{Word as OwnWord}
use Rattle.trace_condition.specs.declared.saying.Saying.{Saying as OwnSaying}
use Rattle.trace_condition.specs.declared.saying.Kind.{Kind}
use Rattle.trace_condition.specs.declared.saying.Kind.TheVariants.{While, From, At}
use Rattle.trace_condition.specs.declared.saying.ConditionWords.{ConditionWords}
use Rattle.trace_condition.specs.Asked.{Asked, Text, Word, Saying, while_rule, from_rule, at_rule}
use Rattle.trace_condition.specs.Rules.{map_rule}

-- A function failed with this fault: the words say nothing, or memory ran out.
abbrev pub Fails : {Y : Type 0} → ConditionFault → Option Y → Type 0
Fails Usage said = said ≡ None
Fails (Expression host why) said = ⊥
Fails Memory said = Unit {0}

-- What a function returned, seen by view, is what the words say, unless memory ran out.
abbrev pub Gives : {X Y : Type 0} → (X → Y) → Result X ConditionFault → Option Y → Type 0
Gives view (Ok found) said = said ≡ Some (view found)
Gives view (Err fault) said = Fails fault said

-- Texts.
abbrev pub seen_texts : List (Bor Text) → List Text
seen_texts texts = map (λ text. text.now) texts

-- A word.
abbrev pub seen_word : OwnWord → Word
seen_word word = record { host = word.host.now; expression = word.expression.now }

-- A rule of texts.
abbrev pub seen_rule : Rule (Bor Text) → Rule Text
seen_rule rule = map_rule (λ expression. expression.now) rule

-- What is said of a host.
abbrev pub seen_saying : OwnSaying → Saying
seen_saying saying = record { host = saying.host.now; rule = seen_rule saying.rule }

-- The host of which it's said.
abbrev pub host_said : OwnSaying → Text
host_said saying = saying.host.now

-- How an option makes a rule of a word.
abbrev pub kind_rule : Kind → Word → Option (Rule Text)
kind_rule While = while_rule
kind_rule (From untils) = from_rule (map seen_word untils.now)
kind_rule At = at_rule

-- The words of a command line.
abbrev pub seen_words : ConditionWords → Asked
seen_words words = record {
  whiles = seen_texts words.whiles.now;
  froms = seen_texts words.froms.now;
  untils = seen_texts words.untils.now;
  ats = seen_texts words.ats.now;
}
