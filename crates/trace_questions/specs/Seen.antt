-- What the values of the code stand for: texts and wordings.
use Rattle.std.specs.Prelude.{ℕ, List}
use Rattle.trace_condition.specs.Asked.{Asked}
use Rattle.trace_condition.specs.Sayings.{seen_texts}
use Rattle.trace_pairs.specs.Words.{seen_words as seen_rule}
use Rattle.trace_questions.specs.declared.asked_words.HostWords.{HostWords}
use Rattle.trace_questions.specs.declared.asked_words.AskedWords.{AskedWords as OwnWords}
use Rattle.trace_questions.specs.declared.asked_words.AskedWords.TheVariants as own
use Rattle.trace_questions.specs.declared.wording.Wording.{Wording as OwnWording}
use Rattle.trace_questions.specs.Wordings.{AskedWords, Wording, of_any_two, of_hosts, of_hosts_definitely}

-- The words of a question.
abbrev pub seen_host_words : HostWords → Asked
seen_host_words words = record {
  whiles = seen_texts words.whiles.items;
  froms = seen_texts words.froms.items;
  untils = seen_texts words.untils.items;
  ats = seen_texts words.ats.items;
}

abbrev pub seen_asked : OwnWords → AskedWords
seen_asked (own.OfHosts words) = of_hosts (seen_host_words words)
seen_asked (own.OfHostsDefinitely words) = of_hosts_definitely (seen_host_words words)
seen_asked (own.OfAnyTwo words) = of_any_two (seen_rule words)

-- A wording.
abbrev pub seen_wording : OwnWording → Wording
seen_wording wording = record { name = wording.name.now; asks = seen_asked wording.asks }

-- The name that it gives.
abbrev pub name_worded : OwnWording → List ℕ
name_worded wording = wording.name.now
