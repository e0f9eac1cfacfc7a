use Rattle.wcp_script.proofs.Words.{◌≡◌, ◌++◌, string_bytes, flat_map, range_with_len}
use Rattle.wcp_script.specs.PlanText.{spaced_word}
use Rattle.wcp_script.proofs.printing.push_watched.Given as goal

abbrev pub invariant-loop-p : goal.invariant-loop-p
invariant-loop-p l =
    string_bytes l.text ≡ string_bytes l.fn.text ++ flat_map (spaced_word l.watched) (range_with_len 0 l.p)
