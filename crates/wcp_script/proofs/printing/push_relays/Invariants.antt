use Rattle.wcp_script.proofs.Words.{◌≡◌, ◌++◌, string_bytes, drop, text_of, numbered, relay_lines}
use Rattle.wcp_script.proofs.printing.push_relays.Given as goal

abbrev pub invariant-loop-relay : goal.invariant-loop-relay
invariant-loop-relay l = string_bytes l.text ++ text_of (numbered relay_lines l.relay (drop l.relay l.parents))
    ≡ string_bytes l.fn.text ++ text_of (numbered relay_lines 0 l.parents)
