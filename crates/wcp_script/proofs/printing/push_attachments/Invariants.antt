use Rattle.wcp_script.proofs.Words.{◌≡◌, ◌++◌, string_bytes, drop, text_of, numbered, attach_lines}
use Rattle.wcp_script.proofs.printing.push_attachments.Given as goal

abbrev pub invariant-loop-p : goal.invariant-loop-p
invariant-loop-p l = string_bytes l.text ++ text_of (numbered attach_lines l.p (drop l.p l.attach))
    ≡ string_bytes l.fn.text ++ text_of (numbered attach_lines 0 l.attach)
