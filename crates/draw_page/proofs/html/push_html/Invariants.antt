use Rattle.std.proofs.Common.{◌≡◌, ◌++◌, take}
use Rattle.draw_page.specs.Data.{html}
use Rattle.draw_page.proofs.html.push_html.Given as goal

abbrev pub invariant-loop-byte : goal.invariant-loop-byte
invariant-loop-byte l = l.bytes.items ≡ l.initial.bytes.items ++ html (take l.byte-index l.text)
