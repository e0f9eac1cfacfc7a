use Rattle.std.proofs.Common.{◌≡◌, take, w32, length}
use Rattle.std.specs.Int.{from_le_bytes}
use Rattle.wcp_script.proofs.Words.{arith}
use Rattle.wcp_script.proofs.FourBytes.{begins_with_four}
use Rattle.wcp_script.proofs.printed_line.after_four.Goals as goal

pub returns-then-from_le_bytes : goal.returns-then-from_le_bytes
returns-then-from_le_bytes c =
    let parts = c.in_ok-front.ensures.cases in
    let short : length c.args.four.now ≡ 4 = omega (arith, c.told-four) in
    let same : from_le_bytes w32 (take 4 c.args.text.now) ≡ from_le_bytes w32 c.args.four.now =
    grind (arith, c.if-from_le_bytes.true, c.from_le_bytes.ensures, c.from_le_bytes-2.ensures, parts.0) in
    let begins = begins_with_four c.args.text.now c.args.four.now (omega (arith, parts.2)) short
    (λ i. let fits = c.type_inv.text i in omega arith) (λ i. let fits = c.fits-four i in omega arith) same in
    grind (arith, begins, parts.1)
