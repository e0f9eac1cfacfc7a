use Rattle.std.proofs.Common.{◌≡◌, ◌<◌, length, rules, tests}
use Rattle.std.proofs.lemmas.Iterator.{cases_from_any, YieldsList-from_slice}
use Rattle.draw_cli.proofs.Parts.{all_named}
use Rattle.draw_cli.proofs.naming.has_empty.Goals as goal

pub returns-clause-none : goal.returns-clause-none
returns-clause-none c none =
    all_named c.args.texts.now c.any.result none (cases_from_any _ _ _ (λ text. length text.now ≡ 0)
    (λ text. 0 < length text.now) c.any.ensures.ran (YieldsList-from_slice c.args.texts.now cc)
    (λ x q called. search (rules, tests)) (λ x q called. search (rules, tests)))
