use Rattle.std.proofs.Common.{◌∙◌, ◌++◌, ap, codes}
use Rattle.std.proofs.lemmas.Result.{IfOk-weaker}
use Rattle.trace_messages.specs.Words.{told}
use Rattle.trace_messages.proofs.ids.no_ids.Goals as goal

pub returns : goal.returns
returns c =
    IfOk-weaker c.format.result _ _ (λ words is. is
    ∙ ap (λ t. codes "\"" ++ (c.args.name.now ++ (codes "\" is no id, and no list of ids: " ++ t)))
    (c.told-shown.ensures ∙ ap told (c.deref.ensures.value ∙ c.in_ok-json.ensures.json))) c.format.ensures.ok
