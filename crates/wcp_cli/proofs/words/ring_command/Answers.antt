use Rattle.wcp_cli.proofs.Imports.{rules, ◌≡◌, ◌∙◌, false, ap, ap₂, codes, IfOk-weaker, app_of, with_rule, new_app}
use Rattle.std.proofs.Common.{◌||◌}
use Rattle.clap.specs.declared.builder.command.Command.TheViews.{out-Command as fields_of}
use Rattle.wcp_cli.proofs.words.ring_command.Goals as goal

pub returns-clause-shape : goal.returns-clause-shape
returns-clause-shape c =
    let start : app_of c.about.result ≡ new_app (codes "ring") = search rules in
    let first = c.in_ok-arg.ensures.shape c.number_option.ensures.local
    ∙ ap₂ with_rule start c.number_option.ensures.rule in
    let second = c.in_ok-arg-2.ensures.shape c.number_option-2.ensures.local
    ∙ ap₂ with_rule first c.number_option-2.ensures.rule in
    IfOk-weaker c.arg-3.result _ _ (λ r adds. ap (λ a. a.top) (adds.shape c.fault_option.ensures.local
    ∙ ap₂ with_rule second c.fault_option.ensures.rule)) c.arg-3.ensures

pub returns-clause-local : goal.returns-clause-local
returns-clause-local c =
    let start : (fields_of c.about.result).has_globals ≡ false = search rules in
    let first = c.in_ok-arg.ensures.globals ∙ ap₂ (λ a b. a || b) start c.number_option.ensures.local in
    let second = c.in_ok-arg-2.ensures.globals ∙ ap₂ (λ a b. a || b) first c.number_option-2.ensures.local in
    IfOk-weaker c.arg-3.result _ _
    (λ r adds. adds.globals ∙ ap₂ (λ a b. a || b) second c.fault_option.ensures.local) c.arg-3.ensures
