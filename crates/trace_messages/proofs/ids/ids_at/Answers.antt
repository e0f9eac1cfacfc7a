use Rattle.std.proofs.Common.{◌∙◌, ap, sym, option_map}
use Rattle.json.proofs.Numbered.{HasNumbers-get}
use Rattle.json.specs.Value.{value_view}
use Rattle.trace_messages.proofs.ids.ids_at.Goals as goal

pub no_ids-requires : goal.no_ids-requires
no_ids-requires c =
    HasNumbers-get c.args.name.now (value_view c.args.value.now) (value_view c.in-Some.member.now) c.requires
    (sym (ap (λ o. option_map (λ v. value_view v.now) o) c.in-Some.is) ∙ c.get.ensures)
