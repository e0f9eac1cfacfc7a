use Rattle.trace_spelling.proofs.Words.{◌∙◌, ap, sym, option_map}
use Rattle.json.specs.Value.{value_view}
use Rattle.trace_spelling.specs.Ways.{seen_path}
use Rattle.trace_spelling.proofs.Numbers.{at_path}
use Rattle.trace_spelling.proofs.finder.say_object.Goals as goal

pub push_event-requires : goal.push_event-requires
push_event-requires c =
    at_path (seen_path c.args.fields.now.clock) (value_view c.args.value.now) (value_view c.in-Some-value_in.clock.now)
    c.requires (sym (ap (λ o. option_map (λ v. value_view v.now) o) c.in-Some-value_in.is) ∙ c.value_in.ensures)
