-- Rules, expression by expression.
use Rattle.trace_condition.specs.declared.rule.Rule.{Rule}
use Rattle.trace_condition.specs.declared.rule.Rule.TheVariants.{While, FromUntil, At}

-- A rule with what f makes of each expression.
abbrev pub map_rule : {A B : Type 0} → (A → B) → Rule A → Rule B
map_rule f (While expression) = While (f expression)
map_rule f (FromUntil from until) = FromUntil (f from) (f until)
map_rule f (At expression) = At (f expression)

-- P holds of each expression of a rule.
abbrev pub EachOf : {E : Type 0} → (E → Type 0) → Rule E → Type 0
EachOf P (While expression) = P expression
EachOf P (FromUntil from until) = P from × P until
EachOf P (At expression) = P expression
