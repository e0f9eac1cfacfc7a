use Rattle.wcp_script.proofs.Words.{ℕ, ◌+◌, ◌<◌, List, sym, ap, subst, arith, Task, IsFitOrder, IfOrder, IfStuck}
use Rattle.wcp_script.proofs.Words.{IsFirstStuck, IsStuckAt, ScriptFault, ReadsInOrder, AtEnd, some_watched}
use Rattle.wcp_script.specs.declared.fault.FaultKind.TheVariants as kind
use Rattle.wcp_script.proofs.HandedOn.{handed_on, fault_in_text}
use Rattle.wcp_script.proofs.Spelled.{could_be_read, spells_is}
use Rattle.wcp_script.proofs.workload.read_ordered.Goals as goal
use Rattle.wcp_script.proofs.workload.read_ordered.Goals.{In-Stuck, in-AsListed, in-Order}

pub returns-in_err-plan-clause-exact : goal.returns-in_err-plan-clause-exact
returns-in_err-plan-clause-exact c =
    handed_on (ReadsInOrder c.args.bytes.now) c.from_residual.result c.in_err-plan.field-0.0 c.from_residual.ensures
    (fault_in_text c.args.bytes.now c.in_err-plan.field-0.0 c.in_err-plan.ensures.exact)

pub fit_order-requires-clause-few : goal.fit_order-requires-clause-few
fit_order-requires-clause-few c = (spells_is _ _ _ c.in_ok-plan.ensures.exact.0).few_processes

pub fit_order-requires-clause-within : goal.fit_order-requires-clause-within
fit_order-requires-clause-within c = rw c.deref.ensures.value (spells_is _ _ _ c.in_ok-plan.ensures.exact.0).within

is_stuck : (c : In-Stuck) → IsStuckAt c.in_ok-plan.field-0.steps.items c.in-Stuck.place
is_stuck c =
    let tasks = c.deref.result.now in
    let none = subst (λ found. IfStuck found (λ _. (order : List Task) → IsFitOrder tasks order → ⊥)) c.in-Stuck.is
    c.in_ok-fit_order.ensures.no_order in
    let first = subst (λ found. IfStuck found (IsFirstStuck tasks)) c.in-Stuck.is c.in_ok-fit_order.ensures.stuck in
    let at_place : IsStuckAt tasks c.in-Stuck.place = record { no_order = none; first = first } in
    rw (← c.deref.ensures.value) at_place

abbrev fault_at : ℕ → ScriptFault
fault_at line = record { line = line; kind = kind.Stuck }

low : (c : In-Stuck) → c.in-Stuck.place < 65536
low c = omega (arith, (is_stuck c).first.inside, (spells_is _ _ _ c.in_ok-plan.ensures.exact.0).few_tasks)

pub overflow_cast-line : goal.overflow_cast-line
overflow_cast-line c = omega (arith, low c)

pub overflow_add-line : goal.overflow_add-line
overflow_add-line c = omega (arith, low c, c.in_ok-plan.ensures.short)

pub overflow_add-line-in-Stuck : goal.overflow_add-line-in-Stuck
overflow_add-line-in-Stuck c = omega (arith, low c, c.in_ok-plan.ensures.short)

pub returns-in-Stuck-clause-exact : goal.returns-in-Stuck-clause-exact
returns-in-Stuck-clause-exact c =
    let exact = c.in_ok-plan.ensures.exact in
    let line = ap (λ (last : ℕ). fault_at (last + c.in-Stuck.place + 1)) (sym exact.1) in
    AtEnd c.in_ok-plan.field-0.plan c.in_ok-plan.field-0.steps.items exact.0 c.in-Stuck.place
    (is_stuck (goal.at.returns-in-Stuck-clause-exact c).In-Stuck) line

pub returns-clause-could_be_read : goal.returns-clause-could_be_read
returns-clause-could_be_read c =
    let exact = c.in_ok-plan.ensures.exact in
    let tasks = c.in_ok-plan.field-0.steps.items in
    let found : IfOrder tasks c.in_ok-fit_order.field-0 (IsFitOrder tasks) =
    rw c.deref.ensures.value at c.in_ok-fit_order.ensures.order in
    elim c.match-branch-3.branch [
      | in-AsListed w ↦ could_be_read _ _ tasks tasks exact.0 (rw w.in-AsListed.is at found)
      | in-Order w ↦ could_be_read _ _ tasks w.in-Order.order.items exact.0 (rw w.in-Order.is at found)
    ]

pub returns-clause-watched : goal.returns-clause-watched
returns-clause-watched c = some_watched c.in_ok-plan.field-0.plan c.in_ok-plan.ensures.exact.0.checked
