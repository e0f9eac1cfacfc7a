-- What follows for steps from being spelled.
use Rattle.wcp_script.proofs.Words.{◌≡◌, ℕ, ◌+◌, ◌≤◌, List, [], ◌∷◌, length, All, Ok, subst, arith, AllByRecursion}
use Rattle.wcp_script.proofs.Words.{All-from_recursion, Plan, Task, IsWithin, IsFitOrder, CouldBeRead, TextLine, ◌>>=◌}
use Rattle.wcp_script.proofs.Words.{at_line, TextKind, workloads, step_after, Spells, some_process, few_processes}
use Rattle.wcp_script.specs.WorkloadLines.{task_in}
use Rattle.wcp_script.specs.TextFault.{steps_by}
use Rattle.wcp_script.proofs.Questions.{bind_ok, ok_is, at_line_ok}
use Rattle.wcp_script.proofs.StepLines.{step_after_is}

-- Each of the steps that lines say is one that a line of this kind can say.
pub steps_by_are : {S : Type 0} (text_kind : TextKind S) (n : ℕ) (P : S → Type 0)
    → ((line : TextLine) (step : S) → text_kind.said n line ≡ Ok step → P step)
    → (last earlier : ℕ) (lines : List TextLine) (steps : List S) → steps_by text_kind n last earlier lines ≡ Ok steps
    → AllByRecursion P steps × (earlier ≤ 65536 → earlier + length steps ≤ 65536)
unfolding steps_by
steps_by_are text_kind n P each last earlier [] steps e = subst (λ steps. AllByRecursion P steps
    × (earlier ≤ 65536 → earlier + length steps ≤ 65536)) (ok_is [] steps e) (tt, λ h. omega arith)
steps_by_are text_kind n P each last earlier (line ∷ lines) steps e =
    let first = bind_ok (at_line (last + earlier + 1) (step_after text_kind n earlier line))
    (λ step. steps_by text_kind n last (earlier + 1) lines >>= λ steps. Ok (step ∷ steps)) steps e in
    let others =
    bind_ok (steps_by text_kind n last (earlier + 1) lines) (λ steps. Ok (first.0 ∷ steps)) steps first.2 in
    let is = step_after_is text_kind n earlier line first.0
    (at_line_ok (last + earlier + 1) (step_after text_kind n earlier line) first.0 first.1) in
    let rest = steps_by_are text_kind n P each last (earlier + 1) lines others.0 others.1 in
    subst (λ steps. AllByRecursion P steps × (earlier ≤ 65536 → earlier + length steps ≤ 65536))
    (ok_is (first.0 ∷ others.0) steps others.2)
    ((each line first.0 is.said, rest.0), λ h. omega (arith, is.few, rest.1 (omega (arith, is.few))))

task_in_within : (n : ℕ) (line : TextLine) (task : Task) → task_in n line ≡ Ok task → IsWithin n task
unfolding task_in
task_in_within n line task e = grind arith

-- The tasks that a text spells are within the limits.
pub record IsSpelled (n : ℕ) (tasks : List Task) : Type 0 where
  pub some : 1 ≤ n
  pub few_processes : n ≤ 16
  pub few_tasks : length tasks ≤ 65536
  pub within : All (IsWithin n) tasks

pub few_steps : {S : Type 0} (text_kind : TextKind S) (text : List ℕ) (plan : Plan) (steps : List S)
    → Spells text_kind text plan steps → length steps ≤ 65536
few_steps text_kind text plan steps h =
    let are = steps_by_are text_kind h.read.head.n (λ step. Unit {0})
    (λ line step said. tt) h.read.last 0 h.read.after steps h.lines in
    omega (arith, are.1 (omega arith))

pub spells_is : (text : List ℕ) (plan : Plan) (tasks : List Task) → Spells workloads text plan tasks
    → IsSpelled plan.n tasks
spells_is text plan tasks h =
    search (
      arith,
      steps_by_are workloads h.read.head.n (IsWithin h.read.head.n) (task_in_within
          h.read.head.n) h.read.last 0 h.read.after tasks h.lines,
      All-from_recursion,
      some_process,
      few_processes,
    )

pub could_be_read : (text : List ℕ) (plan : Plan) (tasks order : List Task) → Spells workloads text plan tasks
    → IsFitOrder tasks order → CouldBeRead plan.n tasks
could_be_read text plan tasks order h fit = grind (arith, spells_is text plan tasks h)
