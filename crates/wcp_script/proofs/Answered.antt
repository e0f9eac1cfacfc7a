-- What follows for a text from what reading it answered.
use Rattle.wcp_script.proofs.Words.{◌≡◌, ℕ, ◌≤◌, List, length, Result, Ok, Err, sym, ap, subst, ◌∙◌, arith, IfOk, IfErr}
use Rattle.wcp_script.proofs.Words.{Plan, Step, Task, IsCheckedPlan, IsSamePlan, IsFitOrder, CouldBeRead, ScriptFault}
use Rattle.wcp_script.proofs.Words.{ReadFault, Script, NoMemory, IsStuckAt, HeadRead, head_of, IsPlanOf, TextKind}
use Rattle.wcp_script.proofs.Words.{workloads, schedules, steps_by, Spells, HasTextFault, InHead, OfPlan, InStep}
use Rattle.wcp_script.proofs.Words.{HasWorkloadFault, InText, AtEnd, IsReadAs, IsRefusedFor, IsFaultOf, ReadsSchedule}
use Rattle.wcp_script.proofs.Words.{ReadsWorkload, some_watched}
use Rattle.wcp_model.specs.declared.workload.Workload.{Workload}
use Rattle.wcp_model.specs.Watched.{AreSomeWatched}
use Rattle.wcp_script.specs.declared.schedule.Schedule.{Schedule}
use Rattle.wcp_script.proofs.Questions.{ok_is}
use Rattle.wcp_script.proofs.SamePlan.{same_plan, same_fault_of_plan}
use Rattle.wcp_script.proofs.Spelled as spelled

same_head : {S : Type 0} (text_kind : TextKind S) (text : List ℕ) (one other : HeadRead)
    → head_of text_kind.is_step_word text ≡ Ok one → head_of text_kind.is_step_word text ≡ Ok other → one ≡ other
same_head text_kind text one other e d = ok_is {E = ScriptFault} one other (sym e ∙ d)

-- The steps after a head.
abbrev steps_after : {S : Type 0} → TextKind S → HeadRead → Result (List S) ScriptFault
steps_after text_kind read = steps_by text_kind read.head.n read.last 0 read.after

same_steps_after : {S : Type 0} (text_kind : TextKind S) (one other : HeadRead) → one ≡ other
    → steps_after text_kind one ≡ steps_after text_kind other
same_steps_after text_kind one other same = ap (steps_after text_kind) same

-- A text spells one plan and one list of steps.
same_reading : {S : Type 0} (text_kind : TextKind S) (text : List ℕ) (plan plan' : Plan) (steps steps' : List S)
    → Spells text_kind text plan steps → Spells text_kind text plan' steps' → IsSamePlan plan plan' × (steps ≡ steps')
same_reading text_kind text plan plan' steps steps' h k =
    let same = same_head text_kind text h.read k.read h.head k.head in
    let read : steps_after text_kind h.read ≡ steps_after text_kind k.read =
    same_steps_after text_kind h.read k.read same in
    (same_plan h.read k.read plan plan' same h.plan_of_head k.plan_of_head, grind (arith, read, h.lines, k.lines))

-- A plan of one head is without fault where another plan of the head is.
no_plan_fault : {S : Type 0} (text_kind : TextKind S) (text : List ℕ) (one other : HeadRead) (plan plan' : Plan)
    → head_of text_kind.is_step_word text ≡ Ok one → head_of text_kind.is_step_word text ≡ Ok other
    → IsPlanOf one.head plan → IsPlanOf other.head plan' → IsCheckedPlan plan' → IsCheckedPlan plan
no_plan_fault text_kind text one other plan plan' e d h k checked first has =
    checked first (same_fault_of_plan plan plan'
    (same_plan one other plan plan' (same_head text_kind text one other e d) h k) first has)

-- What spells steps has no fault.
no_fault : {S : Type 0} (text_kind : TextKind S) (text : List ℕ) (fault : ScriptFault) (plan : Plan) (steps : List S)
    → Spells text_kind text plan steps → HasTextFault text_kind text fault → ⊥
no_fault text_kind text fault plan steps h (InHead refused) = let head = h.head in absurd cc
no_fault text_kind text fault plan steps h (OfPlan read plan' first head of_head has line) =
    no_plan_fault text_kind text read h.read plan' plan head h.head of_head h.plan_of_head h.checked first has
no_fault text_kind text fault plan steps h (InStep read plan' head of_head checked refused) =
    grind (arith, same_head, same_steps_after)

-- A text has at most one fault.
same_fault : {S : Type 0} (text_kind : TextKind S) (text : List ℕ) (one other : ScriptFault)
    → HasTextFault text_kind text one → HasTextFault text_kind text other → one ≡ other
same_fault text_kind text one other (InHead refused) (InHead refused') = cc
same_fault text_kind text one other (InHead refused) (OfPlan read plan first head of_head has line) = absurd cc
same_fault text_kind text one other (InHead refused) (InStep read plan head of_head checked refused') = absurd cc
same_fault text_kind text one other (OfPlan read plan first head of_head has line) (InHead refused) = absurd cc
same_fault text_kind text one other (OfPlan read plan first head of_head has line)
    (OfPlan read' plan' first' head' of_head' has' line') =
    let same = same_head text_kind text read read' head head' in cc
same_fault text_kind text one other (OfPlan read plan first head of_head has line)
    (InStep read' plan' head' of_head' checked refused') =
    absurd (no_plan_fault text_kind text read read' plan plan' head head' of_head of_head' checked first has)
same_fault text_kind text one other (InStep read plan head of_head checked refused) (InHead refused') = absurd cc
same_fault text_kind text one other (InStep read plan head of_head checked refused)
    (OfPlan read' plan' first head' of_head' has line) =
    absurd (no_plan_fault text_kind text read' read plan' plan head' head of_head' of_head checked first has)
same_fault text_kind text one other (InStep read plan head of_head checked refused)
    (InStep read' plan' head' of_head' checked' refused') =
    let same = same_steps_after text_kind read read' (same_head text_kind text read read' head head') in cc

-- What spells tasks that have a fit order has no fault.
no_workload_fault : (text : List ℕ) (fault : ScriptFault) (plan : Plan) (tasks order : List Task)
    → Spells workloads text plan tasks → IsFitOrder tasks order → HasWorkloadFault text fault → ⊥
no_workload_fault text fault plan tasks order h fit (InText has) = no_fault workloads text fault plan tasks h has
no_workload_fault text fault plan tasks order h fit (AtEnd plan' tasks' spells place stuck line) =
    stuck.no_order order (subst (λ (tasks : List Task). IsFitOrder tasks order)
    (same_reading workloads text plan plan' tasks tasks' h spells).1 fit)

same_place : (tasks : List Task) (one other : ℕ) → IsStuckAt tasks one → IsStuckAt tasks other → one ≡ other
same_place tasks one other h k = grind arith

same_workload_fault : (text : List ℕ) (one other : ScriptFault) → HasWorkloadFault text one
    → HasWorkloadFault text other → one ≡ other
same_workload_fault text one other (InText has) (InText has') = same_fault workloads text one other has has'
same_workload_fault text one other (InText has) (AtEnd plan tasks spells place stuck line) =
    absurd (no_fault workloads text one plan tasks spells has)
same_workload_fault text one other (AtEnd plan tasks spells place stuck line) (InText has) =
    absurd (no_fault workloads text other plan tasks spells has)
same_workload_fault text one other (AtEnd plan tasks spells place stuck line)
    (AtEnd plan' tasks' spells' place' stuck' line') =
    grind (arith, same_head, same_place, same_reading)

pub schedule_answered : (text : List ℕ) (r : Result Schedule ReadFault) → ReadsSchedule text r
    → IfOk r (λ schedule. Spells schedules text schedule.plan schedule.steps.items)
    × IfOk r (λ schedule. IsCheckedPlan schedule.plan)
    × IfOk r (λ schedule. length schedule.steps.items ≤ 65536)
    × ((plan : Plan) (steps : List Step) → Spells schedules text plan steps
    → IsReadAs (λ schedule. IsSamePlan schedule.plan plan × (schedule.steps.items ≡ steps)) r)
    × IfErr r (IsFaultOf (HasTextFault schedules text))
    × ((fault : ScriptFault) → HasTextFault schedules text fault → IsRefusedFor fault r)
schedule_answered text (Ok schedule) h =
    let steps = schedule.steps.items in (
      h,
      h.checked,
      spelled.few_steps schedules text schedule.plan steps h,
      λ plan others spells. same_reading schedules text schedule.plan plan steps others h spells,
      tt,
      λ fault has. no_fault schedules text fault schedule.plan steps h has,
    )
schedule_answered text (Err (Script given)) h = (
  tt,
  tt,
  tt,
  λ plan steps spells. no_fault schedules text given plan steps spells h,
  h,
  λ fault has. same_fault schedules text given fault h has,
)
schedule_answered text (Err NoMemory) h = (tt, tt, tt, λ plan steps spells. tt, tt, λ fault has. tt)

pub workload_answered : (text : List ℕ) (r : Result Workload ReadFault) → ReadsWorkload text r
    → IfOk r (λ workload. Spells workloads text workload.plan workload.tasks.items)
    × IfOk r (λ workload. CouldBeRead workload.plan.n workload.tasks.items)
    × IfOk r (λ workload. IsCheckedPlan workload.plan)
    × ((plan : Plan) (tasks : List Task) → Spells workloads text plan tasks → CouldBeRead plan.n tasks
    → IsReadAs (λ workload. IsSamePlan workload.plan plan × (workload.tasks.items ≡ tasks)) r)
    × IfErr r (IsFaultOf (HasWorkloadFault text))
    × ((fault : ScriptFault) → HasWorkloadFault text fault → IsRefusedFor fault r)
workload_answered text (Ok workload) h =
    let plan = workload.plan in
    let tasks = workload.tasks.items in (
      h.spells,
      spelled.could_be_read text plan tasks h.order h.spells h.fit,
      h.spells.checked,
      λ other others spells could. same_reading workloads text plan other tasks others h.spells spells,
      tt,
      λ fault has. no_workload_fault text fault plan tasks h.order h.spells h.fit has,
    )
workload_answered text (Err (Script given)) h = (
  tt,
  tt,
  tt,
  λ plan tasks spells could. no_workload_fault text given plan tasks could.order spells could.fit h,
  h,
  λ fault has. same_workload_fault text given fault h has,
)
workload_answered text (Err NoMemory) h = (tt, tt, tt, λ plan tasks spells could. tt, tt, λ fault has. tt)

-- Of a workload that was read some are watched.
pub some_watched_read : (read : Result Workload ReadFault) → IfOk read (λ workload. IsCheckedPlan workload.plan)
    → IfOk read (λ workload. AreSomeWatched workload.plan.n workload.plan.watched)
some_watched_read (Ok workload) checked = some_watched workload.plan checked
some_watched_read (Err fault) checked = tt
