use Rattle.wcp_cli.proofs.Imports.{◌≡◌, ℕ, zero, suc, Bool, true, List, ◌++◌, replicate, Option, Some, refl, ap₂, ◌∙◌}
use Rattle.wcp_cli.proofs.Imports.{append-nil, eq-eqb, flat_map, list_all, length-replicate, ring_text}
use Rattle.wcp_model.specs.declared.plan.Plan.{Plan}
use Rattle.wcp_model.specs.declared.workload.Task.{Task}
use Rattle.wcp_script.specs.Lines.{Word, text_of}
use Rattle.std.specs.FinSet as set
use Rattle.std.specs.List.{range_with_len}
use Rattle.std.specs.Prelude.{nat_lt}
use Rattle.std.proofs.Common.{◌+◌, ◌<◌, ◌≤◌, ap, arith}
use Rattle.std.proofs.Math.Nat.{min-eq_left}
use Rattle.std.proofs.lemmas.Bool.{lt-ltb}
use Rattle.wcp_script.specs.PlanText.{are_all_watched, has_one_relay, head_lines, is_first, opening_lines}
use Rattle.wcp_script.specs.PlanText.{text_of_workload}
use Rattle.wcp_script.specs.Ring.{IsRingPlan, ring_tasks}
use Rattle.wcp_script.specs.WorkloadText.{task_line}
use Rattle.wcp_script.proofs.Printed.{text_of-head_and_tasks}

-- the first relay serves each process of such a list
all_served : (n : ℕ) → list_all is_first (replicate n (Some 0)) ≡ true
all_served zero = refl
all_served (suc n) = all_served n

-- the plan of a ring has one relay, which serves every process
has_one : (n : ℕ) (plan : Plan) → IsRingPlan n plan → has_one_relay plan ≡ true
has_one n plan ring =
    rw (ring.tree, ring.attached, ring.processes, length-replicate {A = Option ℕ} n (Some 0), eq-eqb n n refl)
    (all_served n)

-- what is so of each number of a range is so of all
all_in : (test : ℕ → Bool) (a m : ℕ) → ((p : ℕ) → p < a + m → test p ≡ true) → list_all test (range_with_len a m) ≡ true
all_in test a zero each = refl
all_in test a (suc m) each =
    rw (each a (omega arith)) (all_in test (a + 1) m (λ p below. each p (omega (arith, below))))

-- every process of a ring is watched
all_watched : (n : ℕ) (plan : Plan) → n ≤ 16 → IsRingPlan n plan → are_all_watched n plan.watched ≡ true
all_watched n plan few ring = all_in (set.contains plan.watched) 0 n (λ p below.
    ring.watched p ∙ ap (nat_lt p) (min-eq_left few) ∙ lt-ltb p n (omega (arith, below)))

-- so its head has no line beyond the first two
short_head : (n : ℕ) (plan : Plan) → n ≤ 16 → IsRingPlan n plan → head_lines plan ≡ opening_lines n
short_head n plan few ring =
    rw (has_one n plan ring, ring.processes, all_watched n plan few ring, ring.flag, ring.links, ring.holds)
    (append-nil (opening_lines n))

pub ring_is_printed : (n rounds : ℕ) (fault : Bool) (plan : Plan) (tasks : List Task) → n ≤ 16 → IsRingPlan n plan
    → tasks ≡ ring_tasks n rounds fault
    → text_of_workload plan tasks ≡ ring_text n rounds fault
ring_is_printed n rounds fault plan tasks few ring are =
    text_of-head_and_tasks plan tasks ∙ ap₂ (λ (head : List (List Word)) (ts : List Task). text_of head ++ flat_map
    task_line ts) (short_head n plan few ring) are
