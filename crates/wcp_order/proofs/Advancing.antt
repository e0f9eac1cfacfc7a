-- One more task is done.
use Rattle.wcp_order.proofs.Words.{◌≡◌, ℕ, ◌+◌, ◌*◌, List, [], ◌∷◌, ◌++◌, replicate, Some, ◌∙◌, arith, subst, sym, set}
use Rattle.wcp_order.proofs.Words.{slice_get, slice_index, cases_eq, append-nil, length-set, length-replicate}
use Rattle.wcp_order.proofs.Words.{get_or-replicate, filter-append, take_more, slice_get_within, get_or_from_slice_get}
use Rattle.wcp_order.proofs.Words.{Task, is_task_of, IsWithin, IsProgress, IsHistory, IsReady, in_transit_after}
use Rattle.wcp_order.proofs.Words.{common_steps, gets}
use Rattle.wcp_order.proofs.Counting.{none_done, done_more, count_by_push_passing, count_by_push_failing}
use Rattle.wcp_order.proofs.Tasks.{at_place, is_task_of_itself}

-- no task is done
pub IsProgress_none : (n : ℕ) (history : ℕ → List Task) (order : List Task) (done in_transit : List ℕ)
    → order ≡ [] → done ≡ replicate n 0 → in_transit ≡ replicate (n * n) 0 → IsProgress n history order done in_transit
IsProgress_none n history order done in_transit none_ordered none_counted none_sent =
    grind (arith, none_done, length-replicate, get_or-replicate)

-- the next task of a process, which is ready, is done
pub IsProgress_next : (n p : ℕ) (history : ℕ → List Task) (order : List Task) (done in_transit : List ℕ) (task : Task)
    → IsProgress n history order done in_transit → IsHistory n p (history p)
    → slice_get (history p) (slice_index done p) ≡ Some task → IsReady n in_transit p task.action
    → IsProgress n history (order ++ task ∷ []) (set done task.p (slice_index done task.p + 1))
    (in_transit_after n in_transit task.p task.action)
IsProgress_next n p history order done in_transit task progress are at ready =
    let own = at_place (λ (task : Task). (task.p ≡ p) × IsWithin n task) (history p) (slice_index done p) task are at in
    let one_more = take_more (history p) (slice_index done p) task (slice_get_within (history p) _ task at) in
    let here = get_or_from_slice_get (history p) (slice_index done p) task task at in
    let now = subst (λ q. IsReady n in_transit q task.action) (sym own.0) ready in
    let size = progress.processes in
    let passes = λ (q : ℕ). count_by_push_passing (is_task_of q) order task in
    let fails = λ (q : ℕ). count_by_push_failing (is_task_of q) order task in
    let kept = λ (q : ℕ). filter-append (is_task_of q) order (task ∷ []) in
    let mine = is_task_of_itself task in
    record {
      is_done = done_more n order in_transit progress.is_done task.p task.action own.1 now;
      processes = length-set done task.p (slice_index done task.p + 1) ∙ progress.processes;
      counts = λ q below. grind (arith, common_steps, gets);
      first = λ q below. grind (arith, append-nil, cases_eq);
    }
