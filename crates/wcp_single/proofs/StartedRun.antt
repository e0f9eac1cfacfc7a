use Rattle.wcp_single.proofs.Words.{NumberSet, Flag, common_steps, ◌≡◌, ℕ, ◌+◌, ◌*◌, ◌<◌, List, [], ◌∷◌, ◌++◌, length}
use Rattle.wcp_single.proofs.Words.{replicate, take, get_or, All, refl, ap, ◌∙◌, arith, length_push, length-replicate}
use Rattle.wcp_single.proofs.Words.{get_or-replicate, get_or_append_left, get_or_push, Task, setup, IsWithin}
use Rattle.wcp_single.proofs.Words.{IsFitOrder, IsFitOrder-take, Seal, CheckerState, WorkloadProcess, IsRunning}
use Rattle.wcp_single.proofs.Words.{HasTaken, HasDone, IsNextTask}
use Rattle.wcp_clock.specs.Limits.{most_events}

-- the first processes run, with nothing in their logs
abbrev pub AreNew : ℕ → NumberSet → Flag → ℕ → List WorkloadProcess → Type 0
AreNew n watched flag count processes = (length processes ≡ count)
    × ((p : ℕ) (d : WorkloadProcess) → p < count → IsRunning (setup n watched flag p) [] (get_or processes p d))

pub one_more_new : (n : ℕ) (watched : NumberSet) (flag : Flag) (count : ℕ) (processes : List WorkloadProcess)
    (new : WorkloadProcess) → AreNew n watched flag count processes → IsRunning (setup n watched flag count) [] new
    → AreNew n watched flag (count + 1) (processes ++ new ∷ [])
one_more_new n watched flag count processes new are is = grind (arith, get_or_append_left, get_or_push, length_push)

-- the run starts there, with no message in transit
pub run_starts : (n : ℕ) (watched : NumberSet) (flag : Flag) (processes : List WorkloadProcess)
    (queues : List (List Seal)) (checker : CheckerState) → AreNew n watched flag n processes
    → queues ≡ replicate (n * n) [] → HasTaken n watched [] checker → HasDone n watched flag [] processes queues checker
run_starts n watched flag processes queues checker are none has_taken = record {
  processes_are = are.0;
  channels_are = ap length none ∙ length-replicate (n * n) [];
  logs = λ p. [];
  follows = λ p below. tt;
  running = are.1;
  items = [];
  has_taken = has_taken;
  all_taken = λ p below. refl;
  channels = grind (arith, get_or-replicate);
}

-- the task at a place of a fit order is next there
pub next_at : (n : ℕ) (order : List Task) (place : ℕ) (d : Task) → length order < most_events → All (IsWithin n) order
    → IsFitOrder order order → place < length order → IsNextTask n (take place order) (get_or order place d)
next_at n order place d few within fit inside = grind (arith, common_steps, IsFitOrder-take)
