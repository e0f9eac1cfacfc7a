use Rattle.std.specs.Prelude.{◌≡◌, ℕ, ◌+◌, ◌*◌, ◌<◌, List, [], length, take, All, count_by, slice_get, slice_index}
use Rattle.std.specs.Prelude.{Some}
use Rattle.std.specs.List.{slice_index_or}
use Rattle.wcp_model.specs.declared.workload.Action.TheVariants as action
use Rattle.wcp_model.specs.declared.workload.Task.{Task}
use Rattle.wcp_model.specs.declared.workload.Action.{Action}
use Rattle.wcp_model.specs.WorkloadComputation.{sends, receives, IsFitOrder, IsWithin}
use Rattle.wcp_order.specs.Stuck.{AreSendAndReceive}

-- A place is that of the send of the message, where the action at a place receives one, and else the place itself.
abbrev pub IsSendOf : List Task → ℕ → Action → ℕ → Type 0
IsSendOf order place (action.Observe holds) sent = sent ≡ place
IsSendOf order place (action.Send to) sent = sent ≡ place
IsSendOf order place (action.Recv from) sent = AreSendAndReceive order sent place

-- For each task of an order a place in it: for a receive, that of the send of its message, and else its own.
pub record AreSends (order : List Task) (sent : List ℕ) : Type 0 where
  pub tasks : length sent ≡ length order
  pub inside : (place : ℕ) → place < length order → slice_index sent place < length order
  pub each : (place : ℕ) (task : Task) → slice_get order place ≡ Some task →
      IsSendOf order place task.action (slice_index sent place)

-- The places of the messages in transit on the channel of this number.
abbrev pub queue_at : List (List ℕ) → ℕ → List ℕ
queue_at queues channel = slice_index_or queues channel []

-- Before a place of the order, these are the places of the sends by p to q that q has not received, in order.
pub record IsQueue (order : List Task) (place p q : ℕ) (queue : List ℕ) : Type 0 where
  pub counted : count_by (receives p q) (take place order) + length queue ≡ count_by (sends p q) (take place order)
  pub send : (k : ℕ) → k < length queue →
      slice_get order (slice_index queue k) ≡ Some (record { p = p; action = action.Send q })
  pub number : (k : ℕ) → k < length queue →
      count_by (sends p q) (take (slice_index queue k) order) ≡ count_by (receives p q) (take place order) + k

-- Before a place of the order, these are in transit on the channels of n processes.
pub record AreInTransit (n : ℕ) (order : List Task) (place : ℕ) (queues : List (List ℕ)) : Type 0 where
  pub channels : length queues ≡ n * n
  pub each : (p q : ℕ) → p < n → q < n → IsQueue order place p q (queue_at queues (p * n + q))

-- The task stands at a place of a fit order of n processes.
pub record IsNext (n : ℕ) (order : List Task) (place : ℕ) (task : Task) : Type 0 where
  pub within : All (IsWithin n) order
  pub fit : IsFitOrder order order
  pub at : slice_get order place ≡ Some task
