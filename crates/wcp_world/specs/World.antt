use Rattle.std.specs.Prelude.{◌≡◌, ℕ, Bool, true, false, not, List, ◌++◌, take, filter}
use Rattle.wcp_clock.specs.declared.note.Item.{Item}
use Rattle.wcp_clock.specs.declared.note.Note.{Note}
use Rattle.wcp_clock.specs.Notes.{is_lost}
use Rattle.wcp_model.specs.declared.plan.Plan.{Plan}
use Rattle.wcp_model.specs.declared.step.Step.{Step}
use Rattle.wcp_model.specs.declared.step.Step.TheVariants as step
use Rattle.wcp_model.specs.declared.step.Reply.{Reply}
use Rattle.wcp_model.specs.Replies.{Answered, accepted_by, taken_by, accepted, items_taken, computation, IsReply}
use Rattle.wcp_model.specs.Replies.{AreReplies}
use Rattle.wcp_model.specs.Report.{ArePrefixesOfEmissions}
use Rattle.wcp_queue.specs.Checker.{CheckerState, processes as processes_of_checker, StandsForItems}
use Rattle.wcp_world.specs.Processes.{ProcessesState, AreProcessesOf}
use Rattle.wcp_world.specs.Transport.{TransportState, IsTransportOf}

-- What a world has: its processes, the tree of relays between them and the checker, and the checker.
pub record WorldState : Type 0 where
  pub processes : ProcessesState
  pub transport : TransportState
  pub checker : CheckerState

-- How many processes a world has.
abbrev pub process_count : WorldState → ℕ
process_count w = processes_of_checker w.checker

-- These items without the marks of lost processes.
abbrev pub without_lost : List Item → List Item
without_lost items = filter (λ item. not (is_lost item.note)) items

-- The parts of a world stand for the same accepted steps and items taken: the processes for the computation of these
-- steps, the transport for the notes that were put on its links, and the checker, which wasn't starved, for what it
-- was handed: the items taken, and the marks of lost processes.
pub record Stands (plan : Plan) (steps : List Step) (taken : List Item) (w : WorldState) : Type 0 where
  pub put : ℕ → List Note
  pub handed : List Item
  pub taken_are : taken ≡ without_lost handed
  pub processes : AreProcessesOf plan.n plan.watched plan.flag (computation steps) put w.processes
  pub transport : IsTransportOf plan steps put handed w.transport
  pub processes_are : process_count w ≡ plan.n
  pub watched_are : w.checker.watched ≡ plan.watched
  pub checker : StandsForItems w.checker handed
  pub not_starved : w.checker.starved ≡ false

-- A world that some steps lead to.
abbrev pub IsReached : WorldState → Type 0
IsReached w = (plan : Plan) × (steps : List Step) × (taken : List Item) × Stands plan steps taken w

-- A step was answered: of whatever steps and items the world stood for, the reply is that of the definitions, and the
-- world now stands for them with the step and the item that the reply accepts and gives.
abbrev pub MakesStep : WorldState → Step → Reply → WorldState → Type 0
MakesStep old s answer new = (plan : Plan) (steps : List Step) (taken : List Item) → Stands plan steps taken old →
    IsReply plan steps s answer × Stands plan (steps ++ accepted_by s answer) (taken ++ taken_by answer) new

-- A world stands for a history: the steps so far, each with its reply, which is that of the definitions; after each
-- of them what was taken of each process is a prefix of what it emitted.
pub record IsWorldOf (plan : Plan) (history : List Answered) (w : WorldState) : Type 0 where
  pub replies : AreReplies plan history
  pub prefixes : (place : ℕ) →
      ArePrefixesOfEmissions plan.n plan.watched plan.flag (computation (accepted (take place history)))
      (items_taken (take place history))
  pub stands : Stands plan (accepted history) (items_taken history) w

-- Of the ten steps only a send and a check may want memory.
abbrev pub may_grow : Step → Bool
may_grow (step.Observe p holds) = false
may_grow (step.Send p to) = true
may_grow (step.Recv p message) = false
may_grow (step.Close p) = false
may_grow (step.Dropped p) = false
may_grow (step.Put p) = false
may_grow (step.Admit relay p) = false
may_grow (step.Pull relay) = false
may_grow (step.Pass relay) = false
may_grow step.Check = true
