use Rattle.std.specs.Prelude.{◌≡◌, ℕ, List, length, map, slice_get, Some}
use Rattle.wcp_clock.specs.ProcessNumbers.{NumberSet}
use Rattle.wcp_model.specs.declared.flag.Flag.{Flag}
use Rattle.wcp_clock.specs.declared.note.Item.{Item}
use Rattle.wcp_clock.specs.declared.note.Note.{Note}
use Rattle.wcp_model.specs.declared.outcome.Report.{Report}
use Rattle.wcp_model.specs.declared.outcome.Tally.{Tally}
use Rattle.wcp_model.specs.declared.plan.Plan.{Plan}
use Rattle.wcp_model.specs.declared.step.Step.{Step}
use Rattle.wcp_model.specs.declared.step.Reply.{Reply}
use Rattle.wcp_model.specs.Computation.{Computation}
use Rattle.wcp_model.specs.Headline.{IsHeadline}
use Rattle.wcp_model.specs.Emission.{AreEmissions}
use Rattle.wcp_model.specs.Report.{snapshot_clocks, clocks_taken}
use Rattle.wcp_model.specs.Replies.{Answered, accepted, items_taken, computation}
use Rattle.wcp_world.specs.World.{WorldState, IsWorldOf}

-- A tally counts the snapshots among the emissions of a process and among what was taken of it.
pub record IsTallyOf (n : ℕ) (watched : NumberSet) (flag : Flag) (c : Computation) (items : List Item) (p : ℕ)
    (tally : Tally) : Type 0 where
  pub notes : List Note
  pub are : AreEmissions n watched flag c p notes
  pub emitted : tally.emitted ≡ length (snapshot_clocks notes)
  pub taken : tally.taken ≡ length (clocks_taken p items)

-- What a list of steps leads to, whole: a reply to each of them, a report of which the headline holds, and the tallies.
pub record IsPlayed (plan : Plan) (steps : List Step) (replies : List Reply) (report : Report) (tallies : List Tally)
    : Type 0 where
  pub history : List Answered
  pub steps_are : map (λ (a : Answered). a.step) history ≡ steps
  pub replies_are : map (λ (a : Answered). a.reply) history ≡ replies
  pub headline : IsHeadline plan history report
  pub processes : length tallies ≡ plan.n
  pub tallied : (p : ℕ) (tally : Tally) → slice_get tallies p ≡ Some tally →
      IsTallyOf plan.n plan.watched plan.flag (computation (accepted history)) (items_taken history) p tally

-- The tallies of the first processes of a world.
abbrev pub AreTalliesOf : WorldState → ℕ → List Tally → Type 0
AreTalliesOf w count tallies = (length tallies ≡ count)
    × ((plan : Plan) (history : List Answered) → IsWorldOf plan history w →
    (p : ℕ) (tally : Tally) → slice_get tallies p ≡ Some tally →
    IsTallyOf plan.n plan.watched plan.flag (computation (accepted history)) (items_taken history) p tally)

-- The world has answered these steps by these replies.
pub record HasAnswered (plan : Plan) (steps : List Step) (replies : List Reply) (w : WorldState) : Type 0 where
  pub history : List Answered
  pub steps_are : map (λ (a : Answered). a.step) history ≡ steps
  pub replies_are : map (λ (a : Answered). a.reply) history ≡ replies
  pub is : IsWorldOf plan history w
