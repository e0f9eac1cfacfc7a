use Rattle.std.specs.Prelude.{◌≡◌, ℕ, Bool, true, false, List, Option, is_some}
use Rattle.wcp_model.specs.declared.outcome.Outcome.{Outcome}
use Rattle.wcp_model.specs.declared.workload.Task.{Task}
use Rattle.wcp_model.specs.declared.plan.Plan.{Plan}
use Rattle.wcp_clock.specs.ProcessNumbers.{NumberSet}
use Rattle.wcp_model.specs.declared.flag.Flag.{Flag}
use Rattle.wcp_model.specs.WorkloadOutcome.{IsWorkloadOutcome}
use Rattle.wcp_model.specs.Verdict.{cut_of}
use Rattle.wcp_model.specs.WorkloadComputation.{IsFitOrder}
use Rattle.draw_layout.specs.declared.layout.Layout.{Layout}
use Rattle.draw_layout.specs.Layout.{IsLayout}
use Rattle.wcp_model.specs.Cut.{Intervals}
use Rattle.draw_picture.specs.Picture.{IsPicture}
use Rattle.wcp_script.specs.TextFault.{workloads, Spells}
use Rattle.draw_cli.specs.Names.{IsNamed}
use Rattle.draw_cli.specs.Pages.{IsPageOf}
use Rattle.draw_cli.specs.declared.sketching.DrawForm.{DrawForm}
use Rattle.draw_cli.specs.declared.sketching.DrawForm.TheVariants as form

-- Whether a form is a page.
abbrev pub is_page : DrawForm → Bool
is_page (form.Svg columns) = false
is_page (form.Page words) = true

-- What is drawn of a layout of a fit order of n processes about a cut, or about none: a picture, or else a page.
abbrev pub IsDrawing : Bool → ℕ → List Task → Option Intervals → Layout → List ℕ → Type 0
IsDrawing false n order cut layout bytes = IsPicture n order cut layout bytes
IsDrawing true n order cut layout bytes = IsLayout n order cut layout × IsPageOf cut bytes

-- What is drawn of these tasks of n processes, of which some are watched, under what resets their flags: of a layout of
-- a fit order of them about the cut of their outcome, or about none; and whether there is one.
pub record IsPictureOf (page : Bool) (n : ℕ) (watched : NumberSet) (flag : Flag) (tasks : List Task)
    (picture : List ℕ) (found : Bool) : Type 0 where
  pub order : List Task
  pub fit : IsFitOrder tasks order
  pub outcome : Outcome
  pub is_outcome : IsWorkloadOutcome n watched flag tasks outcome
  pub layout : Layout
  pub is_drawing : IsDrawing page n order (cut_of outcome.report) layout picture
  pub found_is : found ≡ is_some (cut_of outcome.report)

-- What is drawn of a text with these names: of the workload that it spells, for whose processes there are names; and
-- whether it shows a cut.
pub record IsSketchOf (page : Bool) (list : Option (List ℕ)) (text picture : List ℕ) (found : Bool) : Type 0
  where
    pub plan : Plan
    pub tasks : List Task
    pub spells : Spells workloads text plan tasks
    pub named : IsNamed list plan.n
    pub is_picture : IsPictureOf page plan.n plan.watched plan.flag tasks picture found
