use Rattle.std.specs.Prelude.{◌≡◌, ℕ, min, Option, Some, List, [], ◌∷◌, replicate}
use Rattle.wcp_clock.specs.Limits.{most_processes}
use Rattle.wcp_model.specs.declared.flag.Flag.TheVariants as reset_at
use Rattle.wcp_model.specs.declared.plan.Parent.{Parent}
use Rattle.wcp_model.specs.declared.plan.Parent.TheVariants.{Root}
use Rattle.wcp_model.specs.declared.plan.Plan.{Plan}
use Rattle.wcp_model.specs.Watched.{AreAllWatched}

-- The plain tree has one relay, under the root, which serves each of n processes.
abbrev pub plain_parents : List Parent
plain_parents = Root ∷ []

abbrev pub plain_attach : ℕ → List (Option ℕ)
plain_attach n = replicate n (Some 0)

-- The plan of the plain tree, with these capacities; each process that there may be is watched, and each event resets
-- its flag.
pub record IsPlainPlan (n cap hold : ℕ) (plan : Plan) : Type 0 where
  pub processes : plan.n ≡ n
  pub links : plan.cap ≡ cap
  pub holds : plan.hold ≡ hold
  pub tree : plan.parents.items ≡ plain_parents
  pub attached : plan.attach.items ≡ plain_attach n
  pub watched : AreAllWatched (min n most_processes) plan.watched
  pub flag : plan.flag ≡ reset_at.Event

-- Two plans are the same where their numbers and lists are.
pub record IsSamePlan (one other : Plan) : Type 0 where
  pub n : one.n ≡ other.n
  pub cap : one.cap ≡ other.cap
  pub hold : one.hold ≡ other.hold
  pub parents : one.parents.items ≡ other.parents.items
  pub attach : one.attach.items ≡ other.attach.items
  pub watched : one.watched ≡ other.watched
  pub flag : one.flag ≡ other.flag
