-- A watch that was opened, for who runs its threads, and what comes from it.
use Rattle.std.specs.Prelude.{◌≡◌, ℕ, Option, Some, None, IfSome, List, [], ◌∷◌, slice_get, All}
use Rattle.wcp_model.specs.PlanFault.{IsCheckedPlan}
use Rattle.wcp_model.specs.declared.plan.Plan.{Plan}
use Rattle.wcp_queue.specs.Checker.{CheckerState}
use Rattle.wcp_queue.specs.Panel.{watched_by}
use Rattle.wcp_relay.specs.LiveProbe.{ClosedSide, LiveFor, LiveSide}
use Rattle.wcp_relay.specs.Watches.{IsWired}
use Rattle.wcp_relay.specs.declared.checker_inbox.CheckerInbox.{CheckerInbox}
use Rattle.wcp_relay.specs.declared.parts.Watch.{Watch}
use Rattle.wcp_relay.specs.declared.relay.Relay.{Relay}
use Rattle.wcp_relay.specs.declared.relay_end.RelayEnd.{RelayEnd}
use Rattle.wcp_watch.specs.CheckerEnds.{IsEndOfLoop, IsFreshFor}
use Rattle.wcp_watch.specs.Settling.{IsEndOfSomeProbe, IsEndOfSomeRelay}
use Rattle.wcp_watch.specs.declared.checker_end.CheckerEnd.{CheckerEnd}

-- An opened watch: its plan, and the tree of links that was opened for it.
pub record OpenedWatch : Type 0 where
  pub plan : Plan
  pub tree : Watch

-- The plan has no fault, and the tree is wired as it says.
pub record IsOpen (opened : OpenedWatch) : Type 0 where
  pub checked : IsCheckedPlan opened.plan
  pub wired : IsWired opened.plan opened.tree.inbox.watch opened.tree

-- Nothing of an opened watch has run: its panel is fresh for its inbox, and has one question, for the conditions of the
-- watched processes of the plan.
pub record IsFreshWatch (opened : OpenedWatch) (processes : ℕ) (panel : List CheckerState) : Type 0 where
  pub is_open : IsOpen opened
  pub count : processes ≡ opened.plan.n
  pub watched : watched_by panel ≡ opened.plan.watched ∷ []
  pub fresh : IsFreshFor opened.tree.inbox panel

-- There is an opened watch, of which this holds.
pub record HasOpened (Holds : OpenedWatch → Type 0) (opening : Option OpenedWatch) : Type 0 where
  pub opened : OpenedWatch
  pub is : opening ≡ Some opened
  pub is_open : IsOpen opened
  pub holds : Holds opened

-- This is one of its probes, before any call.
pub record IsProbeOf (probe : LiveSide) (opened : OpenedWatch) : Type 0 where
  pub is_probe : slice_get opened.tree.probes.items probe.core.id ≡ Some probe
  pub fresh : LiveFor probe []
  pub put : probe.core.pending ≡ None

-- This is one of its relays.
abbrev pub IsRelayOf : Relay → OpenedWatch → Type 0
IsRelayOf relay opened = slice_get opened.tree.relays.items relay.number ≡ Some relay

-- This is its inbox, with a panel that is fresh for it, whose one question is for the conditions of the watched
-- processes of the plan.
pub record IsCheckerOf (inbox : CheckerInbox) (panel : List CheckerState) (opened : OpenedWatch) : Type 0 where
  pub is_inbox : inbox ≡ opened.tree.inbox
  pub watched : watched_by panel ≡ opened.plan.watched ∷ []
  pub fresh : IsFreshFor inbox panel

-- This is the end of one of its probes, of one of its relays, or of its checker.
abbrev pub IsProbeEndOf : ClosedSide → OpenedWatch → Type 0
IsProbeEndOf end opened = IsEndOfSomeProbe opened.tree.probes.items end

abbrev pub IsRelayEndOf : RelayEnd → OpenedWatch → Type 0
IsRelayEndOf end opened = IsEndOfSomeRelay opened.tree.relays.items end

abbrev pub IsCheckerEndOf : CheckerEnd → OpenedWatch → Type 0
IsCheckerEndOf end opened = IsEndOfLoop opened.tree.inbox (opened.plan.watched ∷ []) end

-- Ends of a watch: of probes and of relays, in the order in which they were added, and that of the checker, if it was.
pub record EndsOfWatch : Type 0 where
  pub probes : List ClosedSide
  pub relays : List RelayEnd
  pub checker : Option CheckerEnd

abbrev pub no_ends : EndsOfWatch
no_ends = record { probes = []; relays = []; checker = None }

-- All these are ends of that watch.
pub record AreEndsOf (ends : EndsOfWatch) (opened : OpenedWatch) : Type 0 where
  pub probes : All (λ end. IsProbeEndOf end opened) ends.probes
  pub relays : All (λ end. IsRelayEndOf end opened) ends.relays
  pub checker : IfSome ends.checker (λ end. IsCheckerEndOf end opened)
