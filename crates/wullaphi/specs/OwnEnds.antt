-- What the ends of a watch tell together, whoever ran its threads.
use Rattle.std.specs.Prelude.{◌≡◌, Option, Some, None, List}
use Rattle.wcp_book.specs.State.{BookState}
use Rattle.wcp_model.specs.declared.outcome.Outcome.{Outcome}
use Rattle.wcp_relay.specs.LiveProbe.{ClosedSide}
use Rattle.wcp_relay.specs.declared.relay_end.RelayEnd.{RelayEnd}
use Rattle.wcp_watch.specs.Settling.{IsFirstSettleFault, IsSettled}
use Rattle.wcp_watch.specs.declared.checker_end.CheckerEnd.{CheckerEnd}
use Rattle.wcp_watch.specs.declared.settle_fault.SettleFault.{SettleFault}
use Rattle.wcp_watch.specs.declared.settle_fault.SettleFault.TheVariants as fault
use Rattle.wullaphi.specs.Opened.{AreEndsOf, EndsOfWatch, OpenedWatch}

-- Why these ends prove nothing: where the checker's isn't among them an end is missing, and else it is the first fault
-- of all.
abbrev pub IsFirstFaultOf : List ClosedSide → List RelayEnd → Option CheckerEnd → BookState → SettleFault → Type 0
IsFirstFaultOf probes relays None book first = first ≡ fault.Missing
IsFirstFaultOf probes relays (Some checker) book first = IsFirstSettleFault probes relays checker book first

abbrev pub IsFirstRefusal : EndsOfWatch → BookState → SettleFault → Type 0
IsFirstRefusal ends book first = IsFirstFaultOf ends.probes ends.relays ends.checker book first

-- Ends of an opened watch prove this outcome: the checker's end is among them, of as many processes as the plan has,
-- and what they tell together is the report and the tallies.
pub record AreSettled (opening : Option OpenedWatch) (ends : EndsOfWatch) (book : BookState)
    (outcome : Outcome) : Type 0 where
  pub opened : OpenedWatch
  pub is : opening ≡ Some opened
  pub are_ends : AreEndsOf ends opened
  pub checker : CheckerEnd
  pub is_checker : ends.checker ≡ Some checker
  pub processes : checker.processes ≡ opened.plan.n
  pub settled : IsSettled ends.probes checker book outcome
