-- A fault that a call answered and that is handed on.
use Rattle.wcp_script.proofs.Words.{◌≡◌, ℕ, List, Result, Ok, Err, arith, Plan, IsCheckedPlan, ReadFault, Script}
use Rattle.wcp_script.proofs.Words.{NoMemory, HeadRead, head_of, IsPlanOf, TextKind, workloads, steps_by, HasTextFault}
use Rattle.wcp_script.proofs.Words.{InStep, HasWorkloadFault, InText, IsFaultOf, Fails}
use Rattle.std.specs.Result.{IsErr, IsErrAnd}

pub handed_on : {Y : Type 0} (P : Result Y ReadFault → Type 0) (r : Result Y ReadFault) (fault : ReadFault)
    → IsErr r × IsErrAnd r (λ given. given ≡ fault) → P (Err fault) → P r
handed_on P r fault h p = grind arith

-- A fault of a step line is the text's, where its head and its plan have none.
pub fault_in_step : {S : Type 0} (text_kind : TextKind S) (text : List ℕ) (read : HeadRead) (plan : Plan)
    (fault : ReadFault) → head_of text_kind.is_step_word text ≡ Ok read → IsPlanOf read.head plan → IsCheckedPlan plan
    → Fails fault (steps_by text_kind read.head.n read.last 0 read.after)
    → IsFaultOf (HasTextFault text_kind text) fault
fault_in_step text_kind text read plan (Script fault) head of_head checked fails =
    InStep read plan head of_head checked fails
fault_in_step text_kind text read plan NoMemory head of_head checked fails = tt

pub fault_in_text : (text : List ℕ) (fault : ReadFault) → IsFaultOf (HasTextFault workloads text) fault
    → IsFaultOf (HasWorkloadFault text) fault
fault_in_text text (Script fault) has = InText has
fault_in_text text NoMemory has = tt
