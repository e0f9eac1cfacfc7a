use Rattle.std.proofs.Common.{◌∙◌, arith, length, ap, subst, take}
use Rattle.wcp_script.specs.ReadAnswers.{IsFaultOf}
use Rattle.wcp_script.specs.TextFault.{HasWorkloadFault}
use Rattle.wcp_script.specs.declared.fault.ReadFault.{ReadFault}
use Rattle.wcp_c.specs.Singles.{Printed, Faulty}
use Rattle.wcp_c.proofs.single.wcp_single.Goals as goal

pub returns-in-Ok-clause-wanted : goal.returns-in-Ok-clause-wanted
returns-in-Ok-clause-wanted c = λ full within.
    Printed c.in-Ok.answer.text.items c.in-Ok.answer.status c.in-Ok.ensures.answer
    (c.put-in-Ok.ensures.written ∙ ap length c.as_slice.ensures.value)

pub returns-in-Ok-fault_line-clause-fault : goal.returns-in-Ok-fault_line-clause-fault
returns-in-Ok-fault_line-clause-fault c = λ is_fault within. (
  c.in-Err-Script.fault,
  subst (λ (fault : ReadFault). IsFaultOf
      (HasWorkloadFault c.args.text.now) fault) c.in-Err-Script.field-0-is c.in-Err-Script.ensures.fault,
  ap (λ room. take room c.put-in-Ok-fault_line.new.out) c.put-in-Ok-fault_line.ensures.written
      ∙ c.put-in-Ok-fault_line.ensures.put (omega (arith, is_fault))
      ∙ c.as_slice-in-Ok-fault_line.ensures.value ∙ c.in-Ok-fault_line.ensures,
)

pub returns-in-Ok-fault_line-clause-wanted : goal.returns-in-Ok-fault_line-clause-wanted
returns-in-Ok-fault_line-clause-wanted c = λ full within.
    Faulty c.in-Err-Script.fault (subst (λ (fault : ReadFault). IsFaultOf
    (HasWorkloadFault c.args.text.now) fault) c.in-Err-Script.field-0-is c.in-Err-Script.ensures.fault)
    (c.put-in-Ok-fault_line.ensures.written
    ∙ ap length (c.as_slice-in-Ok-fault_line.ensures.value ∙ c.in-Ok-fault_line.ensures))
