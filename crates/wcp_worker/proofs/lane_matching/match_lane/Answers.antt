use Rattle.wcp_worker.proofs.Words.{◌≡◌, true, false, length, map, refl, sym, ap, ◌∙◌, rules, seal_of, PutEnd, Message}
use Rattle.wcp_worker.proofs.Words.{messages_from}
use Rattle.std.specs.FinSet as set
use Rattle.wcp_worker.proofs.lane_matching.match_lane.Goals as goal

pub returns-in_err-_receipt-clause-exact : goal.returns-in_err-_receipt-clause-exact
returns-in_err-_receipt-clause-exact c = (
  search rules,
  λ all.
      let no : false ≡ true = c.in_err-_receipt.ensures.exact.1 (λ p member.
      ap (λ taken. length (messages_from p taken)) c.end.ensures.taken
      ∙ all p (sym (ap (λ (e : PutEnd Message Message). set.contains e.members p) c.end-2.ensures) ∙ member)
      ∙ sym (ap (λ (e : PutEnd Message Message). length (messages_from p e.put)) c.end-2.ensures)) in
      cc,
)

pub returns-clause-exact : goal.returns-clause-exact
returns-clause-exact c = (
  λ is p member.
      ap (λ taken. length (messages_from p taken)) (sym c.end.ensures.taken)
      ∙ ap length (c.in_ok-_receipt.ensures.all p
      (ap (λ (e : PutEnd Message Message). set.contains e.members p) c.end-2.ensures ∙ member))
      ∙ ap (λ (e : PutEnd Message Message). length (messages_from p e.put)) c.end-2.ensures,
  λ all. refl,
)

pub returns-clause-matched : goal.returns-clause-matched
returns-clause-matched c = λ p member.
    ap (map (λ (m : Message). (seal_of m.stamped).clock))
    (ap (messages_from p) (sym c.end.ensures.taken)
    ∙ c.in_ok-_receipt.ensures.all p
    (ap (λ (e : PutEnd Message Message). set.contains e.members p) c.end-2.ensures ∙ member)
    ∙ ap (λ (e : PutEnd Message Message). messages_from p e.put) c.end-2.ensures)
