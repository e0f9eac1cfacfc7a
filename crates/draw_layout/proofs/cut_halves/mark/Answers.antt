use Rattle.draw_layout.proofs.Words.{◌∙◌, false, sym, inl, inr, ⊎_elim, false≢true, slice_get-get_or, Task}
use Rattle.wcp_model.specs.declared.workload.Action.TheVariants.{Observe}
use Rattle.draw_layout.proofs.Marking.{marked_past, marked_said, marked_unsaid}
use Rattle.draw_layout.proofs.cut_halves.mark.Goals.{then-later-p, else-later-p+else-has_later_member}
use Rattle.draw_layout.proofs.cut_halves.mark.Goals.{then-later-p-via-then-later-p}
use Rattle.draw_layout.proofs.cut_halves.mark.Goals.{then-later-p-via-else-later-p+then-has_later_member}
use Rattle.draw_layout.proofs.cut_halves.mark.Goals as goal

pub returns-then-not-is_event : goal.returns-then-not-is_event
returns-then-not-is_event c =
    let none : Task = record { p = 0; action = Observe false } in
    marked_past c.requires.cut c.args.place (slice_get-get_or c.args.order.now c.args.place none c.requires.place)
    c.requires.marked (sym c.is_event.ensures ∙ c.if-not-is_event.true)

pub returns : goal.returns
returns c =
    let none : Task = record { p = 0; action = Observe false } in
    let at = slice_get-get_or c.args.order.now c.args.place none c.requires.place in
    let one = sym c.is_event.ensures ∙ c.if-not-is_event.false in
    let said = marked_said c.requires.cut c.args.place at c.requires.marked one in
    let unsaid = marked_unsaid c.requires.cut c.args.place at c.requires.marked one in
    elim c.if-later-p.branch [
      | then-later-p w ↦ rw w.halves-is (elim w.then-later-p.branch [
        | then-later-p-via-then-later-p w' ↦ said (inl w'.if-later-p.true)
        | then-later-p-via-else-later-p+then-has_later_member w' ↦
            said (inr (w'.has_later_member.ensures.0 w'.if-has_later_member.true))
      ])
      | else-later-p+else-has_later_member w ↦ rw w.halves-is (unsaid (⊎_elim
          (λ own. false≢true (sym w.if-later-p.false ∙ own))
          (λ has. false≢true (sym w.if-has_later_member.false ∙ w.has_later_member.ensures.1 has))))
    ]
