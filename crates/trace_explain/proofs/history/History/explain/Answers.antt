use Rattle.std.proofs.lemmas.List.{with_items_is, get_or_default}
use Rattle.trace_explain.proofs.Words.{◌≡◌, ◌∙◌, ap, sym, subst, List, get_or, StateOver, Left, left_at, LacksFirst, AreLeft}
use Rattle.trace_explain.proofs.Words.{ExplainsNone, watched_in, HaveFirsts, AreHeld}
use Rattle.trace_explain.proofs.Eliminated.{none_left}
use Rattle.trace_explain.proofs.Told.{ExplainsNone-left, ExplainsFound-left}
use Rattle.trace_explain.proofs.history.History.explain.Goals as goal

pub returns-in-Some : goal.returns-in-Some
returns-in-Some c taken keep =
    let hosts = c.args.self.now.hosts.items in
    let left = c.eliminate.new.left in
    let whole = with_items_is c.in_ok-left.left left (c.eliminate.auto.left ∙ c.deref_mut.ensures.len) in
    let items : c.deref-2.result.now ≡ left = c.deref-2.ensures.value ∙ whole in
    let kept = c.in_ok-left.ensures taken (rw c.deref.ensures.value keep) in
    let are : AreLeft (watched_in hosts) taken left =
    c.in_ok-eliminate.ensures.left (watched_in hosts) taken keep.in_order
    (rw c.deref_mut.ensures.value (rw c.deref.ensures.value at kept)) in
    let lacks : LacksFirst left c.in-Some.place = rw items at c.in-Some.ensures.some in
    let over : c.over.inside.over.items ≡ (left_at left c.in-Some.place).over =
    ap (λ (one : Left). one.over) (c.over.view_is ∙ c.swap_remove.ensures.value
    ∙ ap (λ (all : List Left). get_or all c.in-Some.place c.swap_remove.result) whole
    ∙ get_or_default left c.in-Some.place c.swap_remove.result none_left lacks.place) in
    subst (λ (all : List StateOver). ExplainsNone (watched_in hosts) taken c.in-Some.place all) (sym over)
    (ExplainsNone-left (watched_in hosts) taken keep.in_order left are c.in-Some.place lacks)

pub returns : goal.returns
returns c taken keep =
    let hosts = c.args.self.now.hosts.items in
    let left = c.eliminate.new.left in
    let whole = with_items_is c.in_ok-left.left left (c.eliminate.auto.left ∙ c.deref_mut.ensures.len) in
    let items : c.deref-2.result.now ≡ left = c.deref-2.ensures.value ∙ whole in
    let again : c.deref-in-None.result.now ≡ left = c.deref-in-None.ensures.value ∙ whole in
    let kept = c.in_ok-left.ensures taken (rw c.deref.ensures.value keep) in
    let are : AreLeft (watched_in hosts) taken left =
    c.in_ok-eliminate.ensures.left (watched_in hosts) taken keep.in_order
    (rw c.deref_mut.ensures.value (rw c.deref.ensures.value at kept)) in
    let firsts : HaveFirsts left = rw items at c.in-None.ensures.none in
    let held : AreHeld left c.in_ok-held_states-in-None.field-0.items =
    rw again at c.in_ok-held_states-in-None.ensures in
    ExplainsFound-left (watched_in hosts) taken keep.in_order left are firsts c.in_ok-eliminate.ensures.settled
    c.in_ok-held_states-in-None.field-0.items held
