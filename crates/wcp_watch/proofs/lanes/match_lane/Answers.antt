use Rattle.wcp_watch.proofs.Words.{arith, ◌≡◌, ◌⊎◌, ℕ, ◌<◌, true≢false, List, length, Option, Some, refl, sym, ap}
use Rattle.wcp_watch.proofs.Words.{⊎_elim, slice_set, cases_eq, common_steps, gets, Item, TakenEnd, Bundle, KeepInboxes}
use Rattle.wcp_watch.proofs.Words.{SitsAt}
use Rattle.wcp_watch.proofs.MatchedRings.{sits_alone}
use Rattle.wcp_watch.proofs.lanes.match_lane.Goals as goal

-- an inbox that was matched with a putter keeps what was taken
one_kept : (inboxes : List (Option (TakenEnd Bundle Item))) (place : ℕ) (seat : Option (TakenEnd Bundle Item))
    (old new : TakenEnd Bundle Item)
    → place < length inboxes → SitsAt inboxes place old → new.lane ≡ old.lane → new.taken ≡ old.taken
    → KeepInboxes inboxes (slice_set (slice_set inboxes place seat) place (Some new))
one_kept inboxes place seat old new within sits lane taken other receipt there =
    let kept : List (Option (TakenEnd Bundle Item)) = slice_set (slice_set inboxes place seat) place (Some new) in
    let either : (SitsAt kept other new × (old ≡ receipt)) ⊎ SitsAt kept other receipt =
    grind (arith, common_steps, gets, within, sits, there, cases_eq other place) in
    ⊎_elim
    (λ here. record { same = new; sits = here.0; lane = cc (here.1); taken = cc (here.1) })
    (λ elsewhere. record { same = receipt; sits = elsewhere; lane = refl; taken = refl })
    either

pub returns-in-Ok-clause-kept : goal.returns-in-Ok-clause-kept
returns-in-Ok-clause-kept c =
    let sits : SitsAt c.args.inboxes.now c.place_of_inbox-place.result c.in-Some.receipt = grind (arith, gets) in
    one_kept c.args.inboxes.now c.place_of_inbox-place.result c.take.new.self c.in-Some.receipt c.in-Ok.receipt
    c.if-prove.false sits
    (cc c.in-Ok.ensures.receipt) (cc c.in-Ok.ensures.receipt)

pub returns-in-Err-clause-exact : goal.returns-in-Err-clause-exact
returns-in-Err-clause-exact c = λ receipt there. (
  λ is. absurd (true≢false (sym is)),
  λ all.
      let sits : SitsAt c.args.inboxes.now c.place_of_inbox-place.result c.in-Some.receipt = grind (arith, gets) in
      let one = sits_alone c.args.inboxes.now c.place_of_inbox-place.result receipt c.in-Some.receipt
      (rw (← c.place_of_inbox-place.ensures) at there) sits in
      c.in-Err.ensures.exact.1 (λ p has. ap (λ (items : List Item). length items) (rw one at (all p has))),
)
