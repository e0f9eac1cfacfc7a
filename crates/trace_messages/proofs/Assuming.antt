-- What is said at the end where what nobody sent is assumed to be sent.
use Rattle.std.proofs.Common.{◌≡◌, ◌∙◌, true, false, List, [], ◌++◌, ℕ, Option, Some, None, is_some}
use Rattle.std.proofs.Common.{refl, sym, ap, append-nil}
use Rattle.trace_order.specs.Giving.{OrderState, state_of}
use Rattle.trace_order.specs.State.{names_in}
use Rattle.trace_messages.specs.declared.message_log.MessageLog.{MessageLog}
use Rattle.trace_messages.specs.Said.{IsGivenOut, IsGivingOn, giving_turn, if_kept, kept_unless, many_line}
use Rattle.trace_messages.specs.Said.{unsaid_line, waits_in}
use Rattle.trace_messages.proofs.Turns.{given_out, giving_same}

module _ (say : OrderState → List ℕ) where
  abbrev pub turn_with : OrderState → List ℕ
  turn_with state = (giving_turn state).said ++ if_kept (giving_turn state).kept say

  -- All was given on of a log in which nothing waited to be said.
  pub all_given : (old new : MessageLog) (state : OrderState) (many : Option ℕ) → state_of old.order ≡ state
      → waits_in old ≡ [] → IsGivingOn (waits_in old) (state_of old.order) (waits_in new) (state_of new.order)
      → IsGivenOut (state_of new.order) many → new.unsaid ≡ None
      → (new.said.items ++ many_line many) ++ if_kept (kept_unless many (state_of new.order)) say ≡ turn_with state
  all_given old new state many is none on out said =
      ap (λ w. (w ++ many_line many) ++ if_kept (kept_unless many (state_of new.order)) say)
      (sym (ap (λ u. new.said.items ++ unsaid_line (names_in new.order.hosts.items) u) said ∙ append-nil _))
      ∙ sym (given_out say (waits_in new) (state_of new.order) many out)
      ∙ giving_same say (waits_in old) (waits_in new) (state_of old.order) (state_of new.order) on
      ∙ ap (λ w. w ++ turn_with (state_of old.order)) none ∙ ap turn_with is

  pub over_ends : (many : Option ℕ) (kept : OrderState) (piece : List ℕ) → is_some many ≡ true
      → piece ≡ piece ++ if_kept (kept_unless many kept) say
  over_ends None kept piece is = cc
  over_ends (Some at) kept piece is = sym (append-nil piece)

  pub on_goes : (many : Option ℕ) (kept : OrderState) → is_some many ≡ false
      → say kept ≡ if_kept (kept_unless many kept) say
  on_goes None kept is = refl
  on_goes (Some at) kept is = cc
