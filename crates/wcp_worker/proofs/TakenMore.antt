-- What came by an end, as more of it comes.
use Rattle.wcp_worker.proofs.Words.{◌≡◌, ℕ, zero, suc, true, Option, Some, None, List, [], ◌∷◌, ◌++◌, sym, refl, ap}
use Rattle.wcp_worker.proofs.Words.{◌∙◌, subst, append_assoc, slice_set, slice_index_or, IfSome, append-nil, Numbers}
use Rattle.wcp_worker.proofs.Words.{Inbox, IsInboxOf, IsSameInbox, HasTakenMore, IfBoth, messages_taken, clocks_from}
use Rattle.std.specs.FinSet as set
use mathlib.Core.List.{IsPrefix}

-- what holds of each entry holds of each once one is written of which it holds
pub each_entry : {X : Type 0} (P : ℕ → Option X → Type 0) (xs : List (Option X)) (k : ℕ) (x : Option X)
    → ((q : ℕ) → P q (slice_index_or xs q None)) → P k x → (q : ℕ) → P q (slice_index_or (slice_set xs k x) q None)
each_entry P [] k x each here q = each q
each_entry P (y ∷ xs) zero x each here zero = here
each_entry P (y ∷ xs) zero x each here (suc q) = each (suc q)
each_entry P (y ∷ xs) (suc k) x each here zero = each zero
each_entry P (y ∷ xs) (suc k) x each here (suc q) = each_entry (λ q. P (suc q)) xs k x (λ q. each (suc q)) here q

pub both_then : {X : Type 0} (P : X → X → Type 0) → ((a b c : X) → P a b → P b c → P a c)
    → (a b c : Option X) → IfBoth P a b → IfBoth P b c → IfBoth P a c
both_then P joins (Some a) (Some b) (Some c) first then = joins a b c first then
both_then P joins (Some a) (Some b) None first then = absurd then
both_then P joins (Some a) None c first then = absurd first
both_then P joins None (Some b) c first then = absurd first
both_then P joins None None (Some c) first then = absurd then
both_then P joins None None None first then = tt

module _ (q : ℕ) where
  pub more_none : (inbox : Inbox) → HasTakenMore q inbox inbox
  more_none inbox = record { same = (refl, refl); prefix = λ is. ([], append-nil _) }

  pub more_more : (a b c : Inbox) → HasTakenMore q a b → HasTakenMore q b c → HasTakenMore q a c
  more_more a b c first then =
      record {
        same = (then.same.0 ∙ first.same.0, then.same.1 ∙ first.same.1);
        prefix = λ is.
            let one = first.prefix is in
            let two = then.prefix
            (subst (λ (members : Numbers). (p : ℕ) → set.contains members p ≡ true → p ≡ q) (sym first.same.1) is) in
            (one.0 ++ two.0, sym (append_assoc _ one.0 two.0) ∙ ap (λ clocks. clocks ++ two.0) one.1 ∙ two.1);
      }

  pub entry_none : (entry : Option Inbox) → IfBoth (HasTakenMore q) entry entry
  entry_none (Some inbox) = more_none inbox
  entry_none None = tt

  -- an end by which more came keeps its lane, and what came before is a prefix
  pub entry_same : (a b : Option Inbox) → IfBoth (HasTakenMore q) a b → IfBoth IsSameInbox a b
  entry_same (Some a) (Some b) more = more.same
  entry_same (Some a) None more = more
  entry_same None (Some b) more = more
  entry_same None None more = more

  pub entry_prefix : (a b : Option Inbox) → IfBoth (HasTakenMore q) a b → IfSome a (IsInboxOf q)
      → IsPrefix (clocks_from q (messages_taken a)) (clocks_from q (messages_taken b))
  entry_prefix (Some a) (Some b) more is = more.prefix is
  entry_prefix (Some a) None more is = absurd more
  entry_prefix None (Some b) more is = absurd more
  entry_prefix None None more is = ([], refl)
