-- The status after a fault.
use Rattle.std.proofs.Common.{◌≡◌, ◌⊎◌, ◌∙◌, ◌≤◌, ℕ, inl, inr, refl, sym, true≢false, arith, IsErr, Result, Ok, Err}
use Rattle.wcp_io.specs.declared.io_fault.IoFault.TheVariants as io
use Rattle.trace_cli.specs.declared.fault.TraceFault.{TraceFault}
use Rattle.trace_cli.specs.declared.fault.TraceFault.TheVariants as fault
use Rattle.trace_cli.specs.Statuses.{closed_pipe, refused, status_after, status_of}

pub status_of_either : (given : TraceFault) → (status_of given ≡ refused) ⊎ (status_of given ≡ closed_pipe)
status_of_either (fault.Io io.Closed) = inr refl
status_of_either (fault.Io io.Read) = inl refl
status_of_either (fault.Io io.TooLarge) = inl refl
status_of_either (fault.Io io.Write) = inl refl
status_of_either (fault.Io io.Memory) = inl refl
status_of_either (fault.Usage why) = inl refl
status_of_either (fault.File given) = inl refl
status_of_either (fault.Unread name given) = inl refl
status_of_either (fault.Questions name given) = inl refl
status_of_either (fault.Expression place why) = inl refl
status_of_either (fault.Conditions given) = inl refl
status_of_either (fault.Spelling given) = inl refl
status_of_either (fault.Detection given) = inl refl
status_of_either (fault.Contradicts line) = inl refl

pub status_after_err : (r : Result ℕ TraceFault) → IsErr r
    → (status_after r ≡ refused) ⊎ (status_after r ≡ closed_pipe)
status_after_err (Ok status) bad = absurd (true≢false (sym bad))
status_after_err (Err given) is = status_of_either given

pub status_is_small : (status : ℕ) (given : TraceFault) → status ≡ status_of given
    → (status ≤ 2) ⊎ (status ≡ closed_pipe)
status_is_small status given is = by_either (status_of_either given)
  where
    by_either : (status_of given ≡ refused) ⊎ (status_of given ≡ closed_pipe) → (status ≤ 2) ⊎ (status ≡ closed_pipe)
    by_either (inl two) = inl (let same : status ≡ 2 = is ∙ two in omega arith)
    by_either (inr closed) = inr (is ∙ closed)

pub not_answered : (status : ℕ) (given : TraceFault) → status ≡ status_of given → status ≤ 1 → ⊥
not_answered status given is small = by_either (status_of_either given)
  where
    by_either : (status_of given ≡ refused) ⊎ (status_of given ≡ closed_pipe) → ⊥
    by_either (inl two) = let same : status ≡ 2 = is ∙ two in omega (arith, same, small)
    by_either (inr closed) = let same : status ≡ 141 = is ∙ closed in omega (arith, same, small)
