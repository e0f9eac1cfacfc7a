-- What becomes of a checker that was made of parts.
use Rattle.std.proofs.Common.{◌≡◌, ◌↔◌, ℕ, List, Option, Some, None, Result, Ok, Err, refl, sym, ◌∙◌, ap, subst}
use Rattle.std.proofs.lemmas.Bool.{false≢true}
use Rattle.std.specs.Prelude.{IfOk, IfSome, IsSome}
use Rattle.wcp_queue.specs.Checker.{CheckerState, IsSoundChecker}
use Rattle.wcp_saved.specs.Spelling.{spelling, IsSaved, IsInRange}

pub saved_of : {E : Type 0} (state : CheckerState) (bytes : List ℕ) (r : Result (Option CheckerState) E)
    → bytes ≡ spelling state → IsInRange state → IfOk r (λ made. IfSome made (λ x. x ≡ state))
    → IfOk r (λ made. IsSome made ↔ IsSoundChecker state)
    → IfOk r (λ made. IfSome made (λ checker. IsSaved checker bytes))
saved_of state bytes (Ok (Some x)) spelled range value is = subst (λ (checker : CheckerState). IsSaved checker bytes)
    (sym value) (record { spelled = spelled; sound = is.0 refl; range = range })
saved_of state bytes (Ok None) spelled range value is = tt
saved_of state bytes (Err error) spelled range value is = tt

pub restored : {C E : Type 0} (Sound : C → Type 0) (state saved : C) (r : Result (Option C) E) → state ≡ saved
    → Sound saved → IfOk r (λ made. IfSome made (λ x. x ≡ state)) → IfOk r (λ made. IsSome made ↔ Sound state)
    → IfOk r (λ made. made ≡ Some saved)
restored Sound state saved (Ok (Some x)) e sound value is = ap Some (value ∙ e)
restored Sound state saved (Ok None) e sound value is = absurd (false≢true (is.1 (subst Sound (sym e) sound)))
restored Sound state saved (Err error) e sound value is = tt
