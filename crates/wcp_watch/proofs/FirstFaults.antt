-- The first fault of the ends of a watch.
use Rattle.wcp_watch.proofs.Words.{◌≡◌, ◌↔◌, List, ◌∷◌, ◌++◌, length, get_or, Some, Result, Ok, Err, sym, ap, subst}
use Rattle.wcp_watch.proofs.Words.{◌∙◌, arith, IsErr, IfErr, AllByRecursion, IsErrAnd, get_or_append_left}
use Rattle.wcp_watch.proofs.Words.{length-append, All-from_recursion, get_or_from_slice_get, slice_get-get_or}
use Rattle.wcp_watch.proofs.Words.{BookState, ClosedSide, RelayEnd, IsFirstSettleFault, IsFreeOf, settle_faults}
use Rattle.wcp_watch.proofs.Words.{CheckerEnd, Stranger, Missing, Faulted, Unfinished}
use Rattle.std.proofs.Math.Seq.{get_or-append_seam}
use Rattle.wcp_model.specs.FirstReason.{IsFirstReason}
use Rattle.wcp_model.proofs.FirstReasons.{first_unique}
use Rattle.wcp_watch.specs.declared.settle_fault.SettleFault.{SettleFault}
use Rattle.wcp_model.specs.declared.outcome.Outcome.{Outcome}

-- a fault is handed on
module _ {X : Type 0} where
  pub handed : (result : Result X SettleFault) (fault : SettleFault)
      → IsErr result × IsErrAnd result (λ given. given ≡ fault) → result ≡ Err fault
  handed (Ok one) fault is = absurd (cc)
  handed (Err given) fault is = ap Err is.1

  pub handed_on : (P : SettleFault → Type 0) (result : Result X SettleFault) (fault one : SettleFault)
      → IsErr result × IsErrAnd result (λ given. given ≡ fault) → fault ≡ one → P one → IfErr result P
  handed_on P result fault one is same holds = subst (λ r. IfErr r P) (sym (handed result fault is ∙ ap Err same)) holds

module _ (probes : List ClosedSide) (relays : List RelayEnd) (checker : CheckerEnd) (book : BookState) where
  -- a fault of the ends is the first where they are free of those before it
  pub is_first : (front : List SettleFault) (one : SettleFault) (behind : List SettleFault)
      → settle_faults ≡ front ++ one ∷ behind
      → AllByRecursion (IsFreeOf probes relays checker book) front → ¬ IsFreeOf probes relays checker book one
      → IsFirstSettleFault probes relays checker book one
  is_first front one behind all free has =
      subst (λ faults. IsFirstReason (λ fault. ¬ IsFreeOf probes relays checker book fault) faults one) (sym all)
      (record {
        place = length front;
        listed = slice_get-get_or (front ++ one ∷ behind) (length front) one
            (omega (arith, length-append front (one ∷ behind)))
            ∙ ap Some (get_or-append_seam front one behind one);
        holds = has;
        none_before = λ earlier other less at denied.
            let here : get_or front earlier other ≡ other =
            sym (get_or_append_left front (one ∷ behind) other earlier less)
            ∙ get_or_from_slice_get (front ++ one ∷ behind) earlier other other at in
            denied
            (rw here at (All-from_recursion (IsFreeOf probes relays checker book) front free earlier other less));
      })

  -- to answer with the first fault is to answer with each first one
  pub answered : (result : Result Outcome SettleFault) (one : SettleFault) → result ≡ Err one
      → IsFirstSettleFault probes relays checker book one
      → (first : SettleFault) → (result ≡ Err first) ↔ IsFirstSettleFault probes relays checker book first
  answered result one is holds first = (
    λ same. subst (IsFirstSettleFault probes relays checker book)
        (let e : one ≡ first = let both = sym is ∙ same in cc in e) holds,
    λ also. is
        ∙ ap Err
        (first_unique (λ fault. ¬ IsFreeOf probes relays checker book fault) settle_faults one first holds also),
  )

  -- ends without any fault have no first one
  pub no_fault : AllByRecursion (IsFreeOf probes relays checker book) settle_faults → (first : SettleFault)
      → IsFirstSettleFault probes relays checker book first → ⊥
  no_fault free Stranger is = is.holds free.0
  no_fault free Missing is = is.holds free.1.0
  no_fault free Faulted is = is.holds free.1.1.0
  no_fault free Unfinished is = is.holds free.1.1.1.0
