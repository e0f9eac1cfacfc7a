-- An outlet stays faithful to what is taken.
use Rattle.wcp_relay.proofs.Words.{◌≡◌, ◌⊎◌, ℕ, Option, None, Some, List, [], ◌∷◌, ◌++◌, sym, refl, ap, ◌∙◌, subst, inl}
use Rattle.wcp_relay.proofs.Words.{inr, ⊎_elim, append_assoc, IfNone, IfSome, append-nil, IsPrefix, Item, Outlet}
use Rattle.wcp_relay.proofs.Words.{items_of, handed, IsFaithful}
use Rattle.wcp_lane.specs.declared.fault.Cut.{Cut}
use Rattle.wcp_relay.proofs.Lists.{items_of-append}
use Rattle.wcp_relay.proofs.Passing.{if_none}

pub prefix_same : (xs ys : List Item) → xs ≡ ys → IsPrefix xs ys
prefix_same xs ys same = ([], append-nil xs ∙ same)

pub prefix_more : (xs ys zs : List Item) → IsPrefix xs ys → IsPrefix xs (ys ++ zs)
prefix_more xs ys zs front = (front.0 ++ zs, sym (append_assoc xs front.0 zs) ∙ ap (λ l. l ++ zs) front.1)

pub only_none : {A : Type 0} (X : Type 0) (o : Option A) → (o ≡ None → X) → IfNone o X
only_none X None given = given refl
only_none X (Some x) given = tt

pub none_or : {A : Type 0} (o : Option A) → (o ≡ None) ⊎ ((x : A) × (o ≡ Some x))
none_or None = inl refl
none_or (Some x) = inr (x, refl)

-- an item was taken, and the outlet was handed it, or let it go
pub faithful_more : (taken more : ℕ → List Item) (old new : Outlet) (item : Item) → IsFaithful taken old
    → ((p : ℕ) → more p ≡ taken p ++ items_of p (item ∷ []))
    → IfNone new.cut ((old.cut ≡ None) × (handed new ≡ handed old ++ item ∷ []))
    → IfSome new.cut (λ cut. handed new ≡ handed old)
    → IsFaithful more new
faithful_more taken more old new item faithful one passed let_go =
    let whole : new.cut ≡ None → (p : ℕ) → items_of p (handed new) ≡ more p =
    λ none p.
    let step = if_none _ new.cut none passed in
    ap (items_of p) step.1 ∙ items_of-append p (handed old) (item ∷ [])
    ∙ ap (λ xs. xs ++ items_of p (item ∷ [])) (if_none _ old.cut step.0 faithful.whole p) ∙ sym (one p) in
    record {
      whole = only_none _ new.cut whole;
      prefix = λ p. ⊎_elim
          (λ (none : new.cut ≡ None). prefix_same (items_of p (handed new)) (more p) (whole none p))
          (λ (some : (cut : Cut) × (new.cut ≡ Some cut)).
          let same = subst (λ o. IfSome o (λ cut. handed new ≡ handed old)) some.1 let_go in
          subst (λ xs. IsPrefix (items_of p xs) (more p)) (sym same)
          (subst (IsPrefix (items_of p (handed old))) (sym (one p))
          (prefix_more (items_of p (handed old)) (taken p) (items_of p (item ∷ [])) (faithful.prefix p))))
          (none_or new.cut);
    }

-- nothing was taken, and the outlet passed on what it holds
pub faithful_same : (taken more : ℕ → List Item) (old new : Outlet) → IsFaithful taken old
    → ((p : ℕ) → more p ≡ taken p) → handed new ≡ handed old
    → (new.cut ≡ None → old.cut ≡ None) → IsFaithful more new
faithful_same taken more old new faithful one same uncut =
    record {
      whole = only_none _ new.cut
          (λ none p. ap (items_of p) same ∙ if_none _ old.cut (uncut none) faithful.whole p ∙ sym (one p));
      prefix = λ p. subst (λ xs. IsPrefix (items_of p xs) (more p)) (sym same)
          (subst (IsPrefix (items_of p (handed old))) (sym (one p)) (faithful.prefix p));
    }
