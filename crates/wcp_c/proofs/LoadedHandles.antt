-- What becomes of what a handle held.
use Rattle.std.proofs.Common.{◌≡◌, Option, Some, None, refl, sym, subst, ap, Bool, true, false, List, [], ◌∷◌}
use Rattle.std.proofs.Common.{get_or}
use Rattle.std.proofs.lemmas.Bool.{false≢true}
use Rattle.std.specs.Prelude.{IsSome}
use Rattle.wcp_queue.specs.Checker.{CheckerState}
use Rattle.wcp_c.specs.Questions.{checkers_of, is_panel}
use Rattle.wcp_c.specs.Saving.{CanBeAsked}
use Rattle.wcp_c.specs.declared.questions.Questions.{Questions}
use Rattle.wcp_c.specs.declared.questions.Questions.TheVariants.{One, Many}

pub not_none : {X : Type 0} (made : Option X) → made ≡ None → IsSome made → ⊥
not_none {X} made is some = false≢true (subst (λ (it : Option X). IsSome it) is some)

pub is_some : {X : Type 0} (made : Option X) (x : X) → made ≡ Some x → IsSome made
is_some {X} made x is = subst (λ (it : Option X). IsSome it) (sym is) refl

pub asked_alike : (panel other : Bool) (checkers others : List CheckerState) → panel ≡ other → checkers ≡ others
    → CanBeAsked panel checkers → CanBeAsked other others
asked_alike panel other checkers others same alike can =
    subst (λ it. CanBeAsked it others) same (subst (CanBeAsked panel) alike can)

-- questions are the same where their checkers are, and both are those of a panel, or neither
pub same_questions : (one other : Questions) → checkers_of one ≡ checkers_of other → is_panel one ≡ is_panel other
    → one ≡ other
same_questions (One one) (One other) checkers _ = ap (λ all. One (get_or all 0 one)) checkers
same_questions (One _) (Many _) _ panel = absurd (false≢true panel)
same_questions (Many _) (One _) _ panel = absurd (false≢true (sym panel))
same_questions (Many _) (Many _) checkers _ = ap Many checkers
