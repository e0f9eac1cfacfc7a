-- The status of several answers, and which of them has a moment.
use Rattle.std.proofs.Common.{◌≡◌, ◌∙◌, ◌+◌, ◌<◌, ℕ, zero, suc, Bool, true, false, List, [], ◌∷◌, length, arith, ap, sym}
use Rattle.std.proofs.Common.{refl, inl, inr, subst, IfOk, Result, Ok, Err, Vec, Global}
use Rattle.std.specs.declared.alloc.AllocError.{AllocError}
use Rattle.draw_page.specs.declared.model.Page.{Page}
use Rattle.trace_asking.specs.declared.reading_on.Behind.{Behind}
use Rattle.std.proofs.lemmas.Bool.{cases_eq}
use Rattle.std.specs.Prelude.{◌||◌, map, slice_index_or}
use Rattle.std.specs.List.{list_any}
use Rattle.trace_text.specs.Unknown.{unknown_status}
use Rattle.trace_pages.specs.Pages.{IsDrawn, IsPageOf, Said, said_by}
use Rattle.trace_pages.specs.Several.{IsShown, ShowsSaid, has_moment, has_status, is_found, is_moment, is_undecided}
use Rattle.trace_pages.specs.Several.{said_status}
use Rattle.trace_pages.specs.declared.answered.Answered.{Answered}

any_said : (p : Said → Bool) (answered : List Answered)
    → list_any p (map said_by answered) ≡ list_any (λ one. p (said_by one)) answered
any_said p [] = refl
any_said p (one ∷ more) = ap (λ b. p (said_by one) || b) (any_said p more)

module _ (answered : List Answered) where
  pub status_unknown : list_any is_undecided answered ≡ true → unknown_status ≡ said_status (map said_by answered)
  status_unknown one =
      let is : list_any (has_status unknown_status) (map said_by answered) ≡ true =
      any_said (has_status unknown_status) answered ∙ one in
      rw is refl

  pub status_found : list_any is_undecided answered ≡ false → list_any is_found answered ≡ true
      → 0 ≡ said_status (map said_by answered)
  status_found none one =
      let none_is : list_any (has_status unknown_status) (map said_by answered) ≡ false =
      any_said (has_status unknown_status) answered ∙ none in
      let one_is : list_any (has_status 0) (map said_by answered) ≡ true = any_said (has_status 0) answered ∙ one in
      rw (none_is, one_is) refl

  pub status_none : list_any is_undecided answered ≡ false → list_any is_found answered ≡ false
      → 1 ≡ said_status (map said_by answered)
  status_none none none_found =
      let none_is : list_any (has_status unknown_status) (map said_by answered) ≡ false =
      any_said (has_status unknown_status) answered ∙ none in
      let found_is : list_any (has_status 0) (map said_by answered) ≡ false =
      any_said (has_status 0) answered ∙ none_found in
      rw (none_is, found_is) refl

pub said_at : (answered : List Answered) (p : ℕ) (said : Said) (one : Answered) → p < length answered
    → slice_index_or (map said_by answered) p said ≡ said_by (slice_index_or answered p one)
said_at [] p said one within = absurd (omega (arith, within))
said_at (first ∷ more) zero said one within = refl
said_at (first ∷ more) (suc p) said one within = said_at more p said one (omega (arith, within))

-- One answer more has no moment.
pub moment_more : (answered : List Answered) (place : ℕ) (one : Answered) → place < length answered
    → is_moment (slice_index_or answered place one).answer ≡ false
    → ((p : ℕ) (said : Said) → p < place → has_moment (slice_index_or (map said_by answered) p said) ≡ false)
    → (p : ℕ) (said : Said) → p < place + 1 → has_moment (slice_index_or (map said_by answered) p said) ≡ false
moment_more answered place one within none before p said below = elim (cases_eq p place) [
  | inl same ↦
      ap has_moment (ap (λ k. slice_index_or (map said_by answered) k said) same
      ∙ said_at answered place said one within) ∙ none
  | inr other ↦ before p said (omega (arith, below, other))
]

-- The picture of the answer that is shown first.
pub shows_first : (answered : List Answered) (place : ℕ) (one : Answered) (behind : Behind) (page : Page)
    (result : Result (Vec ℕ Global) AllocError) → IsShown (map said_by answered) place → place < length answered
    → IsPageOf (said_by (slice_index_or answered place one) ∷ []) behind page
    → IfOk result (λ bytes. IsDrawn true page bytes.items)
    → IfOk result (λ bytes. ShowsSaid true (map said_by answered) behind bytes.items)
shows_first answered place one behind page (Ok bytes) shown within is drawn = (
  place,
  shown,
  λ said. record {
    page = page;
    says = subst (λ (s : Said). IsPageOf (s ∷ []) behind page) (sym (said_at answered place said one within)) is;
    is_drawn = drawn;
  },
)
shows_first answered place one behind page (Err fault) shown within is drawn = tt

-- The page of all answers.
pub shows_page : (saids : List Said) (behind : Behind) (page : Page) (result : Result (Vec ℕ Global) AllocError)
    → IsPageOf saids behind page → IfOk result (λ bytes. IsDrawn false page bytes.items)
    → IfOk result (λ bytes. ShowsSaid false saids behind bytes.items)
shows_page saids behind page (Ok bytes) is drawn = (page, is, drawn)
shows_page saids behind page (Err fault) is drawn = tt
