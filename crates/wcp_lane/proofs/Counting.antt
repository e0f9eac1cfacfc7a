-- How many items of each number were put or taken.
use Rattle.wcp_lane.proofs.Words.{◌≡◌, ◌≢◌, ℕ, ◌+◌, ◌<◌, List, [], ◌∷◌, ◌++◌, length, set, replicate, refl, sym, ap}
use Rattle.wcp_lane.proofs.Words.{◌∙◌, ⊎_elim, arith, length-append, All, Bool, length-set, get_or-set_same}
use Rattle.wcp_lane.proofs.Words.{get_or-set_other, get_or-replicate, append-nil, cases_eq, most_processes, items_from}
use Rattle.wcp_lane.proofs.Words.{AllMayFollow, Numbers, AreCounts, IsSpanOf}
use Rattle.wcp_lane.specs.declared.counts.Span.{Span}
use Rattle.wcp_lane.proofs.Lists.{items_from-append, items_from-all, items_from-none}

module _ {I : Type 0} (origin : I → ℕ) where
  -- the origin of a span is below 16 as those of its items are
  pub span_below : (place : I → ℕ) (items : List I) (span : Span) → IsSpanOf origin place items span
      → All (λ item. origin item < most_processes) items → span.origin < most_processes
  span_below place [] span is below = absurd (omega (arith, is.some, is.counted))
  span_below place (x ∷ xs) span is below = omega (arith, is.own 0 x (omega arith), below 0 x (omega arith))

  -- its place is the number of items of its origin before them
  first_place : (place : I → ℕ) (is_last : I → Bool) (numbers : Numbers) (before items : List I) (span : Span)
      → IsSpanOf origin place items span → AllMayFollow origin place is_last numbers before items
      → span.place ≡ length (items_from origin span.origin before)
  first_place place is_last numbers before [] span is may = absurd (omega (arith, is.some, is.counted))
  first_place place is_last numbers before (x ∷ xs) span is may = is.first ∙ may.0.next.numbered
      ∙ ap (λ q. length (items_from origin q before)) (is.own 0 x (omega arith))

  -- no item, and so none of any number
  pub counts_of_none : (items : List I) → items ≡ [] → AreCounts origin (replicate 16 0) items
  counts_of_none items none = rw none (refl, λ p below. get_or-replicate 16 p 0 0 below)

  -- more items of one number, and the count of this number
  pub counted : (counts : List ℕ) (before items : List I) (p count : ℕ) → AreCounts origin counts before → All
      (λ item. origin item ≡ p) items → p < most_processes → count ≡ length (items_from origin p before) + length items
      → AreCounts origin (set counts p count) (before ++ items)
  counted counts before items p count old own below next = (
    length-set counts p count ∙ old.0,
    λ q within. ⊎_elim
        (λ (same : q ≡ p). rw (
          same,
          get_or-set_same counts p count 0 (omega (arith, old.0)),
          items_from-append origin p before items,
          items_from-all origin p items own,
          length-append,
        ) next)
        (λ (apart : q ≢ p). rw (
          get_or-set_other counts p q count 0 apart,
          items_from-append origin q before items,
          items_from-none origin q items (λ k d inside here. apart (sym here ∙ own k d inside)),
          append-nil,
        )
        (old.1 q within))
        (cases_eq q p),
  )

  -- the next items of one number were counted
  pub counted_next : (place : I → ℕ) (is_last : I → Bool) (numbers : Numbers) (counts : List ℕ) (before items : List I)
      (span : Span) (count : ℕ) → count ≡ span.place + span.items → span.origin < most_processes
      → IsSpanOf origin place items span
      → AreCounts origin counts before → AllMayFollow origin place is_last numbers before items
      → AreCounts origin (set counts span.origin count) (before ++ items)
  counted_next place is_last numbers counts before items span count so_many below is old may =
      counted counts before items span.origin count old is.own below
      (omega (arith, first_place place is_last numbers before items span is may, is.counted))
