-- Whether the wordings of a document are fit.
use Rattle.trace_condition.specs.Asked.{are_distinct}
use Rattle.trace_questions.specs.declared.wording.Wording.{Wording as OwnWording}
use Rattle.trace_questions.proofs.Members.{any-map}
use Rattle.trace_questions.proofs.Words.{◌≡◌, ℕ, ◌<◌, ◌≤◌, ◌+◌, ◌&&◌, Bool, true, false, not, List, map, length, get_or}
use Rattle.trace_questions.proofs.Words.{drop, ap, sym, ◌∙◌, add-one, suc, drop-cons, drop_all, list_any, length-map}
use Rattle.trace_questions.proofs.Words.{map-map, lt-ltb, bytes_eq, are_fit, Wording, name_worded, seen_wording}

-- The names from the i-th on.
distinct_from : (wordings : List OwnWording) (i : ℕ) (one : OwnWording) → i < length wordings
    → one ≡ get_or wordings i one
    → are_distinct (map name_worded (drop i wordings))
    ≡ (not (list_any (λ w. bytes_eq (name_worded one) (name_worded w)) (drop (i + 1) wordings)) &&
    are_distinct (map name_worded (drop (i + 1) wordings)))
unfolding are_distinct
distinct_from wordings i one within is =
    rw (add-one, drop-cons wordings i one within, ← is)
    (ap (λ (among : Bool). not among && are_distinct (map name_worded (drop (suc i) wordings)))
    (any-map name_worded (bytes_eq (name_worded one)) (drop (suc i) wordings)))

pub distinct_more : (wordings : List OwnWording) (i : ℕ) (one : OwnWording) (all : Bool) → i < length wordings
    → one ≡ get_or wordings i one
    → list_any (λ w. bytes_eq (name_worded one) (name_worded w)) (drop (i + 1) wordings) ≡ false
    → are_distinct (map name_worded (drop i wordings)) ≡ all
    → are_distinct (map name_worded (drop (i + 1) wordings)) ≡ all
distinct_more wordings i one all within is none so_far =
    sym (rw none at (distinct_from wordings i one within is)) ∙ so_far

pub distinct_fails : (wordings : List OwnWording) (i : ℕ) (one : OwnWording) (all : Bool) → i < length wordings
    → one ≡ get_or wordings i one
    → list_any (λ w. bytes_eq (name_worded one) (name_worded w)) (drop (i + 1) wordings) ≡ true
    → are_distinct (map name_worded (drop i wordings)) ≡ all → false ≡ all
distinct_fails wordings i one all within is twice so_far =
    sym (rw twice at (distinct_from wordings i one within is)) ∙ so_far

pub distinct_ends : (wordings : List OwnWording) (i : ℕ) (all : Bool) → length wordings ≤ i
    → are_distinct (map name_worded (drop i wordings)) ≡ all → true ≡ all
unfolding are_distinct
distinct_ends wordings i all end so_far =
    sym (ap (λ (left : List OwnWording). are_distinct (map name_worded left)) (drop_all i wordings end)) ∙ so_far

pub fit_as : (wordings : List OwnWording) (distinct : Bool) → 0 < length wordings
    → distinct ≡ are_distinct (map name_worded wordings) → distinct ≡ are_fit (map seen_wording wordings)
fit_as wordings distinct some is =
    rw (
      length-map wordings seen_wording,
      map-map (λ (w : Wording). w.name) seen_wording wordings,
      lt-ltb 0
          (length wordings) some,
    ) is
