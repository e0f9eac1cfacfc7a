-- Lines that are printed one after another.
use Rattle.wcp_script.proofs.Words.{◌≡◌, ℕ, List, [], ◌∷◌, ◌++◌, Result, refl, ap, sym, ◌∙◌, append-nil, append_assoc}
use Rattle.wcp_script.proofs.Words.{arith, OnOk, codes, decimal, flat_map, flat_map-append, range_with_len, false, inl}
use Rattle.wcp_script.proofs.Words.{inr, Word, text_of, line_text, are_all_watched, watch_lines, watched_words}
use Rattle.std.specs.FinSet as set
use Rattle.std.proofs.lemmas.Bool.{cases_Bool}
use Rattle.wcp_clock.specs.ProcessNumbers.{NumberSet}
use Rattle.wcp_script.specs.PlanText.{spaced_word}

-- the text with some lines, and then with others
text_more : (old front new : List ℕ) (xs ys : List (List Word)) → front ≡ old ++ text_of xs → new ≡ front ++ text_of ys
    → new ≡ old ++ text_of (xs ++ ys)
text_more old front new xs ys was is = grind (arith, append_assoc, flat_map-append)

-- the text with the six parts of a head
pub head_printed : {A E : Type 0} (r : Result A E) (old one two three four five new : List ℕ)
    (opening cap hold tree watch flag : List (List Word)) → one ≡ old ++ text_of opening → two ≡ one ++ text_of cap
    → three ≡ two ++ text_of hold → four ≡ three ++ text_of tree → five ≡ four ++ text_of watch
    → OnOk r (new ≡ five ++ text_of flag)
    → OnOk r (new ≡ old ++ text_of (opening ++ (cap ++ (hold ++ (tree ++ (watch ++ flag))))))
head_printed r old one two three four five new opening cap hold tree watch flag first second third fourth fifth last =
    grind (arith, text_more)

-- the words of a line, each behind a space but the first
pub line_text_spaced : (word : Word) (words : List Word)
    → line_text (word ∷ words) ≡ word ++ (flat_map (λ other. 32 ∷ other) words ++ 10 ∷ [])
line_text_spaced word [] = refl
line_text_spaced word (next ∷ words) =
    ap (λ rest. word ++ 32 ∷ rest)
    (line_text_spaced next words ∙ sym (append_assoc next (flat_map (λ other. 32 ∷ other) words) (10 ∷ [])))

spaced_words : (watched : NumberSet) (ps : List ℕ)
    → flat_map (λ word. 32 ∷ word) (flat_map (watched_words watched) ps) ≡ flat_map (spaced_word watched) ps
spaced_words watched [] = refl
spaced_words watched (p ∷ ps) = elim (cases_Bool (set.contains watched p)) [
  | inl has_it ↦ rw (has_it) (ap (λ rest. 32 ∷ decimal p ++ rest) (spaced_words watched ps))
  | inr out ↦ rw (out) (spaced_words watched ps)
]

-- the line of the watched, piece by piece
pub watch_printed : (n : ℕ) (watched : NumberSet) (old : List ℕ) → are_all_watched n watched ≡ false
    → old ++ text_of (watch_lines n watched)
    ≡ ((old ++ codes "watch") ++ flat_map (spaced_word watched) (range_with_len 0 n)) ++ 10 ∷ []
watch_printed n watched old some =
    let words = flat_map (watched_words watched) (range_with_len 0 n) in
    let line = line_text_spaced (codes "watch") words
    ∙ ap (λ spaced. codes "watch" ++ (spaced ++ 10 ∷ [])) (spaced_words watched (range_with_len 0 n)) in
    rw (some, line) (grind (arith, append_assoc, append-nil))
