-- A text that grows line by line.
use Rattle.std.proofs.Common.{◌≡◌, ◌∙◌, ◌+◌, ◌<◌, ◌≤◌, ℕ, List, ◌∷◌, ◌++◌, length, drop, sym, ap, append_assoc, append-nil}
use Rattle.std.proofs.Common.{get_or, take, false, refl, [], codes, ◌==◌}
use Rattle.std.proofs.lemmas.List.{drop_more, drop_all, take_more, flat_map_more}
use Rattle.std.specs.List.{flat_map}
use Rattle.trace_moment.specs.Moment.{HostWatch}
use Rattle.trace_explain.specs.declared.reason.StateOver.{StateOver}
use Rattle.trace_explain.specs.Texts.{name_at, none_lines, numbered, over_line}

pub numbered-more : {X : Type 0} (line : ℕ → X → List ℕ) (text new : List ℕ) (xs : List X) (p : ℕ) (x : X)
    (whole : List ℕ) → p < length xs → x ≡ get_or xs p x → new ≡ text ++ line p x
    → text ++ numbered line p (drop p xs) ≡ whole → new ++ numbered line (p + 1) (drop (p + 1) xs) ≡ whole
numbered-more line text new xs p x whole within is grows so_far =
    ap (λ l. l ++ numbered line (p + 1) (drop (p + 1) xs)) (grows ∙ ap (λ y. text ++ line p y) is)
    ∙ append_assoc text (line p (get_or xs p x)) (numbered line (p + 1) (drop (p + 1) xs))
    ∙ ap (λ l. text ++ l) (sym (ap (numbered line p) (drop_more xs p x within))) ∙ so_far

pub numbered-whole : {X : Type 0} (line : ℕ → X → List ℕ) (text : List ℕ) (xs : List X) (p : ℕ) (whole : List ℕ)
    → length xs ≤ p → text ++ numbered line p (drop p xs) ≡ whole → text ≡ whole
numbered-whole line text xs p whole all so_far =
    sym (append-nil text) ∙ ap (λ l. text ++ numbered line p l) (sym (drop_all p xs all)) ∙ so_far

pub flat-more : {X : Type 0} (line : X → List ℕ) (start text new : List ℕ) (xs : List X) (i : ℕ) (x : X)
    → i < length xs → new ≡ text ++ line (get_or xs i x) → text ≡ start ++ flat_map line (take i xs)
    → new ≡ start ++ flat_map line (take (i + 1) xs)
flat-more line start text new xs i x within grows so_far = grows ∙ ap (λ t. t ++ line (get_or xs i x)) so_far
    ∙ flat_map_more line start (take i xs) (get_or xs i x)
    ∙ ap (λ l. start ++ flat_map line l) (sym (take_more xs i x within))

-- Where a state was, what is said of none.
pub none_lines-some : (watched : List HostWatch) (p : ℕ) (over : List StateOver) → (length over == 0) ≡ false
    → none_lines watched p over
    ≡ codes "no state of " ++ (name_at watched p ++ (codes " is left\n" ++ flat_map (over_line watched p) over))
none_lines-some watched p [] none = absurd (cc)
none_lines-some watched p (first ∷ others) none = refl
