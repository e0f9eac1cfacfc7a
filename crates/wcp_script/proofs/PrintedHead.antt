-- The lines of a plan's head are read as that head.
use Rattle.wcp_script.proofs.Words.{◌≡◌, ℕ, suc, ◌+◌, ◌^◌, ◌<◌, ◌≤◌, Bool, true, false, cond, eqb, List, [], ◌∷◌, ◌++◌}
use Rattle.wcp_script.proofs.Words.{length, Option, Some, None, Ok, refl, sym, ap, subst, ◌∙◌, append_assoc}
use Rattle.wcp_script.proofs.Words.{length-append, arith, lt-ltb, le-leb, codes, replicate, slice_get, slice_set}
use Rattle.wcp_script.proofs.Words.{AllByRecursion, decimal, set-append_seam, false_from_ne_true, true≢false}
use Rattle.wcp_script.proofs.Words.{append-nil, bytes_eq-Decides, Parent, Relay, HeadLine, Word, line_text, text_of}
use Rattle.wcp_script.proofs.Words.{lines_of, parent_word, relay_lines, attach_lines, numbered, is_task_word, Head}
use Rattle.wcp_script.proofs.Words.{first_head, first_word, head_words, with_line, parent_in, is_above, is_after}
use Rattle.std.specs.Option.{unwrap_or}
use Rattle.std.specs.Str.{bytes_eq}
use Rattle.wcp_script.specs.declared.head_line.HeadLine.TheVariants as said
use Rattle.wcp_script.specs.Head.{head_line, head_by}
use Rattle.wcp_script.proofs.LinesOfWords.{IsWord, IsWord-literal, IsWord-decimal, lacks-decimal, number_in-decimal}
use Rattle.wcp_script.proofs.LinesOfWords.{words_of-joined, lines_of-line_text}

-- Under this head these are the words of a head line that says this.
pub record Says (head : Head) (words : List Word) (what : HeadLine) : Type 0 where
  pub are_words : AllByRecursion IsWord words
  pub no_step : is_task_word (first_word words) ≡ false
  pub says : head_words head words ≡ Ok what
  pub first : head.flag ≡ None

-- These lines, one after the other, make of one head the other.
abbrev pub Makes : Head → List (List Word) → Head → Type 0
Makes head [] made = head ≡ made
Makes head (words ∷ lines) made = (what : HeadLine) × Says head words what × Makes (with_line head what) lines made

pub Makes-append : (a b c : Head) (xs ys : List (List Word)) → Makes a xs b → Makes b ys c → Makes a (xs ++ ys) c
Makes-append a b c [] ys same then = subst (λ (head : Head). Makes head ys c) (sym same) then
Makes-append a b c (words ∷ xs) ys first then =
    (first.0, first.1, Makes-append (with_line a first.0) b c xs ys first.2 then)

line_made : (head : Head) (words : List Word) (what : HeadLine) (last : ℕ) (rest : List ℕ) → Says head words what
    → head_by is_task_word head last (lines_of (line_text words ++ rest)) ≡ head_by is_task_word (with_line head what)
    (last + 1) (lines_of rest)
unfolding head_by head_line
line_made head words what last rest h = grind (arith, lines_of-line_text, words_of-joined)

-- Lines that make a head are read as it.
pub made_is_read : (head made : Head) (lines : List (List Word)) (last : ℕ) (rest : List ℕ) → Makes head lines made
    → (end : ℕ) × (head_by is_task_word head last (lines_of (text_of lines ++ rest)) ≡ head_by is_task_word made end
    (lines_of rest))
made_is_read head made [] last rest same =
    (last, ap (λ (head : Head). head_by is_task_word head last (lines_of rest)) same)
made_is_read head made (words ∷ lines) last rest h =
    grind (arith, append_assoc, line_made, made_is_read (with_line head h.0) made lines (last + 1) rest h.2)

-- ---- capacities

-- A capacity that a line says, unless it's the plain one.
abbrev pub said_unless : ℕ → ℕ → Option ℕ
said_unless plain capacity = cond (eqb capacity plain) None (Some capacity)

pub unwrap_or-said_unless : (plain capacity : ℕ) → capacity ≡ unwrap_or (said_unless plain capacity) plain
unwrap_or-said_unless plain capacity = grind arith

pub cap_makes : (n cap : ℕ) (plain : Bool) → 1 ≤ cap → cap ≤ 1024 → Makes (first_head n)
    (cond plain [] ((codes "cap" ∷ decimal cap ∷ []) ∷ [])) (record (first_head n) { cap = cond plain None (Some cap) })
cap_makes n cap true low high = refl
cap_makes n cap false low high = (
  said.Cap cap,
  grind (arith, IsWord-decimal, IsWord-literal, le-leb, number_in-decimal),
  refl,
)

pub hold_makes : (n hold : ℕ) (cap : Option ℕ) (plain : Bool) → 1 ≤ hold → hold ≤ 64
    → Makes (record (first_head n) { cap = cap }) (cond plain [] ((codes "hold" ∷ decimal hold ∷ []) ∷ []))
    (record (first_head n) { cap = cap; hold = cond plain None (Some hold) })
hold_makes n hold cap true low high = refl
hold_makes n hold cap false low high = (
  said.Hold hold,
  grind (arith, IsWord-decimal, IsWord-literal, le-leb, number_in-decimal),
  refl,
)

-- ---- relays

-- a number isn't the word `root`
not_root : (above : ℕ) → above < 2 ^ 32 → bytes_eq (decimal above) (codes "root") ≡ false
not_root above small = false_from_ne_true (bytes_eq (decimal above) (codes "root")) (λ same.
    let lacks = lacks-decimal 114 above small (λ range. absurd (omega (arith, range.1))) in
    true≢false ((rw ((bytes_eq-Decides (decimal above) (codes "root")).0 same) at lacks) 0 0 (omega arith)))

parent_in-parent_word : (relay : ℕ) (parent : Parent) → relay < 2 ^ 32 → is_above relay parent ≡ true
    → IsWord (parent_word parent) × (parent_in (parent_word parent) ≡ Ok parent)
parent_in-parent_word relay parent small lower = grind (arith, IsWord-decimal, not_root, number_in-decimal)

above_from : (relay : ℕ) (parent : Parent) → ((above : ℕ) → parent ≡ Relay above → above < relay)
    → is_above relay parent ≡ true
above_from relay parent lower = grind arith

relay_says : (head : Head) (k : ℕ) (parent : Parent) → head.watched ≡ None → head.flag ≡ None
    → head.last_attached ≡ None → k ≡ length head.parents → k < 15 → is_above k parent ≡ true
    → Says head (codes "relay" ∷ decimal k ∷ parent_word parent ∷ []) (said.Relay parent)
relay_says head k parent nobody unsaid none next few lower =
    grind (arith, IsWord-decimal, number_in-decimal, parent_in-parent_word)

pub relays_make : (head : Head) (front parents : List Parent) (k : ℕ) → head.watched ≡ None → head.flag ≡ None
    → head.last_attached ≡ None → k ≡ length front → k + length parents ≤ 15
    → ((i above : ℕ) → slice_get parents i ≡ Some (Relay above) → above < k + i)
    → Makes (record head { parents = front }) (numbered relay_lines k parents)
    (record head { parents = front ++ parents })
relays_make head front [] k nobody unsaid none next few lower =
    ap (λ (all : List Parent). record head { parents = all }) (sym (append-nil front))
relays_make head front (parent ∷ parents) k nobody unsaid none next few lower =
    let more : List Parent = front ++ parent ∷ [] in
    let here : is_above k parent ≡ true = above_from k parent (λ above is. omega (arith, lower 0 above (ap Some is))) in
    let others =
    relays_make head more parents (k + 1) nobody unsaid none (omega (arith, length-append front (parent ∷ [])))
    (omega arith) (λ i above is. omega (arith, lower (suc i) above is)) in (
      said.Relay parent,
      relay_says (record head { parents = front }) k parent nobody unsaid none next (omega arith) here,
      subst (λ (all : List Parent). Makes (record head { parents = more }) (numbered relay_lines (k + 1) parents)
          (record head { parents = all })) (append_assoc front (parent ∷ []) parents) others,
    )

-- ---- attachments

attach_says : (head : Head) (p relay : ℕ) → head.watched ≡ None → head.flag ≡ None → 1 ≤ length head.parents
    → p < head.n → head.n ≤ 16 → relay < 15 → is_after head.last_attached p ≡ true
    → Says head (codes "attach" ∷ decimal p ∷ decimal relay ∷ []) (said.Attach p relay)
attach_says head p relay nobody unsaid some inside few lower rising = grind (arith, IsWord-decimal, number_in-decimal)

pub attaches_make : (head : Head) (served entries start all : List (Option ℕ)) (before : Option ℕ) (k : ℕ)
    → k ≡ length served → start ≡ served ++ replicate (length entries) None → all ≡ served ++ entries
    → head.watched ≡ None → head.flag ≡ None → 1 ≤ length head.parents → k + length entries ≤ head.n → head.n ≤ 16
    → ((i relay : ℕ) → slice_get entries i ≡ Some (Some relay) → relay < 15)
    → ((p : ℕ) → k ≤ p → is_after before p ≡ true)
    → (after : Option ℕ) × Makes (record head { attach = start; last_attached = before })
    (numbered attach_lines k entries) (record head { attach = all; last_attached = after })
attaches_make head served [] start all before k next begun whole nobody unsaid some inside few lower rising = (
  before,
  ap (λ (attach : List (Option ℕ)). record head { attach = attach; last_attached = before }) (begun ∙ sym whole),
)
attaches_make head served
    (None ∷ entries) start all before k next begun whole nobody unsaid some inside few lower rising =
    attaches_make head (served ++ None ∷ []) entries start all before (k + 1)
    (omega (arith, length-append {A = Option ℕ} served (None ∷ [])))
    (begun ∙ sym (append_assoc served (None ∷ []) (replicate (length entries) None)))
    (whole ∙ sym (append_assoc served (None ∷ []) entries))
    nobody unsaid some (omega arith) few (λ i relay is. lower (suc i) relay is) (λ p past. rising p (omega arith))
attaches_make head served
    (Some relay ∷ entries) start all before k next begun whole nobody unsaid some inside few lower rising =
    let none : List (Option ℕ) = replicate (length entries) None in
    let set : slice_set start k (Some relay) ≡ served ++ Some relay ∷ none =
    rw (begun, next) (set-append_seam served None none (Some relay)) in
    let others = attaches_make head (served ++ Some relay ∷ []) entries (slice_set start k (Some relay)) all (Some k)
    (k + 1) (omega (arith, length-append {A = Option ℕ} served (Some relay ∷ [])))
    (set ∙ sym (append_assoc served (Some relay ∷ []) none))
    (whole ∙ sym (append_assoc served (Some relay ∷ []) entries))
    nobody unsaid some (omega arith) few (λ i relay is. lower (suc i) relay is)
    (λ p past. lt-ltb k p (omega arith)) in (
      others.0,
      (
        said.Attach k relay,
        attach_says (record head { attach = start; last_attached = before }) k relay nobody unsaid some
            (omega arith) few (lower 0 relay refl) (rising k (omega arith)),
        others.1,
      ),
    )
