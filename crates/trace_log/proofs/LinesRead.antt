-- The lines of a log that are read, and how many they are.
use Rattle.trace_log.proofs.EventWords.{◌≡◌, ◌∙◌, ◌++◌, ◌+◌, ℕ, List, [], ◌∷◌, Option, Some, None, Ok}
use Rattle.trace_log.proofs.EventWords.{false, true, length, refl, sym, ap, subst, arith, append_assoc, length-append}
use Rattle.trace_log.proofs.EventWords.{Form, Log, SoFar, after, next_turn, no_lines, log_from, HasRead}
use Rattle.trace_log.proofs.EventWords.{IsWithin, cut_behind, is_over, nat_le, ◌-◌}
use Rattle.std.specs.Option.{option_map_or}
use Rattle.std.proofs.lemmas.Bool.{leb-false, leb-true}
use Rattle.std.proofs.lemmas.List.{take_all}
use Rattle.std.proofs.Math.Seq.{take-append-add, take-append_seam}
use Rattle.std.specs.Prelude.{take}
use Rattle.trace_log.proofs.Binds.{bind_gives}

-- As many lines are counted as were read.
pub counted : (form : Form) (first : SoFar) (lines : List (List ℕ)) (so_far : SoFar)
    → log_from form first lines ≡ Ok so_far → so_far.lines ≡ first.lines + length lines
unfolding log_from
counted form first [] so_far said =
    let same : first ≡ so_far = cc in omega (arith, ap (λ (s : SoFar). s.lines) same)
counted form first (line ∷ lines) so_far said =
    bind_gives (so_far.lines ≡ first.lines + length (line ∷ lines)) (next_turn form first line)
    (λ turn. log_from form (after first turn) lines) so_far said
    (λ turn is rest. omega (arith, counted form (after first turn) lines so_far rest))

all_counted : (form : Form) (lines : List (List ℕ)) (so_far : SoFar) → log_from form no_lines lines ≡ Ok so_far
    → so_far.lines ≡ length lines
all_counted form lines so_far said = omega (arith, counted form no_lines lines so_far said)

room : (last : Option ℕ) (count : ℕ) → option_map_or (λ last. nat_le last count) last false ≡ false
    → IsWithin last (count + 1)
room None count not_over = tt
room (Some last) count not_over = omega (arith, leb-false last count not_over)

-- Where the log isn't over, one line more is read.
pub one_more : (form : Form) (so_far : SoFar) (lines : List (List ℕ)) (log : Log) → HasRead form so_far log
    → log_from form no_lines lines ≡ Ok so_far → is_over log ≡ false → IsWithin form.last (length lines + 1)
one_more form so_far lines log read said not_over =
    room form.last (length lines)
    (rw (read.form_is, read.lines, all_counted form lines so_far said) at not_over)

pub within_more : (last : Option ℕ) (lines : List (List ℕ)) (line : List ℕ) → IsWithin last (length lines + 1)
    → IsWithin last (length (lines ++ line ∷ []))
within_more last lines line within = subst (IsWithin last) (sym (length-append lines (line ∷ []))) within

-- Lines of which all are read.
pub cut_none : (last : Option ℕ) (lines : List (List ℕ)) → IsWithin last (length lines) → cut_behind last lines ≡ lines
cut_none None lines within = refl
cut_none (Some last) lines within = take_all last lines within

-- A line that is read, and what is read behind it.
pub cut_more : (last : Option ℕ) (lines later : List (List ℕ)) (line : List ℕ) → IsWithin last (length lines + 1)
    → (more : List (List ℕ)) × (cut_behind last (lines ++ line ∷ later) ≡ lines ++ line ∷ more)
cut_more None lines later line within = (later, refl)
cut_more (Some last) lines later line within =
    let some = lines ++ line ∷ [] in
    let rest = last - length some in
    let few = length-append lines (line ∷ []) in
    let same : last ≡ length some + rest = omega (arith, few) in (
      take rest later,
      ap (take last) (sym (append_assoc lines (line ∷ []) later)) ∙ ap (λ n. take n (some ++ later)) same
          ∙ take-append-add some later rest ∙ append_assoc lines (line ∷ []) (take rest later),
    )

is_last_of : (last : Option ℕ) (count : ℕ) → IsWithin last count
    → option_map_or (λ last. nat_le last count) last false ≡ true → last ≡ Some count
is_last_of None count within over = cc
is_last_of (Some last) count within over = ap Some (omega (arith, leb-true last count over))

-- Where the log is over, the last line that is read was read.
pub is_last : (form : Form) (so_far : SoFar) (lines : List (List ℕ)) (log : Log) → HasRead form so_far log
    → log_from form no_lines lines ≡ Ok so_far → IsWithin form.last (length lines) → is_over log ≡ true
    → form.last ≡ Some (length lines)
is_last form so_far lines log read said within over =
    is_last_of form.last (length lines) within
    (rw (read.form_is, read.lines, all_counted form lines so_far said) at over)

-- Lines behind the last that is read.
pub cut_at : (last : Option ℕ) (lines later : List (List ℕ)) → last ≡ Some (length lines)
    → cut_behind last (lines ++ later) ≡ lines
cut_at last lines later is = ap (λ l. cut_behind l (lines ++ later)) is ∙ take-append_seam lines later
