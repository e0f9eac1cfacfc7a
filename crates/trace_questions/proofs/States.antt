-- Whether the words of a question are of states alone.
use Rattle.trace_questions.proofs.Words.{◌≡◌, ◌==◌, List, length, length-map, refl, seen_texts, Bor, Text}

pub as_many_points : (points : List (Bor Text)) → (length points == 0) ≡ (length (seen_texts points) == 0)
as_many_points points = rw (length-map points (λ (point : Bor Text). point.now)) refl
