-- What a text spells, by whether it's one.
use Rattle.std.proofs.Common.{◌≡◌, List, ℕ, None, codes, refl}
use Rattle.std.specs.Str.{IsUtf8}
use Rattle.trace_log.proofs.Texts.{utf8_passes, not_utf8}
use Rattle.trace_spelling.specs.Ways.{Way, spelled_by_way}
unfoldable use Rattle.trace_spelling.specs.Ways.{spelled}
use Rattle.trace_spelling.specs.Unmatched.{unmatched_by}
unfoldable use Rattle.trace_spelling.specs.Unmatched.{unmatched}

pub of_text : (way : Way) (text : List ℕ) → IsUtf8 text → spelled way text ≡ spelled_by_way way text
unfolding spelled
of_text way text utf8 = rw (utf8_passes text utf8) refl

pub of_no_text : (way : Way) (text : List ℕ) → (IsUtf8 text → ⊥) → spelled way text ≡ None
unfolding spelled
of_no_text way text none = rw (not_utf8 text none) refl

-- What is said of what spells none.
pub unmatched_text : (way : Way) (text : List ℕ) → IsUtf8 text → unmatched way text ≡ unmatched_by way text
unfolding unmatched
unmatched_text way text utf8 = rw (utf8_passes text utf8) refl

pub unmatched_bytes : (way : Way) (text : List ℕ) → (IsUtf8 text → ⊥) → unmatched way text ≡ codes "not UTF-8"
unfolding unmatched
unmatched_bytes way text none = rw (not_utf8 text none) refl
