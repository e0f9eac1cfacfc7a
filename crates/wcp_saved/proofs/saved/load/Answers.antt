use Rattle.std.proofs.Common.{◌≡◌, ◌∙◌, sym, ap, arith, true, false}
use Rattle.std.proofs.lemmas.Bool.{true≢false}
use Rattle.std.specs.Int.{w32, to_le_bytes}
use Rattle.wcp_queue.specs.Checker.{IsSoundChecker}
use Rattle.wcp_queue.specs.Parts.{state_of}
use Rattle.wcp_saved.specs.Spelling.{bytes_of, checksum, spelling, words_of}
use Rattle.wcp_saved.proofs.Loaded.{saved_of, restored}
use Rattle.wcp_saved.proofs.Small.{small_words}
use Rattle.wcp_saved.proofs.saved.load.Goals as goal

pub returns-then-not-is_sealed-clause-all : goal.returns-then-not-is_sealed-clause-all
returns-then-not-is_sealed-clause-all c = λ saved is.
    let told : c.is_sealed.result ≡ true = c.is_sealed.ensures (bytes_of (words_of saved)) is.spelled in
    let not : c.is_sealed.result ≡ false = grind arith in
    absurd (true≢false (sym told ∙ not))

pub returns-then-not-are_same-clause-all : goal.returns-then-not-are_same-clause-all
returns-then-not-are_same-clause-all c = λ saved is.
    let words = c.in_ok-words.ensures (words_of saved) (to_le_bytes w32 (checksum (bytes_of (words_of saved))))
    (small_words saved is.sound is.range) is.spelled (omega arith) in
    let parts : state_of c.in_ok-parts.parts ≡ saved =
    c.in_ok-parts.ensures saved is.sound is.range (c.deref.ensures.value ∙ words) in
    let same = c.are_same.ensures.1
    (c.deref-2.ensures.value ∙ c.in_ok-spelled.ensures.spelled ∙ ap spelling parts ∙ sym is.spelled) in
    let differ : c.are_same.result ≡ false = grind arith in
    absurd (true≢false (sym same ∙ differ))

pub returns-clause-saved : goal.returns-clause-saved
returns-clause-saved c =
    let equal : c.are_same.result ≡ true = grind arith in
    let same : c.args.bytes.now ≡ spelling (state_of c.in_ok-parts.parts) =
    sym (c.are_same.ensures.0 equal) ∙ c.deref-2.ensures.value ∙ c.in_ok-spelled.ensures.spelled in
    saved_of (state_of c.in_ok-parts.parts) c.args.bytes.now c.from_parts.result same c.in_ok-spelled.ensures.range
    c.from_parts.ensures.value c.from_parts.ensures.sound

pub returns-clause-all : goal.returns-clause-all
returns-clause-all c = λ saved is.
    let words = c.in_ok-words.ensures (words_of saved) (to_le_bytes w32 (checksum (bytes_of (words_of saved))))
    (small_words saved is.sound is.range) is.spelled (omega arith) in
    let parts : state_of c.in_ok-parts.parts ≡ saved =
    c.in_ok-parts.ensures saved is.sound is.range (c.deref.ensures.value ∙ words) in
    restored IsSoundChecker (state_of c.in_ok-parts.parts) saved c.from_parts.result parts is.sound
    c.from_parts.ensures.value c.from_parts.ensures.sound
