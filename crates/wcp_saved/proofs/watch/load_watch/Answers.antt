use Rattle.std.proofs.Common.{◌≡◌, ◌∙◌, sym, ap, arith, true, false}
use Rattle.std.proofs.lemmas.Bool.{true≢false}
use Rattle.std.specs.Int.{w32, to_le_bytes}
use Rattle.wcp_saved.specs.Spelling.{bytes_of, checksum}
use Rattle.wcp_saved.specs.Watches.{watch_of, watch_spelling, watch_words}
use Rattle.wcp_saved.proofs.SmallWatch.{small_watch}
use Rattle.wcp_saved.proofs.watch.load_watch.Goals as goal

pub returns-then-not-is_sealed-clause-all : goal.returns-then-not-is_sealed-clause-all
returns-then-not-is_sealed-clause-all c = λ saved sound range e.
    let told : c.is_sealed.result ≡ true = c.is_sealed.ensures (bytes_of (watch_words saved)) e in
    let not : c.is_sealed.result ≡ false = grind arith in
    absurd (true≢false (sym told ∙ not))

pub returns-then-not-are_same-clause-all : goal.returns-then-not-are_same-clause-all
returns-then-not-are_same-clause-all c = λ saved sound range e.
    let words = c.in_ok-words.ensures (watch_words saved) (to_le_bytes w32 (checksum (bytes_of (watch_words saved))))
    (small_watch saved sound range) e (omega arith) in
    let parts : watch_of c.in_ok-parts.parts ≡ saved =
    c.in_ok-parts.ensures saved sound range (c.deref.ensures.value ∙ words) in
    let same = c.are_same.ensures.1
    (c.deref-2.ensures.value ∙ c.in_ok-spelled.ensures.spelled ∙ ap watch_spelling parts ∙ sym e) in
    let differ : c.are_same.result ≡ false = grind arith in
    absurd (true≢false (sym same ∙ differ))

pub returns-clause-spelled : goal.returns-clause-spelled
returns-clause-spelled c =
    let equal : c.are_same.result ≡ true = grind arith in
    sym (c.are_same.ensures.0 equal) ∙ c.deref-2.ensures.value ∙ c.in_ok-spelled.ensures.spelled

pub returns-clause-same : goal.returns-clause-same
returns-clause-same c = λ saved sound range e.
    let words = c.in_ok-words.ensures (watch_words saved) (to_le_bytes w32 (checksum (bytes_of (watch_words saved))))
    (small_watch saved sound range) e (omega arith) in
    c.in_ok-parts.ensures saved sound range (c.deref.ensures.value ∙ words)
