-- The words of the options, and the words that conditions are read from.
use Rattle.std.proofs.Common.{◌≡◌, List, ℕ, refl}
use Rattle.std.specs.Borrow.{Bor}
use Rattle.trace_words.specs.declared.options.Options.{Options}
use Rattle.trace_words.specs.Options.{seen_texts}
use Rattle.trace_words.specs.Fitting.{asked_by}

pub asked_same : (options : Options) (whiles froms untils ats : List (Bor (List ℕ))) → whiles ≡ options.whiles.items
    → froms ≡ options.froms.items → untils ≡ options.untils.items → ats ≡ options.ats.items
    → asked_by options
    ≡ record { whiles = seen_texts whiles; froms = seen_texts froms; untils = seen_texts untils; ats = seen_texts ats }
asked_same options whiles froms untils ats same_whiles same_froms same_untils same_ats =
    rw (same_whiles, same_froms, same_untils, same_ats) refl
