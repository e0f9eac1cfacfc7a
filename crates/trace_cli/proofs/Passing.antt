-- What a function's result is, by that of the one that it calls last.
use Rattle.std.proofs.Common.{Result, Ok, Err, IfOk}

-- Where a value has one property, it has another one.
pub if_ok : {A E : Type 0} (P Q : A → Type 0) (result : Result A E) → ((value : A) → P value → Q value) → IfOk result P
    → IfOk result Q
if_ok P Q (Ok value) turn is = turn value is
if_ok P Q (Err fault) turn is = tt
