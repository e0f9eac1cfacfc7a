-- What it takes that no question found a fault.
use Rattle.wcp_script.proofs.Words.{◌≡◌, ℕ, Bool, true, Result, Ok, arith, FaultKind, ◌>>=◌, ask, at_line}

pub bind_ok : {A B E : Type 0} (r : Result A E) (f : A → Result B E) (y : B) → (r >>= f) ≡ Ok y
    → (x : A) × (r ≡ Ok x) × (f x ≡ Ok y)
bind_ok r f y e = grind arith

abbrev done : {A E : Type 0} → A → Result A E
done x = Ok x

pub ok_is : {A E : Type 0} (x y : A) → done {E = E} x ≡ done y → x ≡ y
ok_is x y e = cc

pub at_line_ok : {A : Type 0} (line : ℕ) (r : Result A FaultKind) (y : A) → at_line line r ≡ Ok y → r ≡ Ok y
at_line_ok line r y e = grind arith

pub ask_ok : (holds : Bool) (what : FaultKind) (y : Unit {0}) → ask holds what ≡ Ok y → holds ≡ true
ask_ok holds what y e = grind arith
