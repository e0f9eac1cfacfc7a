use Rattle.std.specs.Prelude.{ℕ}

-- Each link and each inbox has room for 8 items where the text doesn't say.
abbrev pub plain_cap : ℕ
plain_cap = 8

-- The hold of each relay has room for 4 items where the text doesn't say.
abbrev pub plain_hold : ℕ
plain_hold = 4
