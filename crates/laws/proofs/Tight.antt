-- A promise that is one equation allows one result.
use mathlib.Core.Path.{◌≡◌, sym, ◌∙◌}

pub one_value : {A : Type 0} {value result other : A} → result ≡ value → other ≡ value → result ≡ other
one_value e f = e ∙ sym f
