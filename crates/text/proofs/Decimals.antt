-- Lemmas on the digits of a number, put down from the last to the first.
use Rattle.std.proofs.Common.{◌≡◌, ℕ, ◌+◌, ◌-◌, ◌/◌, ◌%◌, ◌^◌, ◌<◌, ◌≤◌, List, [], ◌∷◌, ◌++◌, length, drop, slice_set, ap, sym, ◌∙◌, arith, append_assoc, length-append}
use Rattle.std.specs.Fmt.{decimal}
use Rattle.std.proofs.lemmas.Fmt.{decimal_step}
use Rattle.std.proofs.lemmas.List.{drop-set}

-- of a number with several digits one more than of a tenth of it
pub length_step : (n : ℕ) → 10 ≤ n → n < 2 ^ 64 → length (decimal n) ≡ length (decimal (n / 10)) + 1
length_step n long fits = ap length (decimal_step n long fits) ∙ length-append (decimal (n / 10)) ((48 + n % 10) ∷ [])

-- what is put right before the items behind a place
pub drop_put : (digits : List ℕ) (at digit : ℕ) → 1 ≤ at → at ≤ length digits → drop (at - 1) (slice_set digits (at - 1) digit) ≡ digit ∷ drop at digits
drop_put digits at digit some within =
    let behind : at - 1 + 1 ≡ at = omega arith in
    drop-set digits (at - 1) digit (omega arith) ∙ ap (λ place. digit ∷ drop place digits) behind

-- the last digit of a number goes before those that stand behind it
pub one_more : (n : ℕ) (after : List ℕ) → 10 ≤ n → n < 2 ^ 64 → decimal (n / 10) ++ (48 + n % 10) ∷ after ≡ decimal n ++ after
one_more n after long fits =
    sym (ap (λ digits. digits ++ after) (decimal_step n long fits) ∙ append_assoc (decimal (n / 10)) ((48 + n % 10) ∷ []) after)
