-- What a caller lends, as a contract sees it: a number, or a run of numbers, as it was lent and as it is left.
use Rattle.std.specs.Prelude.{ℕ, cond, eqb}
use Rattle.std.specs.Borrow.{MutBor}
use denote.Triple.Both.{Both}

abbrev pub Lent : Type 0 → Type 0
Lent A = Both (MutBor A) (MutBor A)

abbrev pub lent : {A : Type 0} → Lent A → A
lent x = x.entry.now

abbrev pub left : {A : Type 0} → Lent A → A
left x = x.exit.now

-- what is written on acceptance alone: 0 is acceptance, and a refusal leaves what was there
unfoldable pub accepted : {A : Type 0} → ℕ → A → A → A
accepted number written before = cond (eqb number 0) written before

-- the same lent, and left otherwise: what another result of the same call is
abbrev pub leaving : {A : Type 0} → Lent A → MutBor A → Lent A
leaving x after = record { entry = x.entry; exit = after }
