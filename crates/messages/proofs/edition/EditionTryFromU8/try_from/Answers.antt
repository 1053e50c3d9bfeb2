-- `try_from` meets its promise.
use mathlib.Core.Path.{ap, sym}
use Prim.Native.Nat.{ℕ}
use native.Mathlib.Omega.{arith}
use Rattle.std.specs.Option.{ok_or}
use Rattle.std.specs.Prelude.{Option, Result}
use Rattle.messages.specs.Editions.{edition_named}
use Rattle.messages.specs.declared.edition.Edition.{Edition}
use Rattle.messages.specs.declared.refusal.Refusal.{Refusal}
use Rattle.messages.specs.declared.refusal.Refusal.TheVariants.{WrongShape}
use Rattle.messages.proofs.Editions.{named_none}
use Rattle.messages.proofs.edition.EditionTryFromU8.try_from.Goals as goal

or_wrong : Option Edition → Result Edition Refusal
or_wrong named = ok_or named WrongShape

pub returns-in-10 : goal.returns-in-10
unfolding edition_named or_wrong
returns-in-10 c = sym (ap (λ (n : ℕ). or_wrong (edition_named n)) c.in-10.is)

pub returns-in-20 : goal.returns-in-20
unfolding edition_named or_wrong
returns-in-20 c = sym (ap (λ (n : ℕ). or_wrong (edition_named n)) c.in-20.is)

pub returns-in-21 : goal.returns-in-21
unfolding edition_named or_wrong
returns-in-21 c = sym (ap (λ (n : ℕ). or_wrong (edition_named n)) c.in-21.is)

pub returns-in_default : goal.returns-in_default
unfolding or_wrong
returns-in_default c = ap or_wrong (named_none c.args.number (λ e. omega arith) (λ e. omega arith) (λ e. omega arith))
