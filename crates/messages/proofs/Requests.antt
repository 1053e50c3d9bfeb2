-- Two requests held against each other.
use mathlib.Core.Path.{◌≡◌}
use mathlib.Core.Bool.{true, false}
use lib.Dec.{eqb}
use borrow.Author.Tests.{eq-eqb, ne_eqb, eqb-true}
use Rattle.laws.proofs.Lines.{and_left, and_right}
use Rattle.messages.specs.Requests.{same_request}
use Rattle.messages.specs.declared.request.Request.{Request}

module _ (a b : Request) where
  pub same_svid : (a.svid ≡ b.svid → ⊥) → false ≡ same_request a b
  same_svid h = simp (ne_eqb _ _ h)

  pub same_command : a.svid ≡ b.svid → (a.command ≡ b.command → ⊥) → false ≡ same_request a b
  same_command s h = simp (eq-eqb _ _ s, ne_eqb _ _ h)

  pub same_position : a.svid ≡ b.svid → a.command ≡ b.command → eqb a.position b.position ≡ same_request a b
  same_position s c = simp (eq-eqb _ _ s, eq-eqb _ _ c)

  -- told the same, they are
  pub same_is : same_request a b ≡ true → a ≡ b
  same_is e =
      let rest = and_right (eqb a.svid b.svid) _ e in
      let one : a.svid ≡ b.svid = eqb-true _ _ (and_left (eqb a.svid b.svid) _ e) in
      let two : a.command ≡ b.command = eqb-true _ _ (and_left (eqb a.command b.command) _ rest) in
      let three : a.position ≡ b.position = eqb-true _ _ (and_right (eqb a.command b.command) _ rest) in
      λ i. record { svid = one i; command = two i; position = three i }
