-- The table's rule, carried from one computed test to each row, and what it says of a good shape.
use mathlib.Core.Path.{◌≡◌, refl, sym, ◌∙◌}
use mathlib.Core.Bool.{Bool, true, false, cond, not, ◌&&◌, ◌||◌, false≢true}
use mathlib.Core.List.{[], ◌∷◌}
use Prim.Native.Nat.{ℕ, zero, suc, ◌/◌, ◌%◌, ◌<◌, ◌≤◌}
use native.Mathlib.Omega.{arith}
use lib.Dec.{leb, ltb, eqb}
use lib.ListN.{get_or, replicate, get_or-eq_default}
use borrow.Author.Tests.{ltb-true, ltb-false, leb-true}
use Rattle.laws.specs.Rows.{every}
use Rattle.laws.proofs.Rows.{at_row}
use Rattle.laws.proofs.Lines.{and_left, and_right, or_right, hold_at}
use Rattle.messages.specs.Table.{row_of, counts_of, fit_lines, fits, shape, one_to_five, allowed, first_head}
use Rattle.messages.specs.declared.Head.{Head}
use Rattle.messages.specs.declared.table.Row.{Row}

-- what a row keeps for a type: a pair that is not allowed has no count of objects, a NAK or a BUSY has 1 and no message more than 7
abbrev type_rule : ℕ → Row → ℕ → Bool
type_rule command r kind =
    leb 1 (counts_of r kind / 16) &&
    leb (counts_of r kind % 16) (cond (allowed command kind) (get_or (7 ∷ 7 ∷ 1 ∷ 1 ∷ []) kind 0) 0)

-- the one test, over the 32 commands and their four types: each row keeps the rule, and an allowed pair has a message
abbrev test : ℕ → ℕ → Bool
test command kind =
    type_rule command (row_of command) kind && (leb (row_of command).last 7 &&
    (not (allowed command kind) || shape (first_head command kind) (counts_of (row_of command) kind / 16)))

abbrev command_test : ℕ → ℕ → Bool
command_test command _ = every {A = ℕ} (λ kind _. test command kind) 0 (replicate 4 0)

commands_test : every {A = ℕ} command_test 0 (replicate 32 0) ≡ true
unfolding shape fits row_of counts_of
commands_test = refl

module _ (command kind : ℕ) (c : command < 32) (k : kind < 4) where
  tested : test command kind ≡ true
  tested =
      at_row {A = ℕ} (λ n _. test command n) 0 (replicate 4 0)
      (at_row {A = ℕ} command_test 0 (replicate 32 0) commands_test command c) kind k

  rule : type_rule command (row_of command) kind ≡ true
  rule = and_left (type_rule command (row_of command) kind) _ tested

  row_least : 1 ≤ counts_of (row_of command) kind / 16
  row_least = leb-true _ _ (and_left (leb 1 (counts_of (row_of command) kind / 16)) _ rule)

  row_most : counts_of (row_of command) kind % 16 ≤ cond (allowed command kind) (get_or (7 ∷ 7 ∷ 1 ∷ 1 ∷ []) kind 0) 0
  row_most = leb-true _ _ (and_right (leb 1 (counts_of (row_of command) kind / 16)) _ rule)

  row_last : (row_of command).last ≤ 7
  row_last =
      leb-true _ _
      (and_left (leb (row_of command).last 7) _ (and_right (type_rule command (row_of command) kind) _ tested))

  occurs : allowed command kind ≡ true → shape (first_head command kind) (counts_of (row_of command) kind / 16) ≡ true
  occurs =
      or_right (allowed command kind) _
      (and_right (leb (row_of command).last 7) _ (and_right (type_rule command (row_of command) kind) _ tested))

-- no message has more objects
most_seven : (t : Bool) (kind : ℕ) → cond t (get_or (7 ∷ 7 ∷ 1 ∷ 1 ∷ []) kind 0) 0 ≤ cond t 7 0
most_seven true zero = omega arith
most_seven true (suc zero) = omega arith
most_seven true (suc (suc zero)) = omega arith
most_seven true (suc (suc (suc zero))) = omega arith
most_seven true (suc (suc (suc (suc kind)))) = omega arith
most_seven false kind = omega arith

-- what a good shape says
module _ (h : Head) (count : ℕ) (good : shape h count ≡ true) where
  pub shape_command : h.command < 32
  unfolding shape
  shape_command = ltb-true _ _ (and_left (ltb h.command 32) _ good)

  pub shape_kind : h.kind < 4
  unfolding shape
  shape_kind = ltb-true _ _ (and_left (ltb h.kind 4) _ (and_right (ltb h.command 32) _ good))

  line : (k : ℕ) → get_or (fit_lines (row_of h.command) h count) k true ≡ true
  unfolding shape fits
  line k =
      hold_at (fit_lines (row_of h.command) h count)
      (and_right (ltb h.kind 4) _ (and_right (ltb h.command 32) _ good)) k

  pub shape_least : counts_of (row_of h.command) h.kind / 16 ≤ count
  shape_least = leb-true _ _ (line 0)

  shape_most : count ≤ counts_of (row_of h.command) h.kind % 16
  shape_most = leb-true _ _ (line 1)

  shape_last : h.position ≤ (row_of h.command).last
  shape_last = leb-true _ _ (line 3)

  pub shape_position : h.position < 8
  shape_position = omega (arith, shape_last, row_last h.command h.kind shape_command shape_kind)

  shape_some : 1 ≤ count
  shape_some = omega (arith, shape_least, row_least h.command h.kind shape_command shape_kind)

  shape_most_seven : count ≤ cond (allowed h.command h.kind) 7 0
  shape_most_seven =
      omega
      (arith, shape_most, row_most h.command h.kind shape_command shape_kind, most_seven (allowed h.command h.kind) h.kind)

  pub shape_allowed : allowed h.command h.kind ≡ true
  shape_allowed = go (allowed h.command h.kind) shape_most_seven
    where
      go : (t : Bool) → count ≤ cond t 7 0 → t ≡ true
      go true m = refl
      go false m = absurd (omega (arith, shape_some))

  pub shape_count : (1 ≤ count) × (count ≤ 7)
  shape_count = (shape_some, rw shape_allowed at shape_most_seven)

-- each pair that is allowed has a message
pub pair_has : (command kind : ℕ) → allowed command kind ≡ true → shape (first_head command kind) (counts_of (row_of command) kind / 16) ≡ true
pair_has command kind e = go (ltb kind 4) refl
  where
    go : (t : Bool) → ltb kind 4 ≡ t → shape (first_head command kind) (counts_of (row_of command) kind / 16) ≡ true
    go true f = occurs command kind (ltb-true command 32 (and_left (ltb command 32) _ e)) (ltb-true kind 4 f) e
    go false f =
        absurd
        (false≢true
        (sym
        (get_or-eq_default (true ∷ one_to_five command ∷ not (eqb command 6) ∷ one_to_five command ∷ []) false (ltb-false kind 4 f)) ∙
        and_right (ltb command 32) _ e))
