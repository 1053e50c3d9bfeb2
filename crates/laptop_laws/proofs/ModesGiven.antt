-- The numbers of enter and exit are given exactly when 01's lines say.
use mathlib.Core.Logic.{inl, inr}
use mathlib.Core.Path.{◌≡◌, refl, ap}
use mathlib.Core.Bool.{Bool, true, false, cond, ◌||◌, false≢true}
use mathlib.Core.List.{List, [], ◌∷◌, ◌++◌}
use Prim.Native.Nat.{ℕ, ◌<◌}
use native.Mathlib.Omega.{arith}
use lib.Dec.{ltb, eqb}
use lib.ListN.{length, get_or}
use Rattle.messages.specs.Requests.{enter_command, exit_command}
use Rattle.messages.specs.declared.request.Request.{Request}
use Rattle.laptop.specs.Calls.{step_of}
use Rattle.laptop.specs.Catalogue.{held_list}
use Rattle.laptop.specs.Marks.{place_of, is_entered}
use Rattle.laptop.specs.State.{Memory, awaiting}
use Rattle.owner.specs.Owner.{has_mode, is_absent, enter_refusal, decide_enter, exit_refusal, decide_exit}
use Rattle.laptop.specs.declared.Candidate.{Candidate}
use Rattle.laptop.specs.declared.Candidate.TheVariants.{Absent, Open, Done}
use Rattle.laptop.specs.declared.Laptop.{Laptop}
use Rattle.laptop_laws.specs.Given.{Line, ◌when◌, First, owner_lines, sending_lines, enter_lines, exit_lines}
use Rattle.laptop_laws.proofs.Bits.{Set}
use Rattle.laptop_laws.proofs.First.{Tells, tells_ltb}
use Rattle.laptop_laws.proofs.OwnerGiven.{owner_first, owner_numbered, sent_first, unless_first}
use Rattle.laptop_laws.proofs.Places.{At, place_at, there, OneOf, Allowed, AnyOf, tells_mode, tells_allowed, tells_one, tells_any_of}

-- in a list, with the modes and the entered sets at its places
module _ (list modes entered : List ℕ) (svid position : ℕ) where
  abbrev place : ℕ
  place = place_of svid list

  abbrev Marked : ℕ → Type 0
  Marked i = Set (get_or entered i 0) position

  abbrev enter_rest : List Line
  enter_rest = 12 when ((i : ℕ) × At list svid i × OneOf modes position i → ⊥) ∷ 13 when ((i : ℕ) × At list svid i × Marked i) ∷ []

  enter_first : First enter_rest (enter_refusal list modes entered svid position)
  unfolding enter_refusal
  enter_first =
      go (ltb place (length list)) (has_mode modes place position) (is_entered entered place position) (tells_ltb place (length list))
      (tells_mode modes entered position place) (tells_one modes entered position place)
    where
      go : (a b c : Bool) → Tells a (place < length list) → Tells b (OneOf modes position place) → (OneOf modes position place → Tells c (Marked place)) →
          First enter_rest (cond a (cond b (cond c 13 0) 12) 12)
      go false b c ha hb hc = inl (λ x. ha (there list svid (OneOf modes position) x).0, refl)
      go true false c ha hb hc = inl (λ x. hb (there list svid (OneOf modes position) x).1, refl)
      go true true c ha hb hc = inr (λ none. none (place, place_at svid list ha, hb), marked c (hc hb))
        where
          marked : (d : Bool) → Tells d (Marked place) → First (13 when ((i : ℕ) × At list svid i × Marked i) ∷ []) (cond d 13 0)
          marked true h = inl ((place, place_at svid list ha, h), refl)
          marked false h = inr (λ x. h (there list svid Marked x).1, refl)

  abbrev exit_rest : List Line
  exit_rest =
      12 when ((i : ℕ) × At list svid i × Allowed modes position i → ⊥) ∷ 13 when ((i : ℕ) × At list svid i × AnyOf entered position i → ⊥) ∷ []

  exit_first : First exit_rest (exit_refusal list modes entered svid position)
  unfolding exit_refusal
  exit_first =
      go (ltb place (length list)) (eqb position 7 || has_mode modes place position) (is_entered entered place position) (tells_ltb place (length list))
      (tells_allowed modes entered position place) (tells_any_of modes entered position place)
    where
      go : (a b c : Bool) → Tells a (place < length list) → Tells b (Allowed modes position place) →
          (Allowed modes position place → Tells c (AnyOf entered position place)) → First exit_rest (cond a (cond b (cond c 0 13) 12) 12)
      go false b c ha hb hc = inl (λ x. ha (there list svid (Allowed modes position) x).0, refl)
      go true false c ha hb hc = inl (λ x. hb (there list svid (Allowed modes position) x).1, refl)
      go true true c ha hb hc = inr (λ none. none (place, place_at svid list ha, hb), marked c (hc hb))
        where
          marked : (d : Bool) → Tells d (AnyOf entered position place) →
              First (13 when ((i : ℕ) × At list svid i × AnyOf entered position i → ⊥) ∷ []) (cond d 0 13)
          marked true h = inr (λ none. none (place, place_at svid list ha, h), refl)
          marked false h = inl (λ x. h (there list svid (AnyOf entered position) x).1, refl)

module _ (l : Laptop) (m : Memory) (out : List ℕ) (svid position : ℕ) where
  absent_first : (c : Candidate) → First (13 when (c ≡ Absent → ⊥) ∷ []) (cond (is_absent c) 0 13)
  absent_first Absent = inr (λ h. h refl, refl)
  absent_first Open = inl (λ e. false≢true (ap is_absent e), refl)
  absent_first Done = inl (λ e. false≢true (ap is_absent e), refl)

  abbrev held : List ℕ
  held = held_list l.held m.held_svids

  abbrev request : ℕ → Request
  request command = record { svid = svid; command = command; position = position }

  pub enter_given : First (owner_lines l m ++ enter_lines l m svid position ++ sending_lines (request enter_command) out)
      (step_of l (decide_enter l m.held_svids m.held_modes m.entered (length m.run) (length m.held_run) svid position) (length out)).refusal
  unfolding decide_enter
  enter_given =
      unless_first l out (owner_lines l m) (enter_lines l m svid position ++ sending_lines (request enter_command) out) _ _ (owner_numbered l m) (owner_first l m)
      (λ a.
      unless_first l out (13 when (l.candidate ≡ Absent → ⊥) ∷ [])
      (enter_rest held m.held_modes m.entered svid position ++ sending_lines (request enter_command) out) _ _ (omega arith)
      (absent_first l.candidate)
      (λ b.
      unless_first l out (enter_rest held m.held_modes m.entered svid position) (sending_lines (request enter_command) out) _ _ (omega arith)
      (enter_first held m.held_modes m.entered svid position) (λ c. sent_first l out (request enter_command) (awaiting (request enter_command) l))))

  pub exit_given : First (owner_lines l m ++ exit_lines l m svid position ++ sending_lines (request exit_command) out)
      (step_of l (decide_exit l m.held_svids m.held_modes m.entered (length m.run) (length m.held_run) svid position) (length out)).refusal
  unfolding decide_exit
  exit_given =
      unless_first l out (owner_lines l m) (exit_lines l m svid position ++ sending_lines (request exit_command) out) _ _ (owner_numbered l m) (owner_first l m)
      (λ a.
      unless_first l out (exit_rest held m.held_modes m.entered svid position) (sending_lines (request exit_command) out) _ _ (omega arith)
      (exit_first held m.held_modes m.entered svid position) (λ c. sent_first l out (request exit_command) (awaiting (request exit_command) l)))
