-- An awaited answer, part by part: what it brings, and whether the candidate is published.
use mathlib.Core.Path.{◌≡◌, refl, ap, subst, sym, ◌∙◌}
use mathlib.Core.Bool.{Bool, true, false, cond, ◌&&◌, false≢true}
use mathlib.Core.List.{List, [], ◌∷◌, ◌++◌}
use Prim.Native.Nat.{ℕ, ◌*◌, ◌≤◌}
use native.Mathlib.Omega.{arith}
use lib.Dec.{leb, ltb, eqb}
use lib.ListN.{length, get_or, take, replicate, length-append}
use lib.Seq.{length-take-le}
use borrow.Author.Tests.{ne_eqb, eqb-false, leb-true}
use Rattle.laws.specs.Padded.{padded}
use Rattle.messages.specs.Layout.{Message}
use Rattle.messages.specs.Requests.{request_of}
use Rattle.messages.specs.declared.Head.{Head}
use Rattle.messages.specs.declared.edition.Edition.{Edition}
use Rattle.messages.specs.declared.request.Request.{Request}
use Rattle.pages.specs.Pages.{halves}
use Rattle.gathering.specs.Gathering.{hear_identity, six_halves}
use Rattle.answers.specs.Answers.{Marking, store_modes, hear_modes, hear_mode}
use Rattle.publishing.specs.Publishing.{is_whole, copied, with_laptop}
use Rattle.hearing.specs.Hearing.{Result as Heard, only, with_opening, step_if_whole, list_if_whole, run_if_whole, publishing, hear_answer}
use Rattle.hearing.specs.Parts.{brings_part, hear_part, completes}
use Rattle.laptop.specs.State.{Memory, memory, published}
use Rattle.laptop.specs.declared.Laptop.{Laptop}
use Rattle.laptop.specs.Step.{Step, stepped}
use Rattle.laptop.specs.declared.Refused.{Refused}
use Rattle.messages.proofs.Numbers.{number_above}
use Rattle.laptop.specs.declared.Candidate.TheVariants.{Absent}
use Rattle.gathering.proofs.Listing.{LeavesNone, identity_leaves, svids_leave}
use Rattle.std.specs.Prelude.{Err}

abbrev pub message_of : Head → ℕ → List ℕ → Message
message_of h count words = record { head = h; objects = take count words }

-- what six words say of the objects in them
pub first_object : (o : List ℕ) → get_or o 0 0 ≡ get_or (padded o) 0 0
first_object [] = refl
first_object (a ∷ o) = refl

six_halves_lem : (o : List ℕ) → length o ≤ 6 → halves o ≡ take (length o * 2) (six_halves (padded o))
unfolding halves
six_halves_lem [] h = refl
six_halves_lem (a ∷ []) h = refl
six_halves_lem (a ∷ b ∷ []) h = refl
six_halves_lem (a ∷ b ∷ c ∷ []) h = refl
six_halves_lem (a ∷ b ∷ c ∷ d ∷ []) h = refl
six_halves_lem (a ∷ b ∷ c ∷ d ∷ e ∷ []) h = refl
six_halves_lem (a ∷ b ∷ c ∷ d ∷ e ∷ f ∷ []) h = refl
six_halves_lem (a ∷ b ∷ c ∷ d ∷ e ∷ f ∷ g ∷ o) h = absurd (omega arith)

-- which command it is
part_known : (command : ℕ) → brings_part command ≡ true → (1 ≤ command) × (command ≤ 3)
part_known command e = go (leb 1 command) (leb command 3) refl refl e
  where
    go : (a b : Bool) → leb 1 command ≡ a → leb command 3 ≡ b → (a && b) ≡ true → (1 ≤ command) × (command ≤ 3)
    go true true ea eb n = (leb-true 1 command ea, leb-true command 3 eb)
    go true false ea eb n = absurd (false≢true n)
    go false b ea eb n = absurd (false≢true n)

part_other : (command : ℕ) → brings_part command ≡ false → (k : ℕ) → brings_part k ≡ true → command ≡ k → ⊥
part_other command e k part same = false≢true (sym e ∙ ap brings_part same ∙ part)

-- a part that is refused leaves no candidate, and so none that is whole
modes_leave : (l : Laptop) (kind : ℕ) (words modes run : List ℕ) → LeavesNone (hear_modes l kind words modes run).step
unfolding hear_modes store_modes
modes_leave l kind words modes run = go (eqb kind 3) (eqb kind 1) (ltb l.stored 72) refl refl refl
  where
    go : (t u v : Bool) → eqb kind 3 ≡ t → eqb kind 1 ≡ u → ltb l.stored 72 ≡ v → LeavesNone (hear_modes l kind words modes run).step
    go true u v a b n = rw a (λ r. absurd (r refl))
    go false true true a b n = rw (a, b, n) (λ r. absurd (r refl))
    go false true false a b n = rw (a, b, n) (λ r. refl)
    go false false v a b n = rw (a, b) (λ r. refl)

part_leaves : (l : Laptop) (m : Memory) (at : Edition) (command kind count : ℕ) (words : List ℕ) → LeavesNone (hear_part l m at command kind count words).step
part_leaves l m at command kind count words = go (eqb command 1) (eqb command 2) refl refl
  where
    go : (t u : Bool) → eqb command 1 ≡ t → eqb command 2 ≡ u → LeavesNone (hear_part l m at command kind count words).step
    go true u a b = rw a (identity_leaves l at kind count words m.svids m.identity)
    go false true a b = rw (a, b) (svids_leave l kind (take (count * 2) (six_halves words)) m.svids)
    go false false a b = rw (a, b) (modes_leave l kind (take count words) m.modes m.run)

none_whole : (l : Laptop) → l.candidate ≡ Absent → is_whole l ≡ false
unfolding is_whole
none_whole l e = rw e

pub part_refused : (l : Laptop) (m : Memory) (at : Edition) (command kind count : ℕ) (words : List ℕ) (r : Refused) (after : Memory) →
    only after (stepped (Err r)) ≡ hear_part l m at command kind count words → completes kind r.laptop ≡ false
part_refused l m at command kind count words r after e =
    let leaves : LeavesNone (stepped (Err r)) = subst LeavesNone (ap (λ (x : Heard). x.step) (sym e)) (part_leaves l m at command kind count words) in
    go (eqb kind 3) (none_whole r.laptop (leaves (λ z. omega (arith, number_above r.refusal, z))))
  where
    go : (t : Bool) → is_whole r.laptop ≡ false → cond t false (is_whole r.laptop) ≡ false
    go true w = refl
    go false w = w

-- a candidate that is not whole is kept, and so is every one with BUSY
kept : (kind : ℕ) (s : Step) (m : Memory) → completes kind s.laptop ≡ false → only m s ≡ publishing kind (only m s)
unfolding publishing step_if_whole list_if_whole run_if_whole
kept kind s m e = go (eqb kind 3) refl e
  where
    go : (t : Bool) → eqb kind 3 ≡ t → cond t false (is_whole s.laptop) ≡ false → only m s ≡ publishing kind (only m s)
    go true ek n = rw ek
    go false ek n = rw (ek, n)

-- Identity completes no candidate
identity_kept : (l : Laptop) (m : Memory) (at : Edition) (kind count : ℕ) (words : List ℕ) →
    with_opening m (hear_identity l at kind count words m.svids m.identity) ≡
    publishing kind (with_opening m (hear_identity l at kind count words m.svids m.identity))
unfolding hear_identity is_whole publishing step_if_whole list_if_whole run_if_whole
identity_kept l m at kind count words = go (eqb kind 1) (eqb kind 3) refl refl
  where
    go : (t u : Bool) → eqb kind 1 ≡ t → eqb kind 3 ≡ u →
        with_opening m (hear_identity l at kind count words m.svids m.identity) ≡
        publishing kind (with_opening m (hear_identity l at kind count words m.svids m.identity))
    go t true e b = rw b
    go true false e b = rw (e, b)
    go false false e b = rw (e, b)

-- the answer, and what it publishes
module _ (l : Laptop) (m : Memory) (at : Edition) (h : Head) (count : ℕ) (words : List ℕ) (few : count ≤ 6) (pads : padded (take count words) ≡ words) where
  size : length (take count words) ≡ count
  size =
      let o : List ℕ = take count words in
      let six : length (padded o) ≡ 6 = length-take-le 6 (o ++ replicate 6 0) (omega (arith, length-append o (replicate 6 0))) in
      length-take-le count words (omega (arith, ap length pads))

  pub answer_mode : brings_part h.command ≡ false → (q : Request) → q ≡ request_of h → (k : Marking) → k ≡ hear_mode l h.kind q m.held_svids m.entered →
      (step : Step) (entered : List ℕ) → step ≡ k.step → entered ≡ k.entered →
      only (memory m.svids m.modes m.identity m.run m.held_svids m.held_modes m.held_identity m.held_run entered) step ≡
      hear_answer l m at (message_of h count words)
  unfolding hear_answer
  answer_mode e q asked k heard step entered es ee =
      let other = part_other h.command e in
      rw (es, ee, heard, asked, ne_eqb _ _ (other 1 refl), ne_eqb _ _ (other 2 refl), ne_eqb _ _ (other 3 refl))

  published_part : brings_part h.command ≡ true → publishing h.kind (hear_part l m at h.command h.kind count words) ≡ hear_answer l m at (message_of h count words)
  unfolding hear_answer
  published_part e = go (eqb h.command 1) (eqb h.command 2) refl refl
    where
      go : (a b : Bool) → eqb h.command 1 ≡ a → eqb h.command 2 ≡ b →
          publishing h.kind (hear_part l m at h.command h.kind count words) ≡ hear_answer l m at (message_of h count words)
      go true b ea eb =
          rw (ea, size, pads) (sym (identity_kept l m at h.kind count words))
      go false true ea eb =
          let values : halves (take count words) ≡ take (count * 2) (six_halves words) = rw (six_halves_lem (take count words) (omega (arith, size)), size, pads) in
          rw (ea, eb, values)
      go false false ea eb =
          let known = part_known h.command e in
          let one : h.command ≡ 1 → ⊥ = eqb-false h.command 1 ea in
          let two : h.command ≡ 2 → ⊥ = eqb-false h.command 2 eb in
          let modes : h.command ≡ 3 = omega arith in
          rw (ea, eb, modes)

  -- what is gathered, where it completes nothing and where it is published
  module _ (part : brings_part h.command ≡ true) (step : Step) (after : Memory) (gathered : only after step ≡ hear_part l m at h.command h.kind count words) where
    pub answer_kept : completes h.kind step.laptop ≡ false → only after step ≡ hear_answer l m at (message_of h count words)
    answer_kept e = kept h.kind step after e ∙ ap (publishing h.kind) gathered ∙ published_part part

    pub answer_published : completes h.kind step.laptop ≡ true → (last : Step) (held_svids held_modes held_identity held_run : List ℕ) →
        (last ≡ with_laptop (published step.laptop) step) × (held_svids ≡ after.svids) × (held_modes ≡ after.modes) × (held_identity ≡ after.identity) ×
        (held_run ≡ copied (take step.laptop.gathered.count after.modes) after.run 0 after.held_run) →
        only (memory after.svids after.modes after.identity after.run held_svids held_modes held_identity held_run after.entered) last ≡
        hear_answer l m at (message_of h count words)
    unfolding publishing step_if_whole list_if_whole run_if_whole
    answer_published e last held_svids held_modes held_identity held_run done = replaced (eqb h.kind 3) refl e ∙ ap (publishing h.kind) gathered ∙ published_part part
      where
        replaced : (t : Bool) → eqb h.kind 3 ≡ t → cond t false (is_whole step.laptop) ≡ true →
            only (memory after.svids after.modes after.identity after.run held_svids held_modes held_identity held_run after.entered) last ≡
            publishing h.kind (only after step)
        replaced true ek n = absurd (false≢true n)
        replaced false ek n = rw (done.0, done.1, done.2, done.3, done.4, ek, n)
