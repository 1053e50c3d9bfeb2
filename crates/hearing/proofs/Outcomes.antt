-- A message by what reading says of it: the ways out of the call.
use mathlib.Core.Path.{◌≡◌, ap, ap₂, sym, ◌∙◌}
use mathlib.Core.Bool.{true, false}
use mathlib.Core.List.{List}
use Prim.Native.Nat.{ℕ, ◌≤◌}
use native.Mathlib.Omega.{arith}
use lib.ListN.{length, get_or, take}
use borrow.Author.Tests.{ne_eqb}
use Rattle.laws.specs.Padded.{padded}
use Rattle.laws.proofs.Padded.{take_padded}
use Rattle.messages.specs.Layout.{Message}
use Rattle.messages.specs.Reading.{Outcome, accepted, refused, read_outcome, shown}
use Rattle.messages.specs.Reading.{ReadAsMessage, Reading}
use Rattle.messages.specs.declared.Head.{Head}
use Rattle.messages.specs.declared.edition.Edition.{Edition}
use Rattle.messages.proofs.Laws.{shown_message, read_count}
use Rattle.hearing.specs.Hearing.{Result, only, hear_request, fits, hear_unawaited, hear_answer, hear, heard}
use Rattle.hearing.proofs.Parts.{message_of, first_object}
use Rattle.laptop.specs.Calls.{refused_by, short_runs}
use Rattle.laptop.specs.State.{Memory}
use Rattle.laptop.specs.declared.Laptop.{Laptop}

-- what was read, as the code takes it apart: the edition, the head, the number of objects and six words
module _ (bytes : List ℕ) (r : Reading) (at : Edition) (h : Head) (count : ℕ) (shows : r ≡ shown (read_outcome bytes)) (is : r.outcome ≡ ReadAsMessage at h count) where
  pub count_few : count ≤ 6
  count_few =
      let a = shown_message (read_outcome bytes) r at h count shows is in omega (arith, read_count bytes at a.0 a.1, a.3)

  objects_read : (x : Message) → read_outcome bytes ≡ accepted at x → length x.objects ≡ count → padded x.objects ≡ r.objects →
      x.objects ≡ take count r.objects
  objects_read x is size pads = sym (take_padded x.objects (read_count bytes at x is)) ∙ ap₂ (λ (n : ℕ) (o : List ℕ). take n o) size pads

  pub words_padded : padded (take count r.objects) ≡ r.objects
  words_padded =
      let a = shown_message (read_outcome bytes) r at h count shows is in
      ap padded (sym (objects_read a.0 a.1 a.3 a.4)) ∙ a.4

  size_read : length (take count r.objects) ≡ count
  size_read =
      let a = shown_message (read_outcome bytes) r at h count shows is in
      ap length (sym (objects_read a.0 a.1 a.3 a.4)) ∙ a.3

  is_read : read_outcome bytes ≡ accepted at (message_of h count r.objects)
  is_read =
      let a = shown_message (read_outcome bytes) r at h count shows is in
      a.1 ∙ ap₂ (λ (x : Head) (o : List ℕ). accepted at (record { head = x; objects = o })) a.2 (objects_read a.0 a.1 a.3 a.4)

module _ (l : Laptop) (m : Memory) where
  pub heard_short : (o : Outcome) → short_runs (length m.run) (length m.held_run) ≡ true → heard l m o ≡ only m (refused_by 11 l)
  unfolding heard
  heard_short o e = rw e

  module _ (long : short_runs (length m.run) (length m.held_run) ≡ false) where
    heard_long : (o p : Outcome) → o ≡ p → heard l m o ≡ hear l m p
    unfolding heard
    heard_long o p e = rw long (ap (hear l m) e)

    pub heard_refused : (o : Outcome) (number : ℕ) → o ≡ refused number → heard l m o ≡ only m (refused_by number l)
    unfolding hear
    heard_refused o number e = heard_long o (refused number) e

    -- a message, as the code takes it apart
    module _ (bytes : List ℕ) (r : Reading) (at : Edition) (h : Head) (count : ℕ) (shows : r ≡ shown (read_outcome bytes)) (is : r.outcome ≡ ReadAsMessage at h count) where
      heard_read : heard l m (read_outcome bytes) ≡ hear l m (accepted at (message_of h count r.objects))
      heard_read = heard_long (read_outcome bytes) (accepted at (message_of h count r.objects)) (is_read bytes r at h count shows is)

      requested : h.kind ≡ 0 →
          hear l m (accepted at (message_of h count r.objects)) ≡
          only m (hear_request l h (length (take count r.objects)) (get_or (take count r.objects) 0 0))
      unfolding hear
      requested e = rw e

      pub heard_request : h.kind ≡ 0 → heard l m (read_outcome bytes) ≡ only m (hear_request l h count (get_or r.objects 0 0))
      heard_request e =
          let first : get_or (take count r.objects) 0 0 ≡ get_or r.objects 0 0 =
          first_object (take count r.objects) ∙ ap (λ (o : List ℕ). get_or o 0 0) (words_padded bytes r at h count shows is) in
          heard_read ∙ requested e ∙ ap₂ (λ (n k : ℕ). only m (hear_request l h n k)) (size_read bytes r at h count shows is) first

      module _ (answer : h.kind ≡ 0 → ⊥) where
        pub heard_unawaited : fits l.wait h ≡ false → heard l m (read_outcome bytes) ≡ only m (hear_unawaited l h)
        unfolding hear
        heard_unawaited e = heard_read ∙ rw (ne_eqb _ _ answer, e)

        pub heard_answer : fits l.wait h ≡ true → heard l m (read_outcome bytes) ≡ hear_answer l m at (message_of h count r.objects)
        unfolding hear
        heard_answer e = heard_read ∙ rw (ne_eqb _ _ answer, e)

-- the call's answer and what is lent, of a result
pub results : (r s : Result) → r ≡ s → (s.step ≡ r.step) × (s.after ≡ r.after)
results r s e = (ap (λ (x : Result). x.step) (sym e), ap (λ (x : Result). x.after) (sym e))
