-- Messages on the link are bytes: what one end hands over, the other reads.
use mathlib.Core.Logic.{◌⊎◌, inl, inr}
use mathlib.Core.Path.{◌≡◌, refl, ap, sym, ◌∙◌}
use mathlib.Core.Bool.{Bool, true, false}
use mathlib.Core.List.{List, ◌++◌}
use Prim.Native.Nat.{ℕ, ◌+◌, ◌^◌, ◌<◌, ◌≤◌}
use native.Mathlib.Omega.{arith}
use lib.Dec.{leb, ltb, eqb}
use lib.ListN.{length, take, drop, replicate}
use lib.Seq.{take-append_seam}
use borrow.Author.Tests.{eqb-true, leb-true, ltb-true, lt-ltb}
use Rattle.laws.specs.Bounded.{Below}
use Rattle.laws.specs.Rows.{every}
use Rattle.laws.proofs.Lines.{and_left, and_right, hold_at}
use Rattle.laws.proofs.Rows.{at_row}
use Rattle.messages.specs.Layout.{Message, message_bytes, message_length}
use Rattle.messages.specs.Reading.{accepted, read_outcome}
use Rattle.messages.specs.Table.{row_of, fit_lines, fits, shape}
use Rattle.messages.specs.Writing.{well_shaped, write_refusal, written}
use Rattle.messages.specs.declared.Head.{Head}
use Rattle.messages.specs.declared.edition.Edition.{Edition}
use Rattle.messages.proofs.Laws.{write_accepted}
use Rattle.messages.proofs.RoundTrip.{read_bytes}
use Rattle.messages.proofs.Stores.{length_message}
use Rattle.dock.specs.Dock.{sends, step_of, buffer_of}
use Rattle.dock.specs.declared.Dock.{Dock}
use Rattle.laptop.specs.Calls.{is_awaiting}
use Rattle.laptop.specs.Calls.{sends as laptop_sends}
use Rattle.laptop.specs.Calls.{step_of as laptop_step_of}
use Rattle.laptop.specs.Calls.{buffer_of as laptop_buffer_of}
use Rattle.laptop.specs.State.{Memory}
use Rattle.laptop.specs.declared.Laptop.{Laptop}
use Rattle.laptop_laws.specs.Effects.{decided}
use Rattle.link.specs.Joined.{Way, request, Fate, coming}
use Rattle.link.specs.Link.{way_after, handed_over}

-- a good shape has an SVID of 16 bits, by each row of the table
highest_fits : every {A = ℕ} (λ command _. leb (row_of command).highest 0xFFFF) 0 (replicate 32 0) ≡ true
unfolding row_of
highest_fits = refl

shape_svid : (h : Head) (count : ℕ) → shape h count ≡ true → h.svid < 2 ^ 16
unfolding shape fits
shape_svid h count good =
    let command : h.command < 32 = ltb-true _ _ (and_left (ltb h.command 32) _ good) in
    let row : (row_of h.command).highest ≤ 0xFFFF =
    leb-true _ _ (at_row {A = ℕ} (λ n _. leb (row_of n).highest 0xFFFF) 0 (replicate 32 0) highest_fits h.command command) in
    let line : h.svid ≤ (row_of h.command).highest =
    leb-true _ _
    (hold_at (fit_lines (row_of h.command) h count) (and_right (ltb h.kind 4) _ (and_right (ltb h.command 32) _ good)) 5) in
    omega arith

-- a message that was written is read as it was
pub reads : (e : Edition) (m : Message) → well_shaped m ≡ true → Below (2 ^ 32) m.objects → read_outcome (message_bytes e m) ≡ accepted e m
unfolding well_shaped
reads e m good fit =
    read_bytes e m (record { svid_fits = shape_svid m.head (length m.objects + 1) good; objects_fit = fit }) good

pub some_bytes : (m : Message) → ltb 0 (message_length m) ≡ true
some_bytes m = lt-ltb 0 (message_length m) (omega arith)

module _ (m : Message) (out : List ℕ) (e : eqb (write_refusal m (length out)) 0 ≡ true) where
  bytes_out : (at : Edition) → take (message_length m) (written at m out) ≡ message_bytes at m
  unfolding written
  bytes_out at =
      rw e
      (ap (λ (n : ℕ). take n (message_bytes at m ++ drop (message_length m) out)) (sym (length_message at m)) ∙
      take-append_seam (message_bytes at m) (drop (message_length m) out))

  shaped_out : well_shaped m ≡ true
  shaped_out = ((write_accepted m (length out)).0 (eqb-true (write_refusal m (length out)) 0 e)).0

-- the dock hands a message over, or refuses and is as it was
module _ (d after : Dock) (m : Message) (out : List ℕ) (fate : Fate) where
  abbrev pub HandsOver : Type 0
  HandsOver =
      ((handed_over d (sends m after) out fate ≡ coming (message_bytes after.edition m)) × ((step_of d (sends m after) (length out)).dock ≡ after) ×
      (well_shaped m ≡ true)) ⊎
      ((handed_over d (sends m after) out fate ≡ fate) × ((step_of d (sends m after) (length out)).dock ≡ d))

  -- where it can be written it goes out
  pub handed_over_lem : eqb (write_refusal m (length out)) 0 ≡ true →
      (handed_over d (sends m after) out fate ≡ coming (message_bytes after.edition m)) × ((step_of d (sends m after) (length out)).dock ≡ after)
  unfolding handed_over step_of buffer_of
  handed_over_lem e = (rw (e, some_bytes m) (ap coming (bytes_out m out e after.edition)), rw e)

  pub hands_over : HandsOver
  unfolding handed_over step_of buffer_of
  hands_over = go (eqb (write_refusal m (length out)) 0) refl
    where
      go : (t : Bool) → eqb (write_refusal m (length out)) 0 ≡ t → HandsOver
      go true e = inl ((handed_over_lem e).0, (handed_over_lem e).1, shaped_out m out e)
      go false e = inr (rw e, rw e)

-- the laptop sends a request, or refuses and is as it was
module _ (l after : Laptop) (memory : Memory) (m : Message) (out : List ℕ) (way : Way) (awaits : is_awaiting after.wait ≡ true) where
  abbrev pub SendsOut : Type 0
  SendsOut =
      (((laptop_step_of l (laptop_sends m after) (length out)).laptop ≡ after) ×
      (way_after (decided l memory out (laptop_sends m after)) way ≡ request (message_bytes after.edition m)) × (well_shaped m ≡ true)) ⊎
      (((laptop_step_of l (laptop_sends m after) (length out)).laptop ≡ l) × ((laptop_step_of l (laptop_sends m after) (length out)).length ≡ 0))

  -- where it can be written it goes out
  pub sent_out : eqb (write_refusal m (length out)) 0 ≡ true →
      ((laptop_step_of l (laptop_sends m after) (length out)).laptop ≡ after) ×
      (way_after (decided l memory out (laptop_sends m after)) way ≡ request (message_bytes after.edition m))
  unfolding laptop_step_of laptop_buffer_of way_after
  sent_out e = (rw e, rw (e, awaits, some_bytes m) (ap request (bytes_out m out e after.edition)))

  pub sends_out : SendsOut
  unfolding laptop_step_of laptop_buffer_of way_after
  sends_out = go (eqb (write_refusal m (length out)) 0) refl
    where
      go : (t : Bool) → eqb (write_refusal m (length out)) 0 ≡ t → SendsOut
      go true e = inl ((sent_out e).0, (sent_out e).1, shaped_out m out e)
      go false e = inr (rw e, rw e)
