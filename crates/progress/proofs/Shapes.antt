-- The requests of a gathering and the dock's answers to them have good shapes, so that a buffer of 28 bytes has room for each.
use mathlib.Core.Path.{◌≡◌, refl}
use mathlib.Core.Bool.{true}
use mathlib.Core.List.{List}
use Prim.Native.Nat.{ℕ, ◌+◌, ◌^◌, ◌<◌, ◌≤◌}
use native.Mathlib.Omega.{arith}
use lib.Dec.{leb, eqb}
use lib.ListN.{length, get_or, take}
use lib.Seq.{length-take-le}
use borrow.Author.Tests.{eq-eqb, le-leb, le-ltb, leb-true}
use Rattle.laws.proofs.Lines.{and_left, and_right}
use Rattle.messages.specs.Layout.{Message, message_length}
use Rattle.messages.specs.Requests.{svids_command, modes_command}
use Rattle.messages.specs.Table.{pd_sid, row_of, counts_of, fits, shape}
use Rattle.messages.specs.Writing.{well_shaped, write_refusal}
use Rattle.messages.proofs.Laws.{write_accepted}
use Rattle.messages.proofs.Rule.{shape_count}
use Rattle.pages.proofs.Laws.{page_size}
use Rattle.pages.proofs.Scanning.{sound_no_zero}
use Rattle.dock.specs.Data.{listed, good_identity}
use Rattle.dock.specs.declared.Dock.{Dock}
use Rattle.dock.proofs.Laws.{page_shape}
use Rattle.owner.specs.Owner.{discover, request_message}
use Rattle.link.specs.Demand.{Meets}
use Rattle.link.specs.Exchanges.{HasAll}
use Rattle.link.specs.Needed.{identity_answer, page_answer, empty_answer, modes_answer}

-- a message of good shape has at most 28 bytes, and can be written into so many
pub has_room : (m : Message) (out : List ℕ) → well_shaped m ≡ true → 28 ≤ length out → eqb (write_refusal m (length out)) 0 ≡ true
unfolding well_shaped
has_room m out good room =
    eq-eqb (write_refusal m (length out)) 0
    ((write_accepted m (length out)).1
    (good, le-ltb (length out) (message_length m) (omega (arith, (shape_count m.head (length m.objects + 1) good).1))))

-- the requests
pub svids_request_shaped : well_shaped (request_message (discover pd_sid svids_command)) ≡ true
unfolding well_shaped shape fits row_of counts_of
svids_request_shaped = refl

module _ (svid : ℕ) (some : 1 ≤ svid) (fit : svid < 2 ^ 16) where
  pub modes_request_shaped : well_shaped (request_message (discover svid modes_command)) ≡ true
  unfolding well_shaped shape fits row_of counts_of
  modes_request_shaped = rw (le-leb 1 svid some, le-leb svid 0xFFFF (omega arith))

  modes_shaped : (modes_of : ℕ → List ℕ) → 1 ≤ length (modes_of svid) → length (modes_of svid) ≤ 6 → well_shaped (modes_answer modes_of svid) ≡ true
  unfolding well_shaped shape fits row_of counts_of
  modes_shaped modes_of least most =
      rw (le-leb 1 svid some, le-leb svid 0xFFFF (omega arith), le-leb 2 (length (modes_of svid) + 1) (omega arith), le-leb (length (modes_of svid) + 1) 7 (omega arith))

-- the answers
pub empty_answer_shaped : well_shaped empty_answer ≡ true
unfolding well_shaped shape fits row_of counts_of
empty_answer_shaped = refl

pub page_answer_shaped : (list : List ℕ) (p : ℕ) → well_shaped (page_answer list p) ≡ true
page_answer_shaped list p = page_shape _ (page_size list p).0 (page_size list p).1

-- no listed SVID is 0
pub some_svid : (modes_of : ℕ → List ℕ) (d : Dock) → Meets modes_of d → (i : ℕ) → i < length (listed d) → 1 ≤ get_or (listed d) i 0
some_svid modes_of d meets i h = above (get_or (listed d) i 0) (λ e. sound_no_zero (listed d) meets.sound.list_sound i h e)
  where
    above : (n : ℕ) → (n ≡ 0 → ⊥) → 1 ≤ n
    above n f = omega arith

module _ (modes_of : ℕ → List ℕ) (d : Dock) (meets : Meets modes_of d) (all : HasAll modes_of d) where
  identity_size : (3 ≤ length (take d.extent d.identity)) × (length (take d.extent d.identity) ≤ 6)
  unfolding good_identity
  identity_size =
      let least : 3 ≤ d.extent = leb-true 3 d.extent (and_left (leb 3 d.extent) _ all.identity_good) in
      let most : d.extent ≤ 6 = leb-true d.extent 6 (and_right (leb 3 d.extent) _ all.identity_good) in
      let size = length-take-le d.extent d.identity (omega (arith, all.identity_there)) in
      (omega (arith, size), omega (arith, size))

  pub identity_answer_shaped : well_shaped (identity_answer d) ≡ true
  unfolding well_shaped shape fits row_of counts_of
  identity_answer_shaped =
      let count : ℕ = length (take d.extent d.identity) + 1 in
      let least : leb 4 (length (take d.extent d.identity) + 1) ≡ true = le-leb 4 (length (take d.extent d.identity) + 1) (omega (arith, identity_size.0)) in
      let most : leb (length (take d.extent d.identity) + 1) 7 ≡ true = le-leb (length (take d.extent d.identity) + 1) 7 (omega (arith, identity_size.1)) in
      rw (least, most)

  -- the SVID at a place of the list
  module _ (i : ℕ) (h : i < length (listed d)) where
    abbrev svid : ℕ
    svid = get_or (listed d) i 0

    pub request_shaped : well_shaped (request_message (discover svid modes_command)) ≡ true
    request_shaped = modes_request_shaped svid (some_svid modes_of d meets i h) (meets.svids_fit i)

    pub modes_answer_shaped : well_shaped (modes_answer modes_of svid) ≡ true
    modes_answer_shaped = modes_shaped svid (some_svid modes_of d meets i h) (meets.svids_fit i) modes_of (all.some_modes i h) (all.few_modes i h)
