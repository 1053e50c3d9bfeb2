-- The laptop end's state as numbers: what the code makes is the definition, and numbers made of a state give it back.
use mathlib.Core.Path.{◌≡◌, refl, ap, sym, ◌∙◌}
use mathlib.Core.Bool.{Bool, true, false, cond}
use mathlib.Core.List.{List, [], ◌∷◌, ◌++◌, append_assoc, append-nil}
use Prim.Native.Nat.{ℕ, ◌+◌, ◌<◌}
use native.Mathlib.Nat.{add-zero}
use native.Mathlib.Numerals.{add-one, add-two, add-three, add-four, add_five}
use native.Mathlib.Omega.{arith}
use lib.Dec.{eqb}
use lib.ListN.{length, get_or, set, length-append, drop_of_length-le}
use lib.Seq.{sets, get_or-append-add}
use Rattle.laws.proofs.Stores.{sets_append, sets_front}
use Rattle.messages.specs.Editions.{edition_number}
use Rattle.messages.specs.declared.edition.Edition.{Edition}
use Rattle.messages.specs.declared.edition.Edition.TheVariants.{OneZero, TwoZero, TwoOne}
use Rattle.taking.specs.Taking.{same_list}
use Rattle.taking.proofs.Gathering.{same_self, same_lists}
use Rattle.laptop.specs.declared.Candidate.{Candidate}
use Rattle.laptop.specs.declared.Candidate.TheVariants.{Absent, Open, Done}
use Rattle.std.specs.Prelude.{Option, Some, None}
use Rattle.laptop.specs.declared.Size.{Size}
use Rattle.port.specs.declared.Own.{Own}
use Rattle.port.specs.declared.Port.{Port}
use Rattle.port.specs.declared.Side.{Side}
use Rattle.port.specs.declared.Side.TheVariants.{Partner, Cable}
use Rattle.port.specs.Sides.{Wait}
use Rattle.controller.specs.Port.{low_byte, request_from, size_from, candidate_from, held_from, wait_in, own_from, port_from, side_from, side_number, edition_from, wait_numbers, candidate_number, held_numbers, own_numbers, port_numbers, numbers_after}

pub wait_length : (w : Wait) → length (wait_numbers w) ≡ 4
wait_length None = refl
wait_length (Some (side, r)) = refl

pub held_length : (h : Option Size) → length (held_numbers h) ≡ 3
held_length None = refl
held_length (Some size) = refl

pub own_length : (own : Own) → length (own_numbers own) ≡ 9
unfolding own_numbers
own_length own = rw length-append (omega (arith, held_length own.held))

-- the stores, one after the other
pub own_stored : (s : List ℕ) (at : ℕ) (own : Own) {candidate edition : ℕ} {held whole : List ℕ} → candidate ≡ candidate_number own.candidate →
    held ≡ held_numbers own.held → edition ≡ edition_number own.edition →
    whole ≡ sets (set (set (set (set (set s at candidate) (at + 1) own.gathered.extent) (at + 2) own.gathered.count) (at + 3) own.stored) (at + 4) own.pages) (at + 5) held →
    set whole (at + 8) edition ≡ sets s at (own_numbers own)
unfolding own_numbers
own_stored s at own {candidate} {edition} {held} {whole} e f g h =
    let five : List ℕ = set (set (set (set (set s at candidate) (at + 1) own.gathered.extent) (at + 2) own.gathered.count) (at + 3) own.stored) (at + 4) own.pages in
    let eight : at + 5 + length held ≡ at + 8 = omega (arith, ap length f, held_length own.held) in
    let behind : set whole (at + 8) edition ≡ sets five (at + 5) (held ++ (edition ∷ [])) =
    ap (λ (w : List ℕ). set w (at + 8) edition) h ∙ ap (λ (k : ℕ). set (sets five (at + 5) held) k edition) (sym eight) ∙
    sym (sets_append five (at + 5) held (edition ∷ [])) in
    let all : sets five (at + 5) (held ++ (edition ∷ [])) ≡ sets s at (own_numbers own) = rw (e, f, g, add-one, add-two, add-three, add-four, add_five) in
    behind ∙ all

pub port_stored : (s : List ℕ) (p : Port) → length s ≡ 22 → {first second third : List ℕ} → first ≡ sets s 0 (wait_numbers p.wait) →
    second ≡ sets first 4 (own_numbers p.partner) → third ≡ sets second 13 (own_numbers p.cable) → third ≡ port_numbers p
unfolding port_numbers
port_stored s p size {first} {second} e f g =
    let wait : List ℕ = wait_numbers p.wait in
    let partner : List ℕ = own_numbers p.partner in
    let cable : List ℕ = own_numbers p.cable in
    let four : 0 + length wait ≡ 4 = omega (arith, wait_length p.wait) in
    let thirteen : 0 + length (wait ++ partner) ≡ 13 = rw length-append (omega (arith, wait_length p.wait, own_length p.partner)) in
    let all : length ((wait ++ partner) ++ cable) ≡ 22 = rw (length-append, length-append) (omega (arith, wait_length p.wait, own_length p.partner, own_length p.cable)) in
    let second_is : second ≡ sets s 0 (wait ++ partner) =
    f ∙ ap (λ (l : List ℕ). sets l 4 partner) e ∙ sym (sets_append s 0 wait partner ∙ ap (λ (k : ℕ). sets (sets s 0 wait) k partner) four) in
    let third_is =
    g ∙ ap (λ (l : List ℕ). sets l 13 cable) second_is ∙
    sym (sets_append s 0 (wait ++ partner) cable ∙ ap (λ (k : ℕ). sets (sets s 0 (wait ++ partner)) k cable) thirteen) in
    third_is ∙ sets_front s ((wait ++ partner) ++ cable) (omega (arith, all, size)) ∙
    ap (λ (l : List ℕ). ((wait ++ partner) ++ cable) ++ l) (drop_of_length-le s {i = length ((wait ++ partner) ++ cable)} (omega (arith, all, size))) ∙ append-nil ((wait ++ partner) ++ cable)

-- a state whose bytes are bytes, as that of every laptop is
abbrev pub SizeFits : Size → Type 0
SizeFits size = (size.extent < 256) × (size.count < 256)

abbrev pub WaitFits : Wait → Type 0
WaitFits None = Unit
WaitFits (Some (side, r)) = (r.command < 256) × (r.position < 256)

abbrev pub HeldFits : Option Size → Type 0
HeldFits None = Unit
HeldFits (Some size) = SizeFits size

pub record OwnFits (own : Own) : Type 0 where
  pub gathered_fits : SizeFits own.gathered
  pub stored_fits : own.stored < 256
  pub pages_fit : own.pages < 256
  pub held_fits : HeldFits own.held

pub record Fits (p : Port) : Type 0 where
  pub wait_fits : WaitFits p.wait
  pub partner_fits : OwnFits p.partner
  pub cable_fits : OwnFits p.cable

pub byte_again : (n : ℕ) → n < 256 → low_byte n ≡ n
byte_again n h = omega arith

pub side_again : (side : Side) → side_from (side_number side) ≡ side
side_again Partner = refl
side_again Cable = refl

pub edition_again : (e : Edition) → edition_from (edition_number e) ≡ e
edition_again OneZero = refl
edition_again TwoZero = refl
edition_again TwoOne = refl

size_again : (size : Size) → SizeFits size → size_from size.extent size.count ≡ size
size_again size h = rw (byte_again size.extent h.0, byte_again size.count h.1)

candidate_again : (candidate : Candidate) → candidate_from (candidate_number candidate) ≡ candidate
candidate_again Absent = refl
candidate_again Open = refl
candidate_again Done = refl

wait_again : (w : Wait) (rest : List ℕ) → WaitFits w → wait_in (wait_numbers w ++ rest) ≡ w
unfolding wait_in
wait_again None rest h = refl
wait_again (Some (Partner, r)) rest h = rw (byte_again r.command h.0, byte_again r.position h.1)
wait_again (Some (Cable, r)) rest h = rw (byte_again r.command h.0, byte_again r.position h.1)

-- a side's numbers behind others
number_behind : (before l : List ℕ) (at k : ℕ) → length before ≡ at → get_or (before ++ l) (at + k) 0 ≡ get_or l k 0
number_behind before l at k e = ap (λ (n : ℕ). get_or (before ++ l) (n + k) 0) (sym e) ∙ get_or-append-add before l k 0

first_behind : (before l : List ℕ) (at : ℕ) → length before ≡ at → get_or (before ++ l) at 0 ≡ get_or l 0 0
first_behind before l at e = ap (λ (n : ℕ). get_or (before ++ l) n 0) (sym (add-zero at)) ∙ number_behind before l at 0 e

own_behind : (before l : List ℕ) (at : ℕ) → length before ≡ at → own_from (before ++ l) at ≡ own_from l 0
unfolding own_from
own_behind before l at e =
    rw (first_behind before l at e, number_behind before l at 1 e, number_behind before l at 2 e, number_behind before l at 3 e, number_behind before l at 4 e, number_behind before l at 5 e, number_behind before l at 6 e, number_behind before l at 7 e, number_behind before l at 8 e)

held_front : (held : Option Size) (n : ℕ) (rest : List ℕ) → HeldFits held →
    held_from (get_or ((held_numbers held ++ (n ∷ [])) ++ rest) 0 0)
    (size_from (get_or ((held_numbers held ++ (n ∷ [])) ++ rest) 1 0) (get_or ((held_numbers held ++ (n ∷ [])) ++ rest) 2 0)) ≡ held
held_front None n rest h = refl
held_front (Some size) n rest h = rw (byte_again size.extent h.0, byte_again size.count h.1)

behind_held : (held : Option Size) (n : ℕ) (rest : List ℕ) → get_or ((held_numbers held ++ (n ∷ [])) ++ rest) 3 0 ≡ n
behind_held None n rest = refl
behind_held (Some size) n rest = refl

own_front : (own : Own) (rest : List ℕ) → OwnFits own → own_from (own_numbers own ++ rest) 0 ≡ own
unfolding own_from own_numbers
own_front own rest h =
    rw (candidate_again own.candidate, size_again own.gathered h.gathered_fits, byte_again own.stored h.stored_fits, byte_again own.pages h.pages_fit, held_front own.held (edition_number own.edition) rest h.held_fits, behind_held own.held (edition_number own.edition) rest, edition_again own.edition)

-- numbers made of a state give it back
pub from_numbers : (p : Port) → Fits p → port_from (port_numbers p) ≡ p
unfolding port_from port_numbers
from_numbers p h =
    let wait : List ℕ = wait_numbers p.wait in
    let partner : List ℕ = own_numbers p.partner in
    let cable : List ℕ = own_numbers p.cable in
    let thirteen : length (wait ++ partner) ≡ 13 = rw length-append (omega (arith, wait_length p.wait, own_length p.partner)) in
    let front : (wait ++ partner) ++ cable ≡ wait ++ (partner ++ cable) = append_assoc wait partner cable in
    sym
    (port_made (sym (ap wait_in front ∙ wait_again p.wait (partner ++ cable) h.wait_fits))
    (sym (ap (λ (l : List ℕ). own_from l 4) front ∙ own_behind wait (partner ++ cable) 4 (wait_length p.wait) ∙ own_front p.partner cable h.partner_fits))
    (sym (own_behind (wait ++ partner) cable 13 thirteen ∙ ap (λ (l : List ℕ). own_from l 0) (sym (append-nil cable)) ∙ own_front p.cable [] h.cable_fits)))
  where
    port_made : {wait : Wait} {partner cable : Own} → p.wait ≡ wait → p.partner ≡ partner → p.cable ≡ cable →
        ◌≡◌ {A = Port} p (record { wait = wait; partner = partner; cable = cable })
    port_made e f g = rw (← e, ← f, ← g)

-- the numbers after a call stand for its port, and stay where it is the one that they stood for
pub numbers_stay : (before : List ℕ) → numbers_after before (port_from before) ≡ before
unfolding numbers_after
numbers_stay before = rw (same_self (port_numbers (port_from before)))

low_fits : (n : ℕ) → low_byte n < 256
low_fits n = omega arith

wait_from_fits : (t u : Bool) (svid command position : ℕ) →
    WaitFits (cond t (Some (Partner, request_from svid command position)) (cond u (Some (Cable, request_from svid command position)) None))
wait_from_fits true u svid command position = (low_fits command, low_fits position)
wait_from_fits false true svid command position = (low_fits command, low_fits position)
wait_from_fits false false svid command position = tt

wait_in_fits : (s : List ℕ) → WaitFits (wait_in s)
unfolding wait_in
wait_in_fits s = wait_from_fits (eqb (get_or s 0 0) 1) (eqb (get_or s 0 0) 2) (get_or s 1 0) (get_or s 2 0) (get_or s 3 0)

held_from_fits : (t : Bool) (extent count : ℕ) → HeldFits (cond t (Some (size_from extent count)) None)
held_from_fits true extent count = (low_fits extent, low_fits count)
held_from_fits false extent count = tt

own_from_fits : (s : List ℕ) (at : ℕ) → OwnFits (own_from s at)
unfolding own_from
own_from_fits s at =
    record {
      gathered_fits = (low_fits (get_or s (at + 1) 0), low_fits (get_or s (at + 2) 0));
      stored_fits = low_fits (get_or s (at + 3) 0);
      pages_fit = low_fits (get_or s (at + 4) 0);
      held_fits = held_from_fits (eqb (get_or s (at + 5) 0) 1) (get_or s (at + 6) 0) (get_or s (at + 7) 0);
    }

stood_fits : (s : List ℕ) → Fits (port_from s)
unfolding port_from
stood_fits s = record { wait_fits = wait_in_fits s; partner_fits = own_from_fits s 4; cable_fits = own_from_fits s 13 }

pub numbers_stand : (before : List ℕ) (p : Port) → Fits p → port_from (numbers_after before p) ≡ p
unfolding numbers_after
numbers_stand before p h = go (same_list (port_numbers (port_from before)) (port_numbers p)) refl
  where
    go : (t : Bool) → same_list (port_numbers (port_from before)) (port_numbers p) ≡ t → port_from (cond t before (port_numbers p)) ≡ p
    go true e = sym (from_numbers (port_from before) (stood_fits before)) ∙ ap port_from (same_lists _ _ e) ∙ from_numbers p h
    go false e = from_numbers p h
