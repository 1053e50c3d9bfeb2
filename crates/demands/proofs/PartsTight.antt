-- Each public function that is a part of the calls: two results that its promise allows are equal, with all that is lent afterwards.
use mathlib.Core.Path.{◌≡◌, refl}
use mathlib.Core.Bool.{Bool}
use mathlib.Core.List.{List}
use Prim.Native.Nat.{ℕ, ◌-◌}
use lib.Bits.{bit_and, bit_or}
use lib.ListN.{get_or, take}
use denote.Ref.{MutBor}
use Rattle.laws.specs.Lent.{Lent, left, leaving}
use Rattle.laws.proofs.Tight.{one_value}
use Rattle.messages.specs.Editions.{edition_number, edition_named, lower}
use Rattle.messages.specs.Layout.{Message, bytes_of_object}
use Rattle.messages.specs.Reading.{read_number, as_shown}
use Rattle.messages.specs.Refusals.{number_in}
use Rattle.messages.specs.Requests.{request_of, head_for, same_request}
use Rattle.messages.specs.Writing.{WrittenBy}
use Rattle.messages.specs.declared.edition.Edition.{Edition}
use Rattle.messages.specs.declared.Received.{Received}
use Rattle.messages.specs.declared.refusal.Refusal.{Refusal}
use Rattle.std.specs.Prelude.{Option, Some, None, Result, Ok, Err}
use Rattle.messages.proofs.Laws.{write_only}
use Rattle.messages.specs.Table.{shape}
use Rattle.messages.specs.declared.Head.{Head}
use Rattle.messages.specs.Reading.{ReadAs}
use Rattle.messages.specs.declared.request.Request.{Request}
use Rattle.laptop.specs.Calls.{Stepped, refused_by, accepted_with, short_runs}
use Rattle.laptop.specs.Catalogue.{modes_number}
use Rattle.laptop.specs.Marks.{place_of, named, six_bits}
use Rattle.laptop.specs.State.{ended, dropped}
use Rattle.laptop.specs.declared.Laptop.{Laptop}
use Rattle.laptop.specs.Step.{Step}
use Rattle.laptop.specs.declared.Told.{Told}
use Rattle.laptop_laws.proofs.Laws.{step_only}
use Rattle.owner.specs.Owner.{owner_refusal, asks}
use Rattle.gathering.specs.Gathering.{Opening, OpeningIs, Gathering, GatheringIs}
use Rattle.answers.specs.Answers.{Storing, StoringIs, Marking, MarkingIs}
use Rattle.publishing.specs.Publishing.{is_whole, PublishedAs}
use Rattle.demands.proofs.LaptopTight.{One, OneWith}

-- messages
pub number_only : (outcome : ReadAs) → One (λ (number : ℕ). number ≡ read_number outcome)
number_only outcome = λ result other. one_value

-- it is the number of what reading gives
pub number_shown : (r : Result Received Refusal) → read_number (as_shown r).outcome ≡ number_in r
number_shown (Ok received) = refl
number_shown (Err refusal) = refl

pub shape_only : (h : Head) (count : ℕ) → One (λ (good : Bool). good ≡ shape h count)
shape_only h count = λ result other. one_value

pub request_of_only : (h : Head) → One (λ (r : Request). r ≡ request_of h)
request_of_only h = λ result other. one_value

pub same_request_only : (a b : Request) → One (λ (same : Bool). same ≡ same_request a b)
same_request_only a b = λ result other. one_value

pub head_for_only : (r : Request) (kind : ℕ) → One (λ (h : Head). h ≡ head_for r kind)
head_for_only r kind = λ result other. one_value

pub lower_only : (a b : Edition) → One (λ (e : Edition). e ≡ lower a b)
lower_only a b = λ result other. one_value

pub edition_number_only : (e : Edition) → One (λ (number : ℕ). number ≡ edition_number e)
edition_number_only e = λ result other. one_value

pub edition_named_only : (number : ℕ) → One (λ (named : Option Edition). named ≡ edition_named number)
edition_named_only number = λ result other. one_value

-- at the edition that a number names, or 5
pub numbered_only : (named : Option Edition) (m : Message) (out : List ℕ) (number number' : ℕ) (after after' : List ℕ) → WrittenBy named m out number after →
    WrittenBy named m out number' after' → (number ≡ number') × (after ≡ after')
numbered_only None m out number number' after after' w w' = (one_value w.0 w'.0, one_value w.1 w'.1)
numbered_only (Some e) m out number number' after after' w w' = write_only e m out number number' after after' w w'

pub bytes_of_only : (object : ℕ) → One (λ (bytes : List ℕ). bytes ≡ bytes_of_object object)
bytes_of_only object = λ result other. one_value

-- the first of some items, and the item at a place, of any type
pub first_only : {A : Type 0} (n : ℕ) (items : List A) → One (λ (first : List A). first ≡ take n items)
first_only n items = λ result other. one_value

pub item_or_only : {A : Type 0} (items : List A) (place : ℕ) (other : A) → One (λ (item : A). item ≡ get_or items place other)
item_or_only items place other = λ result instead. one_value

pub first_objects_only : (n : ℕ) (objects : List ℕ) → One (λ (first : List ℕ). first ≡ take n objects)
first_objects_only n objects = first_only n objects

-- the laptop's steps
module _ (l : Laptop) where
  pub refused_only : (number : ℕ) → One (λ (s : Step). s ≡ refused_by number l)
  refused_only number = λ result other. one_value

  pub accepted_only : (told : Told) → One (λ (s : Step). s ≡ accepted_with told l)
  accepted_only told = λ result other. one_value

  pub ended_only : One (λ (after : Laptop). after ≡ ended l)
  ended_only = λ result other. one_value

  pub dropped_only : One (λ (after : Laptop). after ≡ dropped l)
  dropped_only = λ result other. one_value

  pub owner_refusal_only : (run held_run : ℕ) → One (λ (number : ℕ). number ≡ owner_refusal l run held_run)
  owner_refusal_only run held_run = λ result other. one_value

  pub ask_only : (r : Request) (out : List ℕ) → OneWith (Stepped l (asks r l) out)
  ask_only r out = step_only l (asks r l) out

  pub is_whole_only : One (λ (whole : Bool). whole ≡ is_whole l)
  is_whole_only = λ result other. one_value

pub short_runs_only : (run held_run : ℕ) → One (λ (short : Bool). short ≡ short_runs run held_run)
short_runs_only run held_run = λ result other. one_value

-- places and marks
pub place_of_only : (svid : ℕ) (list : List ℕ) → One (λ (place : ℕ). place ≡ place_of svid list)
place_of_only svid list = λ result other. one_value

pub number_at_only : (numbers : List ℕ) (place : ℕ) → One (λ (number : ℕ). number ≡ get_or numbers place 0)
number_at_only numbers place = item_or_only numbers place 0

pub modes_number_only : (modes : List ℕ) (place : ℕ) → One (λ (number : ℕ). number ≡ modes_number modes place)
modes_number_only modes place = λ result other. one_value

pub named_only : (position : ℕ) → One (λ (set : ℕ). set ≡ named position)
named_only position = λ result other. one_value

pub six_bits_only : (set : ℕ) → One (λ (bits : ℕ). bits ≡ six_bits set)
six_bits_only set = λ result other. one_value

pub marked_only : (set position : ℕ) → One (λ (after : ℕ). after ≡ bit_or set (named position))
marked_only set position = λ result other. one_value

pub unmarked_only : (set position : ℕ) → One (λ (after : ℕ). after ≡ bit_and set (63 - named position))
unmarked_only set position = λ result other. one_value

-- the answers, by what each leads to: the step and all that may change
pub hear_identity_only : (o : Opening) → (s other : Step) (svids identity svids' identity' : List ℕ) → OpeningIs o s svids identity →
    OpeningIs o other svids' identity' → (s ≡ other) × (svids ≡ svids') × (identity ≡ identity')
hear_identity_only o s other svids identity svids' identity' p q = (one_value p.0 q.0, one_value p.1 q.1, one_value p.2 q.2)

pub hear_svids_only : (g : Gathering) → OneWith (GatheringIs g)
hear_svids_only g s other svids svids' p q = (one_value p.0 q.0, one_value p.1 q.1)

pub hear_modes_only : (f : Storing) → (s other : Step) (modes run modes' run' : List ℕ) → StoringIs f s modes run → StoringIs f other modes' run' →
    (s ≡ other) × (modes ≡ modes') × (run ≡ run')
hear_modes_only f s other modes run modes' run' p q = (one_value p.0 q.0, one_value p.1 q.1, one_value p.2 q.2)

pub hear_mode_only : (k : Marking) → OneWith (MarkingIs k)
hear_mode_only k s other entered entered' p q = (one_value p.0 q.0, one_value p.1 q.1)

-- publishing: the step, and all that is held
pub publish_only : (before : Step) (svids modes identity run : List ℕ) (held_svids held_modes held_identity held_run : Lent (List ℕ))
    (svids' modes' identity' run' : MutBor (List ℕ)) (s other : Step) →
    PublishedAs before svids modes identity run held_svids held_modes held_identity held_run s →
    PublishedAs before svids modes identity run (leaving held_svids svids') (leaving held_modes modes') (leaving held_identity identity') (leaving held_run run') other →
    (s ≡ other) × (left held_svids ≡ svids'.now) × (left held_modes ≡ modes'.now) × (left held_identity ≡ identity'.now) × (left held_run ≡ run'.now)
publish_only before svids modes identity run held_svids held_modes held_identity held_run svids' modes' identity' run' s other p q =
    (one_value p.0 q.0, one_value p.1 q.1, one_value p.2 q.2, one_value p.3 q.3, one_value p.4 q.4)
