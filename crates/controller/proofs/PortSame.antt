-- Two ports held against each other: their numbers are the same where each part is.
use mathlib.Core.Path.{◌≡◌, refl, ap, sym, ◌∙◌}
use mathlib.Core.Bool.{Bool, ◌&&◌, and-true, and_assoc}
use mathlib.Core.List.{List, [], ◌∷◌, ◌++◌}
use Prim.Native.Nat.{ℕ}
use native.Mathlib.Nat.{suc_inj, suc-ne-zero}
use native.Mathlib.Omega.{arith}
use denote.Enum.Bare.{sameb}
use lib.Dec.{eqb}
use lib.ListN.{length, length-append}
use Rattle.std.specs.Option.{option_eq}
use Rattle.std.specs.Prelude.{Option, Some, None}
use Rattle.messages.specs.Editions.{edition_number}
use Rattle.messages.specs.contracts.edition.Edition.{the_type as the_edition}
use Rattle.messages.specs.declared.edition.Edition.{Edition}
use Rattle.messages.specs.declared.edition.Edition.TheVariants.{OneZero, TwoZero, TwoOne}
use Rattle.messages.specs.Requests.{same_request}
use Rattle.messages.specs.declared.request.Request.{Request}
use Rattle.taking.specs.Taking.{same_list}
use Rattle.laptop.specs.contracts.Candidate.{the_type as the_candidate}
use Rattle.laptop.specs.declared.Candidate.{Candidate}
use Rattle.laptop.specs.declared.Candidate.TheVariants.{Absent, Open, Done}
use Rattle.laptop.specs.declared.Size.{Size}
use Rattle.port.specs.Sides.{Wait}
use Rattle.port.specs.contracts.Side.{the_type as the_side}
use Rattle.port.specs.declared.Own.{Own}
use Rattle.port.specs.declared.Port.{Port}
use Rattle.port.specs.declared.Side.{Side}
use Rattle.port.specs.declared.Side.TheVariants.{Partner, Cable}
use Rattle.controller.specs.Port.{wait_in, own_from, port_from, candidate_number, wait_numbers, held_numbers, own_numbers, port_numbers}
use Rattle.controller.proofs.PortNumbers.{wait_length, held_length, own_length}

-- two waits
pub same_wait : (v w : Wait) →
    option_eq (λ (x y : Side × Request). sameb the_side x.0 y.0 && same_request x.1 y.1) v w ≡ same_list (wait_numbers v) (wait_numbers w)
unfolding same_list
same_wait None None = refl
same_wait None (Some (Partner, q)) = refl
same_wait None (Some (Cable, q)) = refl
same_wait (Some (Partner, r)) None = refl
same_wait (Some (Cable, r)) None = refl
same_wait (Some (Partner, r)) (Some (Partner, q)) = rw (and-true (eqb r.position q.position))
same_wait (Some (Partner, r)) (Some (Cable, q)) = refl
same_wait (Some (Cable, r)) (Some (Partner, q)) = refl
same_wait (Some (Cable, r)) (Some (Cable, q)) = rw (and-true (eqb r.position q.position))

same_candidate : (a b : Candidate) → sameb the_candidate a b ≡ eqb (candidate_number a) (candidate_number b)
same_candidate Absent Absent = refl
same_candidate Absent Open = refl
same_candidate Absent Done = refl
same_candidate Open Absent = refl
same_candidate Open Open = refl
same_candidate Open Done = refl
same_candidate Done Absent = refl
same_candidate Done Open = refl
same_candidate Done Done = refl

same_edition : (a b : Edition) → sameb the_edition a b ≡ eqb (edition_number a) (edition_number b)
same_edition OneZero OneZero = refl
same_edition OneZero TwoZero = refl
same_edition OneZero TwoOne = refl
same_edition TwoZero OneZero = refl
same_edition TwoZero TwoZero = refl
same_edition TwoZero TwoOne = refl
same_edition TwoOne OneZero = refl
same_edition TwoOne TwoZero = refl
same_edition TwoOne TwoOne = refl

abbrev same_size : Size → Size → Bool
same_size a b = eqb a.extent b.extent && eqb a.count b.count

same_held : (g h : Option Size) → option_eq same_size g h ≡ same_list (held_numbers g) (held_numbers h)
unfolding same_list
same_held None None = refl
same_held None (Some b) = refl
same_held (Some a) None = refl
same_held (Some a) (Some b) = rw (and-true (eqb a.count b.count))

-- lists behind lists of one length
same_behind : (k l m n : List ℕ) → length k ≡ length l → same_list (k ++ m) (l ++ n) ≡ (same_list k l && same_list m n)
unfolding same_list
same_behind [] [] m n e = refl
same_behind [] (y ∷ l) m n e = absurd (suc-ne-zero _ (sym e))
same_behind (x ∷ k) [] m n e = absurd (suc-ne-zero _ e)
same_behind (x ∷ k) (y ∷ l) m n e =
    ap (λ (t : Bool). eqb x y && t) (same_behind k l m n (suc_inj e)) ∙ sym (and_assoc (eqb x y) (same_list k l) (same_list m n))

held_parts : (a b : Own) →
    same_list (held_numbers a.held ++ (edition_number a.edition ∷ [])) (held_numbers b.held ++ (edition_number b.edition ∷ [])) ≡
    (same_list (held_numbers a.held) (held_numbers b.held) && eqb (edition_number a.edition) (edition_number b.edition))
unfolding same_list
held_parts a b =
    same_behind (held_numbers a.held) (held_numbers b.held) _ _ (held_length a.held ∙ sym (held_length b.held)) ∙
    ap (λ (t : Bool). same_list (held_numbers a.held) (held_numbers b.held) && t) (and-true (eqb (edition_number a.edition) (edition_number b.edition)))

-- what a side has of its own: six tests, one after the other
own_parts : (a b : Own) → same_list (own_numbers a) (own_numbers b) ≡
    (eqb (candidate_number a.candidate) (candidate_number b.candidate) &&
    ((eqb a.gathered.extent b.gathered.extent && eqb a.gathered.count b.gathered.count) &&
    (eqb a.stored b.stored && (eqb a.pages b.pages &&
    (same_list (held_numbers a.held) (held_numbers b.held) && eqb (edition_number a.edition) (edition_number b.edition))))))
unfolding own_numbers same_list
own_parts a b =
    ap (λ (t : Bool). eqb (candidate_number a.candidate) (candidate_number b.candidate) && t)
    (sym (and_assoc (eqb a.gathered.extent b.gathered.extent) (eqb a.gathered.count b.gathered.count) _) ∙
    ap
    (λ (t : Bool). (eqb a.gathered.extent b.gathered.extent && eqb a.gathered.count b.gathered.count) && (eqb a.stored b.stored && (eqb a.pages b.pages && t)))
    (held_parts a b))

-- two sides' own parts
pub same_own : (a b : Own) →
    (sameb the_candidate a.candidate b.candidate && (same_size a.gathered b.gathered && (eqb a.stored b.stored && (eqb a.pages b.pages &&
    (option_eq same_size a.held b.held && sameb the_edition a.edition b.edition))))) ≡ same_list (own_numbers a) (own_numbers b)
same_own a b = rw (own_parts a b, same_candidate a.candidate b.candidate, same_held a.held b.held, same_edition a.edition b.edition)

port_parts : (a b : Port) → same_list (port_numbers a) (port_numbers b) ≡
    ((same_list (wait_numbers a.wait) (wait_numbers b.wait) && same_list (own_numbers a.partner) (own_numbers b.partner)) &&
    same_list (own_numbers a.cable) (own_numbers b.cable))
unfolding port_numbers
port_parts a b =
    let waits : length (wait_numbers a.wait) ≡ length (wait_numbers b.wait) = wait_length a.wait ∙ sym (wait_length b.wait) in
    let owns : length (own_numbers a.partner) ≡ length (own_numbers b.partner) = own_length a.partner ∙ sym (own_length b.partner) in
    let fronts : length (wait_numbers a.wait ++ own_numbers a.partner) ≡ length (wait_numbers b.wait ++ own_numbers b.partner) =
    simp length-append (omega (arith, waits, owns)) in
    same_behind (wait_numbers a.wait ++ own_numbers a.partner) (wait_numbers b.wait ++ own_numbers b.partner) _ _ fronts ∙
    ap (λ (t : Bool). t && same_list (own_numbers a.cable) (own_numbers b.cable)) (same_behind (wait_numbers a.wait) (wait_numbers b.wait) _ _ waits)

-- the numbers held against a port
pub same_port : (s : List ℕ) (p : Port) → same_list (port_numbers (port_from s)) (port_numbers p) ≡
    ((same_list (wait_numbers (wait_in s)) (wait_numbers p.wait) && same_list (own_numbers (own_from s 4)) (own_numbers p.partner)) &&
    same_list (own_numbers (own_from s 13)) (own_numbers p.cable))
unfolding port_from
same_port s p = port_parts (port_from s) p
