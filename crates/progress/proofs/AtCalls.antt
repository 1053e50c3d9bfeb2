-- A call at the laptop: what has come stays, or begins anew.
use mathlib.Core.Logic.{◌⊎◌, inl, inr}
use mathlib.Core.Path.{◌≡◌, refl, ap, sym, ◌∙◌, subst}
use mathlib.Core.Bool.{Bool, true, false, cond, ◌&&◌, false≢true}
use mathlib.Core.List.{List, []}
use Prim.Native.Nat.{ℕ, ◌<◌}
use native.Mathlib.Omega.{arith}
use lib.Dec.{ltb, eqb}
use lib.ListN.{length}
use borrow.Author.Tests.{ne_eqb}
use Rattle.messages.specs.Layout.{Message, message_length}
use Rattle.messages.specs.Writing.{write_refusal}
use Rattle.dock.specs.declared.Dock.{Dock}
use Rattle.laptop.specs.Calls.{Decision, refuses, accepts, sends, refused_by, sent_by, step_of, unless}
use Rattle.owner.specs.Owner.{is_absent, request_message}
use Rattle.laptop.specs.State.{Memory, ended, dropped, awaiting, identity_request, identity_asked}
use Rattle.laptop.specs.declared.Candidate.TheVariants.{Absent}
use Rattle.laptop.specs.declared.Laptop.{Laptop}
use Rattle.laptop.specs.declared.Told.TheVariants.{Nothing as ToldNothing}
use Rattle.laptop_laws.specs.Effects.{Call, message, next, start_over, drop, enter, exit, timer, protocol_error, decided}
use Rattle.laptop_laws.specs.WellFormed.{awaits_identity}
use Rattle.link.specs.Demand.{Meets}
use Rattle.link.specs.Needed.{needed, identity_out}
use Rattle.unharmed.proofs.AtLaptop.{Decides, stays, asks_identity, asks_other, drops, ends}
use Rattle.unharmed.proofs.Bytes.{some_bytes}
use Rattle.progress.proofs.Tells.{Tells, none_came, all_came, pages_come, modes_come, tells_same}

abbrev pub is_drop : Call → Bool
is_drop (message bytes) = false
is_drop next = false
is_drop start_over = false
is_drop drop = true
is_drop (enter svid position) = false
is_drop (exit svid position) = false
is_drop (timer first last) = false
is_drop protocol_error = false

module _ (modes_of : ℕ → List ℕ) (d : Dock) (meets : Meets modes_of d) (got : List Message) where
  -- why what has come begins anew, where that raises the number: a new gathering after a finished one, start over, or drop
  abbrev pub Why : Laptop → Type 0 → Type 0
  Why after ending = needed modes_of d got < needed modes_of d [] → ((needed modes_of d got ≡ 0) × (awaits_identity after.wait ≡ true)) ⊎ ending

  abbrev pub Outcome : Laptop → List Message → Type 0 → Type 0
  Outcome after then ending =
      ((then ≡ got) × Tells modes_of d meets after got) ⊎ ((then ≡ []) × Tells modes_of d meets after [] × Why after ending)

  module _ (l : Laptop) (m : Memory) (out : List ℕ) (tells : Tells modes_of d meets l got) where
    abbrev then : Decision → List Message
    then x = cond (identity_out (decided l m out x)) [] got

    abbrev DecidedOutcome : Call → Decision → Type 0
    DecidedOutcome c x = Outcome (step_of l x (length out)).laptop (then x) (c ≡ start_over)

    -- a request is sent, or refused and all is as it was
    sent_or_left : (c : Call) (x : Message) (after : Laptop) →
        (cond (awaits_identity after.wait) [] got ≡ got × Tells modes_of d meets after got) ⊎
        ((cond (awaits_identity after.wait) [] got ≡ []) × Tells modes_of d meets after [] × Why after (c ≡ start_over)) →
        DecidedOutcome c (sends x after)
    unfolding step_of
    sent_or_left c x after f = go (eqb (write_refusal x (length out)) 0)
      where
        room : ltb 0 (message_length x) ≡ true
        room = some_bytes x

        go : (b : Bool) →
            Outcome (cond b (sent_by (message_length x) after) (refused_by (write_refusal x (length out)) l)).laptop
            (cond (ltb 0 (cond b (sent_by (message_length x) after) (refused_by (write_refusal x (length out)) l)).length &&
            awaits_identity (cond b (sent_by (message_length x) after) (refused_by (write_refusal x (length out)) l)).laptop.wait) [] got)
            (c ≡ start_over)
        go true = rw room f
        go false = inl (refl, tells)

    -- with Identity
    anew : (c : Call) → (l.candidate ≡ Absent) ⊎ (c ≡ start_over) → Why (identity_asked l) (c ≡ start_over)
    anew c (inr e) h = inr e
    anew c (inl e) h = go tells
      where
        go : Tells modes_of d meets l got → ((needed modes_of d got ≡ 0) × (◌≡◌ {A = Bool} true true)) ⊎ (c ≡ start_over)
        go (none_came g a) = absurd (omega (arith, ap (needed modes_of d) g))
        go (all_came n z a w k) = inl (n, refl)
        go (pages_come p a count most pages come) = absurd (false≢true (sym (ap is_absent a) ∙ ap is_absent e))
        go (modes_come a some k pages come) = absurd (false≢true (sym (ap is_absent a) ∙ ap is_absent e))

    pub decided_outcome : (c : Call) → is_drop c ≡ false → (x : Decision) → Decides l c x → DecidedOutcome c x
    unfolding step_of
    decided_outcome c other x (stays number n e) = subst (DecidedOutcome c) (sym e) (inl (refl, tells))
    decided_outcome c other x (asks_identity a e) =
        subst (DecidedOutcome c) (sym e)
        (sent_or_left c (request_message identity_request) (identity_asked l) (inr (refl, none_came refl refl, anew c a)))
    decided_outcome c other x (asks_other r least few e) =
        let not_identity : eqb r.command 1 ≡ false = ne_eqb r.command 1 (λ f. omega arith) in
        subst (DecidedOutcome c) (sym e)
        (sent_or_left c (request_message r) (awaiting r l)
        (inl (ap (λ (b : Bool). cond b [] got) not_identity, tells_same modes_of d meets l (awaiting r l) got refl refl refl refl (λ w. not_identity) tells)))
    decided_outcome c other x (drops told (inl a) e) =
        subst (DecidedOutcome c) (sym e) (inl (refl, tells_same modes_of d meets l (dropped l) got (sym a) refl refl refl (λ w. refl) tells))
    decided_outcome c other x (drops told (inr a) e) = subst (DecidedOutcome c) (sym e) (inl (refl, absurd (false≢true (sym other ∙ ap is_drop a))))
    decided_outcome c other x (ends told e) =
        subst (DecidedOutcome c) (sym e) (inl (refl, tells_same modes_of d meets l (ended l) got refl refl refl refl (λ w. refl) tells))

    -- drop is refused, or nothing has come after it
    pub drop_outcome : (ending : Type 0) → ending → (number : ℕ) →
        Outcome (step_of l (unless number l (accepts ToldNothing (dropped l))) (length out)).laptop
        (cond (eqb (step_of l (unless number l (accepts ToldNothing (dropped l))) (length out)).refusal 0) [] got) ending
    unfolding unless step_of
    drop_outcome ending why number = go (eqb number 0) refl
      where
        go : (b : Bool) → eqb number 0 ≡ b →
            Outcome (step_of l (cond b (accepts ToldNothing (dropped l)) (refuses number l)) (length out)).laptop
            (cond (eqb (step_of l (cond b (accepts ToldNothing (dropped l)) (refuses number l)) (length out)).refusal 0) [] got) ending
        go true e = inr (refl, none_came refl refl, λ h. inr why)
        go false e = inl (ap (λ (b : Bool). cond b [] got) e, tells)
