-- The two sides keep to themselves (02, R-4): any history.
use mathlib.Core.Path.{◌≡◌, refl, ap, sym, ◌∙◌, subst}
use mathlib.Core.Bool.{Bool, true, false, cond, not, ◌&&◌, ◌||◌, false≢true}
use mathlib.Core.List.{List, [], ◌∷◌}
use Prim.Native.Nat.{ℕ}
use lib.ListN.{length}
use Rattle.laptop.specs.Calls.{short_runs}
use Rattle.laptop_laws.specs.Effects.{Call as LaptopCall}
use Rattle.laptop_laws.specs.Effects.{kept_after as laptop_kept_after}
use Rattle.port.specs.Calls.{waiting_side}
use Rattle.port.specs.Sides.{Wait, is_others, put_back}
use Rattle.port.specs.declared.Port.{Port}
use Rattle.port.specs.declared.Side.{Side}
use Rattle.port.specs.declared.Side.TheVariants.{Partner}
use Rattle.std.specs.Prelude.{None}
use Rattle.port_laws.specs.Effects.{Call, message, next, start_over, drop, enter, exit, timer, protocol_error, one_sided, concerns, is_owners, effect_of, Kept, memory_of, of_side, kept_on, effect_in, kept_by_of, kept_after, Answer, answer_of}
use Rattle.port_laws.specs.Leaving.{is_others_call, is_blocked, is_left_out, leaving, answers_for, without_others, NoneRefusedSeven, one_sided_all, laptop_by, laptop_answers}
use Rattle.port_laws.proofs.Seeing.{refused_nine, timer_nine, error_nine}
use Rattle.port_laws.proofs.Sides.{not_others, Waits, own_waits, other_waits, none_waits, waits}
use Rattle.port_laws.proofs.OneCall.{port_on, put_on, idle_kept, kept_in, own_side, others_change_nothing, own_as_laptop, blocked_changes_nothing}

-- A HISTORY. What is left out changes nothing of the side
pub left_out_leaves : (side : Side) (c : Call) (out : List ℕ) (k : Kept) → is_left_out side c k ≡ true → of_side side (kept_by_of c out k) ≡ of_side side k
left_out_leaves side c out k e = go (is_others_call side c k.port.wait) refl
  where
    go : (t : Bool) → is_others_call side c k.port.wait ≡ t → of_side side (kept_by_of c out k) ≡ of_side side k
    go true f = others_change_nothing side c out k f
    go false f =
        ap (of_side side) (blocked_changes_nothing side c out k f (sym (ap (λ (t : Bool). t || is_blocked side c k) f) ∙ e)).0

-- the side's share of a history of the port is the history of a laptop of 01, and it gets that laptop's answers
abbrev pub ShareIs : Side → List (Call × List ℕ) → Kept → Type 0
ShareIs side history k =
    (of_side side (kept_after history k) ≡ laptop_kept_after (one_sided_all (leaving side history k)) (of_side side k)) ×
    (answers_for side history k ≡ laptop_answers (one_sided_all (leaving side history k)) (of_side side k))

pub share_is_a_laptops : (side : Side) (history : List (Call × List ℕ)) (k : Kept) → ShareIs side history k
unfolding leaving answers_for
share_is_a_laptops side [] k = (refl, refl)
share_is_a_laptops side (c ∷ rest) k = go (share_is_a_laptops side rest (kept_by_of c.0 c.1 k)) (is_left_out side c.0 k) refl
  where
    after : Kept
    after = kept_by_of c.0 c.1 k

    go : ShareIs side rest after → (t : Bool) → is_left_out side c.0 k ≡ t →
        (of_side side (kept_after rest after) ≡
        laptop_kept_after (one_sided_all (cond t (leaving side rest after) (c ∷ leaving side rest after))) (of_side side k)) ×
        (cond t (answers_for side rest after) (answer_of (effect_in c.0 c.1 k) ∷ answers_for side rest after) ≡
        laptop_answers (one_sided_all (cond t (leaving side rest after) (c ∷ leaving side rest after))) (of_side side k))
    go deeper true e =
        let same = left_out_leaves side c.0 c.1 k e in (
          deeper.0 ∙ ap (laptop_kept_after (one_sided_all (leaving side rest after))) same,
          deeper.1 ∙ ap (laptop_answers (one_sided_all (leaving side rest after))) same,
        )
    go deeper false e =
        let own = own_as_laptop side c.0 c.1 k e in (
          deeper.0 ∙ ap (laptop_kept_after (one_sided_all (leaving side rest after))) own.0,
          ap (λ (x : List Answer). answer_of (effect_in c.0 c.1 k) ∷ x) (deeper.1 ∙ ap (laptop_answers (one_sided_all (leaving side rest after))) own.0) ∙
              ap (λ (x : Answer). x ∷ laptop_answers (one_sided_all (leaving side rest after)) (laptop_by (one_sided c.0) c.1 (of_side side k))) own.1,
        )

-- a call of the side is left out nowhere where the other does not wait
own_anywhere : (side : Side) (c : Call) (v w : Wait) → is_others_call side c v ≡ false → is_others side w ≡ false → is_others_call side c w ≡ false
own_anywhere side (message s bytes) v w e free = e
own_anywhere side (next s) v w e free = e
own_anywhere side (start_over s) v w e free = e
own_anywhere side (drop s) v w e free = e
own_anywhere side (enter s svid position) v w e free = e
own_anywhere side (exit s svid position) v w e free = e
own_anywhere side (timer first last) v w e free = free
own_anywhere side protocol_error v w e free = free

kept_anywhere : (side : Side) (c : Call) (k j : Kept) → is_left_out side c k ≡ false → is_others side j.port.wait ≡ false → is_left_out side c j ≡ false
kept_anywhere side c k j e free =
    ap (λ (t : Bool). t || is_blocked side c j) (own_anywhere side c k.port.wait j.port.wait (kept_in side c k e).0 free) ∙
    ap (λ (t : Bool). is_owners c && (t && not (short_runs (length (memory_of side j).run) (length (memory_of side j).held_run)))) free ∙ none (is_owners c)
  where
    none : (t : Bool) → t && false ≡ false
    none true = refl
    none false = refl

-- and leaves the other not waiting
free_after : (side : Side) (c : Call) (out : List ℕ) (j : Kept) → is_left_out side c j ≡ false → is_others side j.port.wait ≡ false →
    is_others side (kept_by_of c out j).port.wait ≡ false
free_after side c out j e free = go c (waits side j.port.wait) (kept_in side c j e).0
  where
    at_own : (c : Call) → concerns c j.port.wait ≡ side → is_others side (kept_by_of c out j).port.wait ≡ false
    at_own c at =
        let put = put_on c j.port (memory_of (concerns c j.port.wait) j) out in
        ap (λ (x : Port). is_others side x.wait) (port_on (concerns c j.port.wait) (effect_in c out j) j ∙ put.1 ∙ ap (λ (s : Side). put_back s put.0 j.port) at) ∙
        not_others side put.0 j.port free

    idle : (c : Call) → concerns c j.port.wait ≡ Partner → effect_of c j.port j.partner out ≡ refused_nine j.port j.partner out →
        j.port.wait ≡ None → is_others side (kept_by_of c out j).port.wait ≡ false
    idle c at f none =
        ap (λ (x : Kept). is_others side x.port.wait)
        (ap (λ (s : Side). kept_on s (effect_of c j.port (memory_of s j) out) j) at ∙ idle_kept side out j none _ f) ∙ free

    go : (c : Call) → Waits side j.port.wait → is_others_call side c j.port.wait ≡ false → is_others side (kept_by_of c out j).port.wait ≡ false
    go (message s bytes) w f = at_own (message s bytes) (own_side s side f)
    go (next s) w f = at_own (next s) (own_side s side f)
    go (start_over s) w f = at_own (start_over s) (own_side s side f)
    go (drop s) w f = at_own (drop s) (own_side s side f)
    go (enter s svid position) w f = at_own (enter s svid position) (own_side s side f)
    go (exit s svid position) w f = at_own (exit s svid position) (own_side s side f)
    go (timer first last) (own_waits g h) f = at_own (timer first last) g
    go (timer first last) (other_waits g h) f = absurd (false≢true (sym free ∙ h))
    go (timer first last) (none_waits g) f = idle (timer first last) (ap waiting_side g) (timer_nine j.port g j.partner out first last) g
    go protocol_error (own_waits g h) f = at_own protocol_error g
    go protocol_error (other_waits g h) f = absurd (false≢true (sym free ∙ h))
    go protocol_error (none_waits g) f = idle protocol_error (ap waiting_side g) (error_nine j.port g j.partner out) g

-- so that nothing more is left out of what is left
stays : (side : Side) (history : List (Call × List ℕ)) (k j : Kept) → is_others side j.port.wait ≡ false →
    leaving side (leaving side history k) j ≡ leaving side history k
unfolding leaving
stays side [] k j free = refl
stays side (c ∷ rest) k j free = go (λ x. stays side rest (kept_by_of c.0 c.1 k) x) (is_left_out side c.0 k) refl
  where
    behind : List (Call × List ℕ)
    behind = leaving side rest (kept_by_of c.0 c.1 k)

    go : ((x : Kept) → is_others side x.port.wait ≡ false → leaving side behind x ≡ behind) → (t : Bool) → is_left_out side c.0 k ≡ t →
        leaving side (cond t behind (c ∷ behind)) j ≡ cond t behind (c ∷ behind)
    go deeper true e = deeper j free
    go deeper false e =
        ap (λ (t : Bool). cond t (leaving side behind (kept_by_of c.0 c.1 j)) (c ∷ leaving side behind (kept_by_of c.0 c.1 j)))
        (kept_anywhere side c.0 k j e free) ∙
        ap (λ (x : List (Call × List ℕ)). c ∷ x)
        (deeper (kept_by_of c.0 c.1 j) (free_after side c.0 c.1 j (kept_anywhere side c.0 k j e free) free))

-- ISOLATION. Without the other side's events and the side's calls refused 7 because of it, from any state in which the side has the same and the other does
-- not wait, the side has the same in the end, its memory to the word, and gets the same answers
abbrev pub SameShare : Side → List (Call × List ℕ) → Kept → List (Call × List ℕ) → Kept → Type 0
SameShare side history k fewer j =
    (of_side side (kept_after fewer j) ≡ of_side side (kept_after history k)) × (answers_for side fewer j ≡ answers_for side history k)

pub isolated : (side : Side) (history : List (Call × List ℕ)) (k j : Kept) → is_others side j.port.wait ≡ false → of_side side j ≡ of_side side k →
    SameShare side history k (leaving side history k) j
isolated side history k j free same =
    let fewer = share_is_a_laptops side (leaving side history k) j in
    let all = share_is_a_laptops side history k in
    let still = ap one_sided_all (stays side history k j free) in (
      fewer.0 ∙ ap (λ (x : List (LaptopCall × List ℕ)). laptop_kept_after x (of_side side j)) still ∙
          ap (laptop_kept_after (one_sided_all (leaving side history k))) same ∙ sym all.0,
      fewer.1 ∙ ap (λ (x : List (LaptopCall × List ℕ)). laptop_answers x (of_side side j)) still ∙
          ap (laptop_answers (one_sided_all (leaving side history k))) same ∙ sym all.1,
    )

-- as 02 has it: while no call for the side is refused 7, nothing need be left out but the other side's events
only_others : (side : Side) (history : List (Call × List ℕ)) (k : Kept) → NoneRefusedSeven side history k → without_others side history k ≡ leaving side history k
unfolding leaving without_others
only_others side [] k none = refl
only_others side (c ∷ rest) k none =
    go (only_others side rest (kept_by_of c.0 c.1 k) none.1) (is_others_call side c.0 k.port.wait) refl (is_blocked side c.0 k) refl
  where
    after : Kept
    after = kept_by_of c.0 c.1 k

    go : without_others side rest after ≡ leaving side rest after → (t : Bool) → is_others_call side c.0 k.port.wait ≡ t → (b : Bool) → is_blocked side c.0 k ≡ b →
        cond t (without_others side rest after) (c ∷ without_others side rest after) ≡ cond (t || b) (leaving side rest after) (c ∷ leaving side rest after)
    go deeper true e b f = deeper
    go deeper false e true f = absurd (none.0 e (blocked_changes_nothing side c.0 c.1 k e f).1)
    go deeper false e false f = ap (λ (x : List (Call × List ℕ)). c ∷ x) deeper

pub isolated_as_02 : (side : Side) (history : List (Call × List ℕ)) (k j : Kept) → is_others side j.port.wait ≡ false → of_side side j ≡ of_side side k →
    NoneRefusedSeven side history k → SameShare side history k (without_others side history k) j
isolated_as_02 side history k j free same none =
    subst (λ (x : List (Call × List ℕ)). SameShare side history k x j) (sym (only_others side history k none)) (isolated side history k j free same)
