-- The two sides keep to themselves (02, R-4): one call, in any state.
use mathlib.Core.Path.{◌≡◌, refl, ap, sym, ◌∙◌}
use mathlib.Core.Bool.{Bool, true, false, not, ◌&&◌, ◌||◌, false≢true}
use mathlib.Core.List.{List}
use Prim.Native.Nat.{ℕ}
use lib.ListN.{length}
use Rattle.messages.specs.Reading.{read_outcome}
use Rattle.laptop.specs.Calls.{Decision, refused_by, step_of, buffer_of, unless, short_runs}
use Rattle.laptop.specs.State.{Memory}
use Rattle.laptop.specs.declared.Laptop.{Laptop}
use Rattle.std.specs.Prelude.{Option, None, Some}
use Rattle.messages.specs.declared.request.Request.{Request}
use Rattle.owner.specs.Owner.{owner_refusal, asking_refusal, decide_next, decide_start_over, decide_drop, decide_enter, decide_exit}
use Rattle.timers.specs.Timers.{decide_timer, decide_error}
use Rattle.laptop_laws.specs.Effects.{timer as laptop_timer}
use Rattle.laptop_laws.specs.Effects.{protocol_error as laptop_protocol_error}
use Rattle.laptop_laws.specs.Effects.{decided}
use Rattle.laptop_laws.specs.Effects.{effect_of as laptop_effect_of}
use Rattle.laptop_laws.specs.Effects.{Effect as LaptopEffect}
use Rattle.port.specs.Calls.{is_waiting, owners_refusal, waiting_side}
use Rattle.port.specs.Sides.{Wait, same_side, is_others, seen, put_back, stepped_on}
use Rattle.port.specs.declared.Port.{Port}
use Rattle.port.specs.declared.Side.{Side}
use Rattle.port.specs.declared.Side.TheVariants.{Partner, Cable}
use Rattle.port_laws.specs.Effects.{Call, message, next, start_over, drop, enter, exit, timer, protocol_error, one_sided, concerns, is_owners, Effect, decided_on, effect_of, on_side, effect_seen, Kept, memory_of, of_side, kept_on, effect_in, kept_by_of, answer_of, answer_on_side}
use Rattle.port_laws.specs.Leaving.{is_others_call, is_blocked, is_left_out, laptop_by}
use Rattle.port_laws.proofs.Seeing.{message_idle, effect_seen_lem, refused_nine, timer_nine, error_nine}
use Rattle.port.proofs.Seeing.{put_seen}
use Rattle.port_laws.proofs.Sides.{other_unchanged, seen_put, seen_put_idle, idle_seen, nothing_seen, same_side_lem, Waits, own_waits, other_waits, none_waits, waits}

-- a call on a side leaves the other's memory, and puts its own
memory_own : (s : Side) (e : Effect) (k : Kept) → memory_of s (kept_on s e k) ≡ e.after
memory_own Partner e k = refl
memory_own Cable e k = refl

memory_other : (s t : Side) (e : Effect) (k : Kept) → same_side s t ≡ false → memory_of t (kept_on s e k) ≡ memory_of t k
memory_other Partner Partner e k f = absurd (false≢true (sym f))
memory_other Partner Cable e k f = refl
memory_other Cable Partner e k f = refl
memory_other Cable Cable e k f = absurd (false≢true (sym f))

pub port_on : (s : Side) (e : Effect) (k : Kept) → (kept_on s e k).port ≡ e.step.port
port_on Partner e k = refl
port_on Cable e k = refl

kept_same : (s : Side) (k : Kept) (e : Effect) → e.step.port ≡ k.port → e.after ≡ memory_of s k → kept_on s e k ≡ k
kept_same Partner k e f g = rw (f, g)
kept_same Cable k e f g = rw (f, g)

shared : (side : Side) (j k : Kept) → seen side j.port ≡ seen side k.port → memory_of side j ≡ memory_of side k → of_side side j ≡ of_side side k
shared side j k e f = ap (λ (l : Laptop). record { laptop = l; memory = memory_of side j }) e ∙ ap (λ (m : Memory). record { laptop = seen side k.port; memory = m }) f

-- the effect on a side is always put back on that side
pub put_on : (c : Call) (p : Port) (m : Memory) (out : List ℕ) → (l : Laptop) × ((effect_of c p m out).step.port ≡ put_back (concerns c p.wait) l p)
put_on (message s bytes) p m out = (_, refl)
put_on (next s) p m out = (_, refl)
put_on (start_over s) p m out = (_, refl)
put_on (drop s) p m out = (_, refl)
put_on (enter s svid position) p m out = (_, refl)
put_on (exit s svid position) p m out = (_, refl)
put_on (timer first last) p m out = (_, refl)
put_on protocol_error p m out = (_, refl)

pub not_same : (t : Bool) → not t ≡ true → t ≡ false
not_same true e = sym e
not_same false e = refl

waiting_other : (side : Side) (w : Wait) → is_others side w ≡ true → same_side (waiting_side w) side ≡ false
waiting_other side w e = go (waits side w)
  where
    go : Waits side w → same_side (waiting_side w) side ≡ false
    go (own_waits f g) = absurd (false≢true (sym g ∙ e))
    go (other_waits f g) = f
    go (none_waits f) = absurd (false≢true (sym (ap (is_others side) f) ∙ e))

-- an event of the other side concerns the other side
pub concerns_other : (side : Side) (c : Call) (w : Wait) → is_others_call side c w ≡ true → same_side (concerns c w) side ≡ false
concerns_other side (message s bytes) w e = not_same (same_side s side) e
concerns_other side (next s) w e = not_same (same_side s side) e
concerns_other side (start_over s) w e = not_same (same_side s side) e
concerns_other side (drop s) w e = not_same (same_side s side) e
concerns_other side (enter s svid position) w e = not_same (same_side s side) e
concerns_other side (exit s svid position) w e = not_same (same_side s side) e
concerns_other side (timer first last) w e = waiting_other side w e
concerns_other side protocol_error w e = waiting_other side w e

module _ (side : Side) (c : Call) (out : List ℕ) (k : Kept) where
  -- ONE CALL. The other side's leaves a side as it was, whatever the state
  pub others_change_nothing : is_others_call side c k.port.wait ≡ true → of_side side (kept_by_of c out k) ≡ of_side side k
  others_change_nothing e =
      let away = concerns_other side c k.port.wait e in
      let put = put_on c k.port (memory_of (concerns c k.port.wait) k) out in
      shared side _ _
      (ap (seen side) (port_on (concerns c k.port.wait) (effect_in c out k) k ∙ put.1) ∙ other_unchanged (concerns c k.port.wait) side put.0 k.port away)
      (memory_other (concerns c k.port.wait) side (effect_in c out k) k away)

-- a call that concerns a side and is not blocked, where a laptop of 01 that awaits nothing would await nothing
module _ (side : Side) (c : Call) (out : List ℕ) (k : Kept) where
  abbrev l : Laptop
  l = seen side k.port

  abbrev m : Memory
  m = memory_of side k

  abbrev one : LaptopEffect
  one = laptop_effect_of (one_sided c) l m out

  abbrev pub AsLaptop : Type 0
  AsLaptop = (of_side side (kept_by_of c out k) ≡ laptop_by (one_sided c) out (of_side side k)) × (answer_of (effect_in c out k) ≡ answer_on_side one)

  effect_is : concerns c k.port.wait ≡ side → is_blocked side c k ≡ false → effect_in c out k ≡ on_side side k.port one
  effect_is at free =
      ap (λ (s : Side). effect_of c k.port (memory_of s k) out) at ∙ effect_seen_lem side k.port m out c at free

  module _ (at : concerns c k.port.wait ≡ side) (free : is_blocked side c k ≡ false)
      (idle : is_others side k.port.wait ≡ true → one.step.laptop.wait ≡ None) where
    seen_after : seen side (put_back side one.step.laptop k.port) ≡ one.step.laptop
    seen_after = go (is_others side k.port.wait) refl
      where
        go : (t : Bool) → is_others side k.port.wait ≡ t → seen side (put_back side one.step.laptop k.port) ≡ one.step.laptop
        go true e = seen_put_idle side one.step.laptop k.port e (idle e)
        go false e = seen_put side one.step.laptop k.port e

    seen_effect : effect_seen side (effect_in c out k) ≡ one
    seen_effect =
        ap (effect_seen side) (effect_is at free) ∙
        ap (λ (x : Laptop). record {
          step = record { refusal = one.step.refusal; length = one.step.length; told = one.step.told; laptop = x };
          after = one.after;
          buffer = one.buffer;
        }) seen_after

    at_side : AsLaptop
    at_side = (
      ap (of_side side) kept ∙ ap (λ (x : Port). record { laptop = seen side x; memory = memory_of side (kept_on side put k) }) (port_on side put k) ∙
          ap (λ (x : Laptop). record { laptop = x; memory = memory_of side (kept_on side put k) }) seen_after ∙
          ap (λ (x : Memory). record { laptop = one.step.laptop; memory = x }) (memory_own side put k),
      ap answer_of (effect_is at free),
    )
      where
        put : Effect
        put = on_side side k.port one

        kept : kept_by_of c out k ≡ kept_on side put k
        kept = ap (λ (s : Side). kept_on s (effect_in c out k) k) at ∙ ap (λ (e : Effect). kept_on side e k) (effect_is at free)

-- an owner's call with a short run leaves the laptop as it was
short_leaves : (c : Call) (l : Laptop) (m : Memory) (out : List ℕ) → is_owners c ≡ true → short_runs (length m.run) (length m.held_run) ≡ true →
    (laptop_effect_of (one_sided c) l m out).step.laptop ≡ l
unfolding decide_next decide_start_over decide_drop decide_enter decide_exit asking_refusal owner_refusal unless step_of
short_leaves (message s bytes) l m out o e = absurd (false≢true o)
short_leaves (next s) l m out o e = rw e
short_leaves (start_over s) l m out o e = rw e
short_leaves (drop s) l m out o e = rw e
short_leaves (enter s svid position) l m out o e = rw e
short_leaves (exit s svid position) l m out o e = rw e
short_leaves (timer first last) l m out o e = absurd (false≢true o)
short_leaves protocol_error l m out o e = absurd (false≢true o)

-- where the other waits, such a call of the side leaves it awaiting nothing
owners_idle : (side : Side) (c : Call) (out : List ℕ) (k : Kept) → is_owners c ≡ true → is_blocked side c k ≡ false → is_others side k.port.wait ≡ true →
    (laptop_effect_of (one_sided c) (seen side k.port) (memory_of side k) out).step.laptop.wait ≡ None
owners_idle side c out k o free others =
    ap (λ (x : Laptop). x.wait) (short_leaves c (seen side k.port) (memory_of side k) out o
    (short (is_owners c) (is_others side k.port.wait) (short_runs (length (memory_of side k).run) (length (memory_of side k).held_run)) o others free)) ∙
    idle_seen side k.port others
  where
    short : (a b t : Bool) → a ≡ true → b ≡ true → a && (b && not t) ≡ false → t ≡ true
    short a b true e f g = refl
    short true true false e f g = absurd (false≢true (sym g))
    short true false false e f g = absurd (false≢true f)
    short false b false e f g = absurd (false≢true e)

-- a timer or the protocol error while nothing is awaited
module _ (side : Side) (out : List ℕ) (k : Kept) (none : k.port.wait ≡ None) where
  pub idle_kept : (e : Effect) → e ≡ refused_nine k.port k.partner out → kept_on Partner e k ≡ k
  idle_kept e f = ap (λ (x : Effect). kept_on Partner x k) f ∙ kept_same Partner k (refused_nine k.port k.partner out) (put_seen Partner k.port) refl

  idle_as_laptop : (c : Call) → concerns c k.port.wait ≡ Partner → effect_of c k.port k.partner out ≡ refused_nine k.port k.partner out →
      laptop_effect_of (one_sided c) (seen side k.port) (memory_of side k) out ≡
      record { step = refused_by 9 (seen side k.port); after = memory_of side k; buffer = out } →
      AsLaptop side c out k
  idle_as_laptop c at e f = (
    ap (of_side side) (ap (λ (s : Side). kept_on s (effect_of c k.port (memory_of s k) out) k) at ∙ idle_kept _ e) ∙
        sym (ap (λ (x : LaptopEffect). record { laptop = x.step.laptop; memory = x.after }) f),
    ap answer_of (ap (λ (s : Side). effect_of c k.port (memory_of s k) out) at ∙ e) ∙ sym (ap answer_on_side f),
  )

  nine_timer : (first last : ℕ) → laptop_effect_of (laptop_timer first last) (seen side k.port) (memory_of side k) out ≡
      record { step = refused_by 9 (seen side k.port); after = memory_of side k; buffer = out }
  unfolding decide_timer step_of buffer_of
  nine_timer first last = ap (λ (w : Option Request). decided (seen side k.port) (memory_of side k) out (decide_timer first last (seen side k.port) w)) (nothing_seen side k.port none)

  nine_error : laptop_effect_of laptop_protocol_error (seen side k.port) (memory_of side k) out ≡
      record { step = refused_by 9 (seen side k.port); after = memory_of side k; buffer = out }
  unfolding decide_error step_of buffer_of
  nine_error = ap (λ (w : Option Request). decided (seen side k.port) (memory_of side k) out (decide_error (seen side k.port) w)) (nothing_seen side k.port none)

pub own_side : (s side : Side) → not (same_side s side) ≡ false → s ≡ side
own_side s side e = same_side_lem s side (go (same_side s side) e)
  where
    go : (t : Bool) → not t ≡ false → t ≡ true
    go true e = refl
    go false e = sym e

pub parts : (a b : Bool) → a || b ≡ false → (a ≡ false) × (b ≡ false)
parts true b e = absurd (false≢true (sym e))
parts false b e = (refl, e)

pub kept_in : (side : Side) (c : Call) (k : Kept) → is_left_out side c k ≡ false → (is_others_call side c k.port.wait ≡ false) × (is_blocked side c k ≡ false)
kept_in side c k e = parts (is_others_call side c k.port.wait) (is_blocked side c k) e

-- where the other waits, a call of the side that is not left out leaves it awaiting nothing
own_idle : (side : Side) (c : Call) (out : List ℕ) (k : Kept) → is_left_out side c k ≡ false → concerns c k.port.wait ≡ side →
    is_others side k.port.wait ≡ true → (laptop_effect_of (one_sided c) (seen side k.port) (memory_of side k) out).step.laptop.wait ≡ None
own_idle side (message s bytes) out k e at o = message_idle (seen side k.port) (memory_of side k) (idle_seen side k.port o) (read_outcome bytes)
own_idle side (next s) out k e at o = owners_idle side (next s) out k refl (kept_in side (next s) k e).1 o
own_idle side (start_over s) out k e at o = owners_idle side (start_over s) out k refl (kept_in side (start_over s) k e).1 o
own_idle side (drop s) out k e at o = owners_idle side (drop s) out k refl (kept_in side (drop s) k e).1 o
own_idle side (enter s svid position) out k e at o = owners_idle side (enter s svid position) out k refl (kept_in side (enter s svid position) k e).1 o
own_idle side (exit s svid position) out k e at o = owners_idle side (exit s svid position) out k refl (kept_in side (exit s svid position) k e).1 o
own_idle side (timer first last) out k e at o = absurd (false≢true (sym (kept_in side (timer first last) k e).0 ∙ o))
own_idle side protocol_error out k e at o = absurd (false≢true (sym (kept_in side protocol_error k e).0 ∙ o))

-- ONE CALL. The side's own, unless it is refused 7 because the other waits, is 01's on what the side sees: state, memory, and answer
pub own_as_laptop : (side : Side) (c : Call) (out : List ℕ) (k : Kept) → is_left_out side c k ≡ false → AsLaptop side c out k
own_as_laptop side c out k e = go c e (waits side k.port.wait) (kept_in side c k e)
  where
    own : (c : Call) → is_left_out side c k ≡ false → concerns c k.port.wait ≡ side → is_blocked side c k ≡ false → AsLaptop side c out k
    own c e at free = at_side side c out k at free (own_idle side c out k e at)

    go : (c : Call) → is_left_out side c k ≡ false → Waits side k.port.wait → (is_others_call side c k.port.wait ≡ false) × (is_blocked side c k ≡ false) →
        AsLaptop side c out k
    go (message s bytes) e w f = own (message s bytes) e (own_side s side f.0) f.1
    go (next s) e w f = own (next s) e (own_side s side f.0) f.1
    go (start_over s) e w f = own (start_over s) e (own_side s side f.0) f.1
    go (drop s) e w f = own (drop s) e (own_side s side f.0) f.1
    go (enter s svid position) e w f = own (enter s svid position) e (own_side s side f.0) f.1
    go (exit s svid position) e w f = own (exit s svid position) e (own_side s side f.0) f.1
    go (timer first last) e (own_waits g h) f = own (timer first last) e g f.1
    go (timer first last) e (other_waits g h) f = absurd (false≢true (sym f.0 ∙ h))
    go (timer first last) e (none_waits g) f =
        idle_as_laptop side out k g (timer first last) (ap waiting_side g) (timer_nine k.port g k.partner out first last) (nine_timer side out k g first last)
    go protocol_error e (own_waits g h) f = own protocol_error e g f.1
    go protocol_error e (other_waits g h) f = absurd (false≢true (sym f.0 ∙ h))
    go protocol_error e (none_waits g) f =
        idle_as_laptop side out k g protocol_error (ap waiting_side g) (error_nine k.port g k.partner out) (nine_error side out k g)

-- and so the side sees it
pub own_seen : (side : Side) (c : Call) (out : List ℕ) (k : Kept) → is_left_out side c k ≡ false → concerns c k.port.wait ≡ side →
    effect_seen side (effect_in c out k) ≡ laptop_effect_of (one_sided c) (seen side k.port) (memory_of side k) out
own_seen side c out k e at = seen_effect side c out k at (kept_in side c k e).1 (own_idle side c out k e at)

-- ONE CALL. Refused 7 because the other side waits, it changes nothing at all
abbrev pub ChangesNothing : Call → List ℕ → Kept → Type 0
ChangesNothing c out k = (kept_by_of c out k ≡ k) × ((effect_in c out k).step.refusal ≡ 7)

module _ (side : Side) (out : List ℕ) (k : Kept) (others : is_others side k.port.wait ≡ true)
    (long : short_runs (length (memory_of side k).run) (length (memory_of side k).held_run) ≡ false) where
  abbrev refused_seven : Effect
  refused_seven = record { step = stepped_on side k.port (refused_by 7 (seen side k.port)); after = memory_of side k; buffer = out }

  waiting : is_waiting k.port.wait ≡ true
  waiting = go side k.port.wait others
    where
      go : (s : Side) (w : Wait) → is_others s w ≡ true → is_waiting w ≡ true
      go s None e = e
      go s (Some (named, r)) e = refl

  seven : (d : Decision) →
      decided_on side k.port (memory_of side k) out
      (unless (owners_refusal k.port (length (memory_of side k).run) (length (memory_of side k).held_run)) (seen side k.port) d) ≡
      refused_seven
  unfolding owners_refusal unless step_of buffer_of
  seven d = rw (long, waiting)

  seven_leaves : (c : Call) → concerns c k.port.wait ≡ side → effect_of c k.port (memory_of side k) out ≡ refused_seven → ChangesNothing c out k
  seven_leaves c at e = (
    ap (λ (s : Side). kept_on s (effect_of c k.port (memory_of s k) out) k) at ∙ ap (λ (x : Effect). kept_on side x k) e ∙
        kept_same side k refused_seven (put_seen side k.port) refl,
    ap (λ (s : Side). (effect_of c k.port (memory_of s k) out).step.refusal) at ∙ ap (λ (x : Effect). x.step.refusal) e,
  )

  owners_seven : (c : Call) → is_others_call side c k.port.wait ≡ false → is_owners c ≡ true → ChangesNothing c out k
  owners_seven (message s bytes) e o = absurd (false≢true o)
  owners_seven (next s) e o = seven_leaves (next s) (own_side s side e) (ap (λ (x : Side). effect_of (next x) k.port (memory_of side k) out) (own_side s side e) ∙ seven _)
  owners_seven (start_over s) e o = seven_leaves (start_over s) (own_side s side e) (ap (λ (x : Side). effect_of (start_over x) k.port (memory_of side k) out) (own_side s side e) ∙ seven _)
  owners_seven (drop s) e o = seven_leaves (drop s) (own_side s side e) (ap (λ (x : Side). effect_of (drop x) k.port (memory_of side k) out) (own_side s side e) ∙ seven _)
  owners_seven (enter s svid position) e o = seven_leaves (enter s svid position) (own_side s side e) (ap (λ (x : Side). effect_of (enter x svid position) k.port (memory_of side k) out) (own_side s side e) ∙ seven _)
  owners_seven (exit s svid position) e o = seven_leaves (exit s svid position) (own_side s side e) (ap (λ (x : Side). effect_of (exit x svid position) k.port (memory_of side k) out) (own_side s side e) ∙ seven _)
  owners_seven (timer first last) e o = absurd (false≢true o)
  owners_seven protocol_error e o = absurd (false≢true o)

pub blocked_changes_nothing : (side : Side) (c : Call) (out : List ℕ) (k : Kept) → is_others_call side c k.port.wait ≡ false → is_blocked side c k ≡ true →
    ChangesNothing c out k
blocked_changes_nothing side c out k e b =
    let f = all (is_owners c) (is_others side k.port.wait) (short_runs (length (memory_of side k).run) (length (memory_of side k).held_run)) b in
    owners_seven side out k f.1 f.2 c e f.0
  where
    all : (x y t : Bool) → x && (y && not t) ≡ true → (x ≡ true) × (y ≡ true) × (t ≡ false)
    all true true false e = (refl, refl, refl)
    all true true true e = absurd (false≢true e)
    all true false t e = absurd (false≢true e)
    all false y t e = absurd (false≢true e)
