-- What reading an event keeps, for whoever stands above.
use mathlib.Core.Path.{◌≡◌, refl, ap, ap₂, sym, ◌∙◌}
use mathlib.Core.Bool.{Bool, true, false, cond}
use mathlib.Core.List.{List, [], ◌∷◌, ◌++◌, map}
use Prim.Native.Nat.{ℕ, suc, ◌+◌, ◌<◌, ◌≤◌}
use native.Mathlib.Omega.{arith}
use lib.Dec.{leb, eqb}
use lib.ListN.{length, length-append, get_or-append}
use borrow.Author.Tests.{leb-true, le-leb, eqb-true}
use Rattle.port.specs.declared.Side.{Side}
use Rattle.port.specs.declared.Side.TheVariants.{Partner, Cable}
use Rattle.events.specs.Events.{is_message, names_mode, says_side, without_side, is_known, partners_length, body_length, mode_in, call_of, event_on, event_of, event_in}
use Rattle.events.specs.declared.Event.{Event}
use Rattle.events.specs.declared.Missing.{Missing}
use Rattle.events.specs.declared.Missing.TheVariants.{Unknown, Cut}
use Rattle.std.specs.Prelude.{Result, Ok, Err}
use Rattle.events.proofs.Bodies.{length_most}
use Rattle.events.proofs.Sides.{side_partner, side_cable, without_partner, without_cable, known_cable}

-- a result that the promise allows is the only one
pub read_only : (bytes : List ℕ) (r r' : Result (Event × ℕ) Missing) → r ≡ event_in bytes → r' ≡ event_in bytes → r ≡ r'
read_only bytes r r' e e' = e ∙ sym e'

-- what the two tests of a kind lead to
abbrev outcome : (known fits : Bool) → Event → ℕ → Result (Event × ℕ) Missing
outcome known fits event n = cond known (cond fits (Ok (event, n)) (Err Cut)) (Err Unknown)

-- an event has at least its kind, at most a message of seven objects, and lies within the bytes
pub whole_length : (bytes : List ℕ) (event : Event) (n : ℕ) → event_in bytes ≡ Ok (event, n) → (1 ≤ n) × (n ≤ 29) × (n ≤ length bytes)
unfolding body_length event_in
whole_length [] event n e = cc
whole_length (kind ∷ rest) event n e = go (is_known kind) (leb (body_length kind) (length rest)) refl e
  where
    go : (known fits : Bool) → leb (body_length kind) (length rest) ≡ fits →
        outcome known fits (event_of kind rest) (1 + body_length kind) ≡ Ok (event, n) →
        (1 ≤ n) × (n ≤ 29) × (n ≤ suc (length rest))
    go false fits t h = cc
    go true false t h = cc
    go true true t h =
        let whole : ◌≡◌ {A = Event × ℕ} (event_of kind rest, 1 + body_length kind) (event, n) = cc in
        let size = ap (λ (found : Event × ℕ). found.1) whole in
        let most = length_most (without_side kind) in
        let within = leb-true (body_length kind) (length rest) t in
        (omega arith, omega arith, omega arith)

-- reading an event or an unknown kind depends on nothing behind it
mode_more : (body more : List ℕ) → 3 ≤ length body → mode_in (body ++ more) ≡ mode_in body
unfolding mode_in
mode_more body more h =
    simp (get_or-append body more 0 0 (omega arith), get_or-append body more 0 1 (omega arith), get_or-append body more 0 2 (omega arith))

call_more : (kind : ℕ) (body more : List ℕ) → partners_length kind ≤ length body → call_of kind (body ++ more) ≡ call_of kind body
unfolding is_message names_mode partners_length call_of
call_more kind body more h = go (eqb kind 71) (eqb kind 72) refl refl
  where
    go : (enter exit : Bool) → eqb kind 71 ≡ enter → eqb kind 72 ≡ exit → call_of kind (body ++ more) ≡ call_of kind body
    go true exit e e' = simp (mode_more body more (omega (arith, ap partners_length (eqb-true kind 71 e))))
    go false true e e' = simp (mode_more body more (omega (arith, ap partners_length (eqb-true kind 72 e'))))
    go false false e e' = simp (e, e')

event_more : (kind : ℕ) (body more : List ℕ) → body_length kind ≤ length body → event_of kind (body ++ more) ≡ event_of kind body
unfolding body_length event_on event_of
event_more kind body more h = simp (call_more (without_side kind) body more h)

pub whole_more : (bytes more : List ℕ) (event : Event) (n : ℕ) → event_in bytes ≡ Ok (event, n) → event_in (bytes ++ more) ≡ event_in bytes
unfolding event_in
whole_more [] more event n e = cc
whole_more (kind ∷ rest) more event n e = go (is_known kind) (leb (body_length kind) (length rest)) refl refl e
  where
    go : (known fits : Bool) → is_known kind ≡ known → leb (body_length kind) (length rest) ≡ fits →
        outcome known fits (event_of kind rest) (1 + body_length kind) ≡ Ok (event, n) →
        event_in (kind ∷ (rest ++ more)) ≡ event_in (kind ∷ rest)
    go false fits k t h = cc
    go true false k t h = cc
    go true true k t h =
        let within = leb-true (body_length kind) (length rest) t in
        simp (k, t, le-leb (body_length kind) (length (rest ++ more)) (omega (arith, length-append rest more)), event_more kind rest more within)

pub unknown_more : (bytes more : List ℕ) → event_in bytes ≡ Err Unknown → event_in (bytes ++ more) ≡ event_in bytes
unfolding event_in
unknown_more [] more e = cc
unknown_more (kind ∷ rest) more e = go (is_known kind) (leb (body_length kind) (length rest)) refl e
  where
    go : (known fits : Bool) → is_known kind ≡ known →
        outcome known fits (event_of kind rest) (1 + body_length kind) ≡ Err Unknown →
        event_in (kind ∷ (rest ++ more)) ≡ event_in (kind ∷ rest)
    go false fits k h = rw k
    go true true k h = cc
    go true false k h = cc

-- a cable's kind is a partner's that says a side, with 0x80 added, and its event is the same on the other side
without_added : (kind : ℕ) → without_side (0x80 + kind) ≡ kind
without_added kind = let e = without_cable (0x80 + kind) (omega arith) in omega arith

pub cable_known : (kind : ℕ) → is_known (0x80 + kind) ≡ says_side kind
cable_known kind = known_cable (0x80 + kind) (omega arith) ∙ ap says_side (without_added kind)

pub cable_event : (kind : ℕ) (body : List ℕ) → event_of (0x80 + kind) body ≡ event_on Cable kind body
unfolding event_of
cable_event kind body =
    ap₂ (λ (side : Side) (k : ℕ). event_on side k body) (side_cable (0x80 + kind) (omega arith)) (without_added kind)

pub partner_event : (kind : ℕ) (body : List ℕ) → kind < 0x80 → event_of kind body ≡ event_on Partner kind body
unfolding event_of
partner_event kind body h =
    ap₂ (λ (side : Side) (k : ℕ). event_on side k body) (side_partner kind h) (without_partner kind h)

-- 0x80, 0x88, and the timers and the protocol error with 0x80 added, are no kinds
pub no_kinds : map is_known (0x80 ∷ 0x88 ∷ 0xC3 ∷ 0xC4 ∷ 0xC5 ∷ 0xC6 ∷ []) ≡ false ∷ false ∷ false ∷ false ∷ false ∷ false ∷ []
unfolding is_message names_mode says_side without_side is_known
no_kinds = refl
