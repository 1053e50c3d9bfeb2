-- What a walk has passed is a beginning of what it comes to.
use mathlib.Core.Path.{◌≡◌, refl, ap, sym, ◌∙◌, subst}
use mathlib.Core.Bool.{true}
use mathlib.Core.List.{List, [], ◌∷◌, ◌++◌, append-nil, append_assoc}
use Prim.Native.Nat.{ℕ, zero, suc, ◌+◌, ◌<◌}
use native.Mathlib.Omega.{arith}
use lib.ListN.{length, drop}
use borrow.Author.Tests.{eqb-true}
use Rattle.laptop.specs.Catalogue.{Entry, Catalogue}
use Rattle.records.specs.declared.Record.{Record}
use Rattle.records.specs.declared.Record.TheVariants.{Identity, Svid, Mode, End}
use Rattle.judging.specs.Judging.{Judgement, ended, walk_from, judgement_of}
use Rattle.judging.specs.Walking.{walk_of, may_follow, with_mode, added}
use Rattle.catalogue_laws.specs.Given.{Passed}
use Rattle.catalogue_laws.proofs.Given.{underway}
use Rattle.catalogue_laws.proofs.Steps.{turn_short, follows, Step, step}
use Rattle.catalogue_laws.proofs.Steps.Step.{unknown, short, wrong, end, on}
use Rattle.catalogue_laws.proofs.Turns.{turn_unknown, turn_wrong, turn_end, turn_on}
use Rattle.mending.specs.Beginning.{FewerModes, Begins}
use Rattle.mending.specs.Mending.{without_bare}
use Rattle.mending.proofs.Leaving.{Left, all, before, left}

-- the order of beginnings
all_modes : (entry : Entry) → FewerModes entry entry
all_modes entry = record { svid_same = refl; others = []; modes_are = sym (append-nil entry.modes) }

pub begins_all : (a : List Entry) → Begins a a
begins_all [] = tt
begins_all (entry ∷ []) = all_modes entry
begins_all (entry ∷ next ∷ a) = (refl, begins_all (next ∷ a))

fewer_still : {x y z : Entry} → FewerModes x y → FewerModes y z → FewerModes x z
fewer_still {x} {y} {z} f g = record {
  svid_same = f.svid_same ∙ g.svid_same;
  others = f.others ++ g.others;
  modes_are = g.modes_are ∙ ap (λ (l : List ℕ). l ++ g.others) f.modes_are ∙ append_assoc x.modes f.others g.others;
}

pub begins_further : (a b c : List Entry) → Begins a b → Begins b c → Begins a c
begins_further [] b c f g = tt
begins_further (x ∷ a) [] c f g = absurd f
begins_further (x ∷ a) (y ∷ b) [] f g = absurd g
begins_further (x ∷ []) (y ∷ []) (z ∷ c) f g = fewer_still f g
begins_further (x ∷ []) (y ∷ q ∷ b) (z ∷ c) f g = subst (FewerModes x) g.0 f
begins_further (x ∷ p ∷ a) (y ∷ []) (z ∷ c) f g = absurd f.1
begins_further (x ∷ p ∷ a) (y ∷ q ∷ b) (z ∷ c) f g = (f.0 ∙ g.0, begins_further (p ∷ a) (q ∷ b) c f.1 g.1)

-- one SVID more, one mode more, and one SVID left out
begins_behind : (a : List Entry) (entry : Entry) → Begins a (a ++ entry ∷ [])
begins_behind [] entry = tt
begins_behind (x ∷ []) entry = all_modes x
begins_behind (x ∷ y ∷ a) entry = (refl, begins_behind (y ∷ a) entry)

begins_mode : (a : List Entry) (mode : ℕ) → Begins a (with_mode a mode)
unfolding with_mode
begins_mode [] mode = tt
begins_mode (x ∷ []) mode = record { svid_same = refl; others = mode ∷ []; modes_are = refl }
begins_mode (x ∷ y ∷ a) mode = (refl, begins_mode (y ∷ a) mode)

pub begins_without : (a : List Entry) → Begins (without_bare a) a
begins_without a = go (left a)
  where
    go : Left a → Begins (without_bare a) a
    go (all e some) = subst (λ (l : List Entry). Begins l a) (sym e) (begins_all a)
    go (before b last is none e) = subst (λ (l : List Entry). Begins l a) (sym e) (subst (Begins b) (sym is) (begins_behind b last))

-- an identity stays, and the entries begin those that come
pub record Grows (c later : Catalogue) : Type 0 where
  pub identity_stays : 0 < length c.identity → c.identity ≡ later.identity
  pub entries_begin : Begins c.entries later.entries

grows_same : (c : Catalogue) → Grows c c
grows_same c = record { identity_stays = λ some. refl; entries_begin = begins_all c.entries }

grows_further : {a b c : Catalogue} → Grows a b → Grows b c → Grows a c
grows_further {a} {b} {c} f g = record {
  identity_stays = λ some. let e = f.identity_stays some in e ∙ g.identity_stays (omega (arith, some, ap length e));
  entries_begin = begins_further a.entries b.entries c.entries f.entries_begin g.entries_begin;
}

grows_added : (at : ℕ) (c : Catalogue) (bytes : List ℕ) (r : Record) → follows at c r ≡ true → Grows c (added c r bytes)
unfolding added may_follow walk_of
grows_added at c bytes (Identity objects) f = record {
  identity_stays = λ some. absurd (omega (arith, some, eqb-true (length c.identity) 0 f));
  entries_begin = begins_all c.entries;
}
grows_added at c bytes (Svid svid) f =
    record { identity_stays = λ some. refl; entries_begin = begins_behind c.entries (record { svid = svid; modes = [] }) }
grows_added at c bytes (Mode mode) f = record { identity_stays = λ some. refl; entries_begin = begins_mode c.entries mode }
grows_added at c bytes End f = grows_same c

ended_same : (at : ℕ) (c : Catalogue) (rest : List ℕ) → (ended at c rest).catalogue ≡ c
unfolding ended
ended_same at c [] = refl
ended_same at c (byte ∷ rest) = refl

abbrev GrowsFrom : ℕ → Type 0
GrowsFrom records = (at : ℕ) (c : Catalogue) (bytes : List ℕ) → Grows c (walk_from records at c bytes).catalogue

grows_from : (records : ℕ) → GrowsFrom records
unfolding walk_from
grows_from zero at c bytes = grows_same c
grows_from (suc records) at c bytes = go (step at c bytes) (grows_from records)
  where
    to : (j : Judgement) → walk_from (suc records) at c bytes ≡ j → Grows c j.catalogue → Grows c (walk_from (suc records) at c bytes).catalogue
    to j e g = subst (λ (x : Judgement). Grows c x.catalogue) (sym e) g

    go : Step at c bytes → GrowsFrom records → Grows c (walk_from (suc records) at c bytes).catalogue
    go (unknown e) further = to _ (turn_unknown records at c bytes e) (grows_same c)
    go (short e) further = to _ (turn_short records at c bytes e) (grows_same c)
    go (wrong r n e f) further = to _ (turn_wrong records at c bytes r n e f) (grows_same c)
    go (end n e f) further =
        to _ (turn_end records at c bytes End n e f refl) (subst (Grows c) (sym (ended_same (at + n) c (drop n bytes))) (grows_same c))
    go (on r n e f is) further =
        to _ (turn_on records at c bytes r n e f is) (grows_further (grows_added at c bytes r f) (further (at + n) (added c r bytes) (drop n bytes)))

-- what was passed begins what the file is judged to have
pub passed_grows : (bytes : List ℕ) {at : ℕ} {c : Catalogue} → Passed bytes at c → Grows c (judgement_of bytes).catalogue
passed_grows bytes {at} {c} p =
    let u = underway bytes p in
    subst (λ (j : Judgement). Grows c j.catalogue) (sym u.same) (grows_from (suc u.left) at c (drop at bytes))
