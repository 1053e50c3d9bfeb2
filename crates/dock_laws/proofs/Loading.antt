-- The refusals of loading, of "sent" and of "failed".
use mathlib.Core.Path.{◌≡◌, refl, ap, sym, ◌∙◌}
use mathlib.Core.Bool.{Bool, true, false, cond, false≢true}
use mathlib.Core.List.{List}
use Prim.Native.Nat.{ℕ}
use Rattle.dock.specs.Data.{good_data, loaded}
use Rattle.dock.specs.Dock.{Decision, refuses, accepts, step_of, decide_load, decide_sent, decide_failed}
use Rattle.dock.specs.declared.Dock.{Dock}
use Rattle.dock.specs.declared.Standing.{Standing}
use Rattle.dock.specs.declared.Standing.TheVariants.{Ready, Asking, Sending}
use Rattle.dock.proofs.Decisions.{load_bad}
use Rattle.dock_laws.specs.Given.{GivenToLoad, not_ready, breaks_limits, GivenToConfirmation, not_sending}
use Rattle.dock_laws.proofs.Limits.{limits_exactly}

-- where a dock stands
abbrev is_ready : Standing → Bool
is_ready Ready = true
is_ready (Asking r) = false
is_ready (Sending is_page) = false

abbrev is_sending : Standing → Bool
is_sending Ready = false
is_sending (Asking r) = false
is_sending (Sending is_page) = true

-- what a test tells apart is different
pub clash : {A : Type 0} (test : A → Bool) (a b c : A) → a ≡ b → a ≡ c → test b ≡ false → test c ≡ true → ⊥
clash test a b c e f no_b yes_c = false≢true (sym no_b ∙ sym (ap test e) ∙ ap test f ∙ yes_c)

module _ (d : Dock) (number : ℕ) (some : number ≡ 0 → ⊥) where
  -- loading
  module _ (identity svids : List ℕ) where
    pub load_given : (step_of d (decide_load d d.standing identity svids) 0).refusal ≡ number → GivenToLoad d identity svids number
    unfolding step_of decide_load
    load_given = go d.standing refl
      where
        data_given : (t : Bool) → good_data identity svids ≡ t → d.standing ≡ Ready →
            (step_of d (cond t (accepts (loaded d.edition identity svids)) (refuses 10)) 0).refusal ≡ number → GivenToLoad d identity svids number
        data_given true e ready h = absurd (some (sym h))
        data_given false e ready h = breaks_limits (sym h) ready ((limits_exactly identity svids).0 e)

        go : (s : Standing) → d.standing ≡ s → (step_of d (decide_load d s identity svids) 0).refusal ≡ number → GivenToLoad d identity svids number
        go Ready e h = data_given (good_data identity svids) refl e h
        go (Asking r) e h = not_ready (sym h) (λ z. clash is_ready d.standing (Asking r) Ready e z refl refl)
        go (Sending is_page) e h = not_ready (sym h) (λ z. clash is_ready d.standing (Sending is_page) Ready e z refl refl)

    pub load_refused : GivenToLoad d identity svids number → (step_of d (decide_load d d.standing identity svids) 0).refusal ≡ number
    unfolding step_of decide_load
    load_refused (not_ready is none) = go d.standing refl
      where
        go : (s : Standing) → d.standing ≡ s → (step_of d (decide_load d s identity svids) 0).refusal ≡ number
        go Ready e = absurd (none e)
        go (Asking r) e = sym is
        go (Sending is_page) e = sym is
    load_refused (breaks_limits is ready broken) =
        ap (λ (x : Decision). (step_of d x 0).refusal) (load_bad identity svids d d.standing ready ((limits_exactly identity svids).1 broken)) ∙ sym is

  -- "sent" and "failed"
  pub sent_given : (step_of d (decide_sent d d.standing) 0).refusal ≡ number → GivenToConfirmation d number
  unfolding step_of decide_sent
  sent_given = go d.standing refl
    where
      go : (s : Standing) → d.standing ≡ s → (step_of d (decide_sent d s) 0).refusal ≡ number → GivenToConfirmation d number
      go Ready e h = not_sending (sym h) (λ p z. clash is_sending d.standing Ready (Sending p) e z refl refl)
      go (Asking r) e h = not_sending (sym h) (λ p z. clash is_sending d.standing (Asking r) (Sending p) e z refl refl)
      go (Sending is_page) e h = absurd (some (sym h))

  pub failed_given : (step_of d (decide_failed d d.standing) 0).refusal ≡ number → GivenToConfirmation d number
  unfolding step_of decide_failed
  failed_given = go d.standing refl
    where
      go : (s : Standing) → d.standing ≡ s → (step_of d (decide_failed d s) 0).refusal ≡ number → GivenToConfirmation d number
      go Ready e h = not_sending (sym h) (λ p z. clash is_sending d.standing Ready (Sending p) e z refl refl)
      go (Asking r) e h = not_sending (sym h) (λ p z. clash is_sending d.standing (Asking r) (Sending p) e z refl refl)
      go (Sending is_page) e h = absurd (some (sym h))

  pub confirmation_refused : GivenToConfirmation d number →
      ((step_of d (decide_sent d d.standing) 0).refusal ≡ number) × ((step_of d (decide_failed d d.standing) 0).refusal ≡ number)
  unfolding step_of decide_sent decide_failed
  confirmation_refused (not_sending is none) = go d.standing refl
    where
      go : (s : Standing) → d.standing ≡ s → ((step_of d (decide_sent d s) 0).refusal ≡ number) × ((step_of d (decide_failed d s) 0).refusal ≡ number)
      go Ready e = (sym is, sym is)
      go (Asking r) e = (sym is, sym is)
      go (Sending is_page) e = absurd (none is_page e)
