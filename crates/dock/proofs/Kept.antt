-- The limits, kept by every decision.
use mathlib.Core.Logic.{inl, inr}
use mathlib.Core.Path.{◌≡◌, refl, ap, sym, ◌∙◌}
use mathlib.Core.Bool.{Bool, true, false, cond, not, ◌&&◌}
use mathlib.Core.List.{List, [], ◌++◌}
use Prim.Native.Nat.{ℕ, ◌+◌, ◌*◌, ◌/◌, ◌≤◌}
use native.Mathlib.Omega.{arith}
use lib.Dec.{leb, eqb}
use lib.ListN.{length, take, length-take, length-drop}
use lib.Seq.{take-append_seam}
use borrow.Author.Tests.{ltb-false, leb-true}
use Rattle.laws.specs.Padded.{padded}
use Rattle.laws.proofs.Lines.{and_left, and_right}
use Rattle.laws.proofs.Padded.{padded_at}
use Rattle.messages.specs.Editions.{ours, lower}
use Rattle.messages.specs.Layout.{req, nak, Message, message_length}
use Rattle.messages.specs.Table.{shape, one_to_five}
use Rattle.messages.specs.Reading.{Outcome, accepted, refused}
use Rattle.messages.specs.Writing.{well_shaped, write_refusal}
use Rattle.messages.specs.declared.Head.{Head}
use Rattle.messages.specs.declared.edition.Edition.{Edition}
use Rattle.pages.specs.Pages.{remaining, is_last}
use Rattle.pages.specs.Lists.{sound_list}
use Rattle.dock.specs.Data.{listed, good_identity, good_data, fresh_dock, loaded, with_page, with_standing, with_edition}
use Rattle.dock.specs.Dock.{Decision, refuses, accepts, sends, refused_by, accepted_by, step_of, decide_load, reply, asking, sending, decide_request, spoken_to, decide_message, is_empty, give_page, give_identity, give_modes, give_other, bare, decide_policy, decide_policy_answer, moved, decide_sent, decide_failed}
use Rattle.messages.specs.Requests.{identity_command, svids_command, modes_command, attention_command, request_of, same_request}
use Rattle.dock.specs.Sound.{Asked, Sound}
use Rattle.dock.specs.declared.Dock.{Dock}
use Rattle.dock.specs.declared.Policy.{Policy}
use Rattle.dock.specs.declared.Policy.TheVariants.{Give, Nak, Busy}
use Rattle.messages.specs.declared.request.Request.{Request}
use Rattle.dock.specs.declared.Standing.{Standing}
use Rattle.dock.specs.declared.Standing.TheVariants.{Ready, Asking, Sending}
use Rattle.dock.proofs.Decisions.{data_fits}
use Rattle.dock.proofs.Shapes.{request_shape}

pub fresh_sound : Sound fresh_dock
unfolding fresh_dock sound_list
fresh_sound =
    record {
      identity_sound = inl refl;
      identity_there = omega arith;
      count_fits = omega arith;
      list_sound = refl;
      page_fits = omega arith;
      asked_sound = tt;
    }

pub loaded_sound : (at : Edition) (identity svids : List ℕ) → good_data identity svids ≡ true → Sound (loaded at identity svids)
unfolding good_data loaded
loaded_sound at identity svids good =
    let rest = and_right (good_identity (length identity)) _ good in
    let there : length identity ≤ length (padded identity) = omega (arith, (data_fits identity svids good).0, ap length (sym (padded_at identity))) in
    let list : take (length svids) (svids ++ _) ≡ svids = take-append_seam svids _ in
    record {
      identity_sound = inr (and_left (good_identity (length identity)) _ good);
      identity_there = there;
      count_fits = leb-true _ _ (and_left (leb (length svids) 72) _ rest);
      list_sound = ap sound_list list ∙ and_right (leb (length svids) 72) _ rest;
      page_fits = omega arith;
      asked_sound = tt;
    }

module _ (d : Dock) (sound : Sound d) where
  standing_sound : (s : Standing) → Asked s → Sound (with_standing s d)
  standing_sound s asked =
      record {
        identity_sound = sound.identity_sound;
        identity_there = sound.identity_there;
        count_fits = sound.count_fits;
        list_sound = sound.list_sound;
        page_fits = sound.page_fits;
        asked_sound = asked;
      }

  page_sound : (p : ℕ) (s : Standing) → p ≤ d.count / 12 → Asked s → Sound (with_standing s (with_page p d))
  page_sound p s h asked =
      record {
        identity_sound = sound.identity_sound;
        identity_there = sound.identity_there;
        count_fits = sound.count_fits;
        list_sound = sound.list_sound;
        page_fits = h;
        asked_sound = asked;
      }

  pub edition_sound : (at : Edition) → Sound (with_edition at d)
  edition_sound at =
      record {
        identity_sound = sound.identity_sound;
        identity_there = sound.identity_there;
        count_fits = sound.count_fits;
        list_sound = sound.list_sound;
        page_fits = sound.page_fits;
        asked_sound = sound.asked_sound;
      }

  pub asking_sound : (r : Request) → Asked (Asking r) → Sound (asking r d)
  unfolding asking
  asking_sound r asked = go (eqb r.command 1)
    where
      go : (t : Bool) → Sound (with_standing (Asking r) (cond t (with_page 0 d) d))
      go true = page_sound 0 (Asking r) (omega arith) asked
      go false = standing_sound (Asking r) asked

  pub sending_sound : (is_page : Bool) → Sound (sending is_page d)
  unfolding sending
  sending_sound is_page = standing_sound (Sending is_page) tt

  -- there is a next page where the present one does not end the list
  next_page : is_last (listed d) d.page ≡ false → d.page + 1 ≤ d.count / 12
  unfolding is_last
  next_page e =
      omega
      (arith, ltb-false (length (remaining (listed d) d.page)) 12 e, length-drop (d.page * 12) (listed d), length-take d.count d.svids)

  pub moved_sound : (is_page : Bool) → Sound (moved is_page d)
  unfolding moved
  moved_sound is_page = go is_page (is_last (listed d) d.page) refl
    where
      go : (t l : Bool) → is_last (listed d) d.page ≡ l → Sound (with_standing Ready (cond (t && not l) (with_page (d.page + 1) d) d))
      go true true e = standing_sound Ready tt
      go true false e = page_sound (d.page + 1) Ready (next_page e) tt
      go false l e = standing_sound Ready tt

-- a decision whose new state is sound
abbrev pub SoundIn : Decision → Type 0
SoundIn (refuses number) = Unit
SoundIn (accepts next) = Sound next
SoundIn (sends m next) = Sound next

-- each decision's new state is sound
either : (t : Bool) (a b : Decision) → SoundIn a → SoundIn b → SoundIn (cond t a b)
either true a b sa sb = sa
either false a b sa sb = sb

pub load_sound : (d : Dock) (s : Standing) (identity svids : List ℕ) → SoundIn (decide_load d s identity svids)
unfolding decide_load
load_sound d Ready identity svids = go (good_data identity svids) refl
  where
    go : (t : Bool) → good_data identity svids ≡ t → SoundIn (cond t (accepts (loaded d.edition identity svids)) (refuses 10))
    go true e = loaded_sound d.edition identity svids e
    go false e = tt
load_sound d (Asking request) identity svids = tt
load_sound d (Sending is_page) identity svids = tt

-- a request that a message has
request_sound : (d : Dock) → Sound d → (h : Head) (count : ℕ) → shape h count ≡ true → SoundIn (decide_request d (request_of h))
unfolding decide_request
request_sound d sound h count good = go (one_to_five h.command) refl
  where
    go : (t : Bool) → one_to_five h.command ≡ t → SoundIn (cond t (accepts (asking (request_of h) d)) (sends (reply (request_of h) nak []) (sending false d)))
    go true e = asking_sound d sound (request_of h) (e, request_shape h count good e)
    go false e = sending_sound d sound false

module _ (d : Dock) (sound : Sound d) where
  pub message_sound : (o : Outcome) → ((at : Edition) (m : Message) → o ≡ accepted at m → well_shaped m ≡ true) → SoundIn (decide_message d o)
  unfolding decide_message well_shaped
  message_sound (refused number) good = tt
  message_sound (accepted at m) good =
      either (eqb m.head.kind req && not (eqb m.head.command attention_command)) _ _
      (request_sound (spoken_to at d) (edition_sound d sound (lower at ours)) m.head (length m.objects + 1) (good at m refl)) tt

  module _ (r : Request) where
    sent_sound : (is_page : Bool) → Sound (sending is_page d)
    sent_sound is_page = sending_sound d sound is_page

    page_given_sound : SoundIn (give_page d r)
    unfolding give_page
    page_given_sound = either (is_empty (listed d)) _ _ (sent_sound false) (sent_sound true)

    identity_given_sound : SoundIn (give_identity d r)
    unfolding give_identity
    identity_given_sound = either (good_identity d.extent) _ _ (sent_sound false) tt

    modes_given_sound : (objects : List ℕ) → SoundIn (give_modes d r objects)
    unfolding give_modes
    modes_given_sound objects = either (leb 1 (length objects) && leb (length objects) 6) _ _ (sent_sound false) tt

    other_given_sound : SoundIn (give_other d r)
    unfolding give_other
    other_given_sound =
        either (eqb r.command identity_command) _ _ identity_given_sound
        (either (eqb r.command svids_command) _ _ page_given_sound (sent_sound false))

    bare_sound : (objects : List ℕ) (decision : Decision) → SoundIn decision → SoundIn (bare objects decision)
    unfolding bare
    bare_sound objects decision s = either (is_empty objects) _ _ s tt

    policy_sound : (policy : Policy) (objects : List ℕ) → SoundIn (decide_policy d policy r objects)
    unfolding decide_policy
    policy_sound Give objects =
        either (eqb r.command modes_command) _ _ (modes_given_sound objects) (bare_sound objects (give_other d r) other_given_sound)
    policy_sound Nak objects = bare_sound objects _ (sent_sound false)
    policy_sound Busy objects = bare_sound objects _ (sent_sound false)

    pub answer_sound : (s : Standing) (policy : Policy) (objects : List ℕ) → SoundIn (decide_policy_answer d s policy r objects)
    unfolding decide_policy_answer
    answer_sound Ready policy objects = tt
    answer_sound (Sending is_page) policy objects = tt
    answer_sound (Asking a) policy objects = either (same_request a r) _ _ (policy_sound policy objects) tt

  pub confirmed_sound : (s : Standing) → SoundIn (decide_sent d s) × SoundIn (decide_failed d s)
  unfolding decide_sent decide_failed
  confirmed_sound Ready = (tt, tt)
  confirmed_sound (Asking r) = (tt, tt)
  confirmed_sound (Sending is_page) = (moved_sound d sound is_page, moved_sound d sound false)

  -- and with it the state that the call gives back
  pub kept : (decision : Decision) → SoundIn decision → (room : ℕ) → Sound (step_of d decision room).dock
  unfolding step_of
  kept (refuses number) s room = sound
  kept (accepts next) s room = s
  kept (sends m next) s room = go (eqb (write_refusal m room) 0)
    where
      go : (t : Bool) → Sound (cond t (accepted_by (message_length m) next) (refused_by (write_refusal m room) d)).dock
      go true = s
      go false = sound
