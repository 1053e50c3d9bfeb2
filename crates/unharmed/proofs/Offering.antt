-- What the dock answers when a fair policy gives, says BUSY, or says NAK to an empty list.
use mathlib.Core.Path.{◌≡◌, refl, ap, sym, subst}
use mathlib.Core.Bool.{Bool, true, false, cond, ◌&&◌, false≢true}
use mathlib.Core.List.{List, [], ◌∷◌}
use Prim.Native.Nat.{ℕ, ◌<◌, ◌≤◌}
use native.Mathlib.Omega.{arith}
use lib.Dec.{leb, eqb}
use lib.ListN.{length}
use borrow.Author.Tests.{eq-eqb, ne_eqb, eqb-true}
use Rattle.laws.proofs.Lines.{and_left, and_right}
use Rattle.messages.specs.Requests.{svids_command, modes_command, same_request}
use Rattle.messages.specs.Table.{pd_sid}
use Rattle.messages.specs.declared.edition.Edition.{Edition}
use Rattle.messages.specs.declared.request.Request.{Request}
use Rattle.dock.specs.Data.{listed, good_identity}
use Rattle.dock.specs.Dock.{Decision, refuses, sends, sending, is_empty, give_page, give_identity, give_modes, give_other, bare, decide_policy, decide_policy_answer}
use Rattle.dock.specs.declared.Dock.{Dock}
use Rattle.dock.specs.declared.Policy.{Policy}
use Rattle.dock.specs.declared.Policy.TheVariants.{Give, Nak, Busy}
use Rattle.dock.specs.declared.Standing.TheVariants.{Asking, Sending}
use Rattle.owner.specs.Owner.{discover}
use Rattle.laptop.specs.State.{identity_request}
use Rattle.link.specs.Link.{is_fair, brought}
use Rattle.unharmed.proofs.Course.{FairAnswer, identity_ack, page_ack, modes_ack, mode_ack, list_nak, busy_to, is_page}
use Rattle.unharmed.proofs.Invariant.{Known, known_identity, known_svids, known_modes, known_mode, dock_at, message_of, Gives}

same_request_lem : (r : Request) → same_request r r ≡ true
same_request_lem r = rw (eq-eqb r.svid r.svid refl, eq-eqb r.command r.command refl, eq-eqb r.position r.position refl)

empty_list : (list : List ℕ) → is_empty list ≡ true → list ≡ []
empty_list [] e = refl
empty_list (x ∷ list) e = absurd (false≢true e)

some_list : (list : List ℕ) → is_empty list ≡ false → 0 < length list
some_list [] e = absurd (false≢true (sym e))
some_list (x ∷ list) e = omega arith

module _ (modes_of : ℕ → List ℕ) (d : Dock) (e : Edition) (q : ℕ) where
  -- the dock has an answer of the fair dock to send, or refuses policy's
  pub data Offers (x : Decision) : Type 0 where
    offers : (a : FairAnswer) → Gives modes_of d a q → x ≡ sends (message_of modes_of d a) (dock_at modes_of d e q (Sending (is_page a))) → Offers x
    declines : (number : ℕ) → x ≡ refuses number → Offers x

  either : (b : Bool) (x y : Decision) → (b ≡ true → Offers x) → (b ≡ false → Offers y) → Offers (cond b x y)
  either true x y f g = f refl
  either false x y f g = g refl

  unfoldable pub asked_by : (r : Request) → Dock
  asked_by r = dock_at modes_of d e q (Asking r)

  identity_offered : q ≡ 0 → Offers (decide_policy_answer (asked_by identity_request) (Asking identity_request) Give identity_request (brought modes_of Give identity_request))
  unfolding decide_policy_answer decide_policy brought bare give_other give_identity asked_by sending
  identity_offered e = either (good_identity d.extent) _ _ (λ g. offers identity_ack e refl) (λ g. declines 10 refl)

  svids_offered : Offers (decide_policy_answer (asked_by (discover pd_sid svids_command)) (Asking (discover pd_sid svids_command)) Give (discover pd_sid svids_command) (brought modes_of Give (discover pd_sid svids_command)))
  unfolding decide_policy_answer decide_policy brought bare give_other give_page asked_by sending
  svids_offered =
      either (is_empty (listed d)) _ _ (λ g. offers list_nak (empty_list (listed d) g) refl) (λ g. offers (page_ack q) (refl, some_list (listed d) g) refl)

  modes_offered : (svid : ℕ) → Offers (decide_policy_answer (asked_by (discover svid modes_command)) (Asking (discover svid modes_command)) Give (discover svid modes_command) (brought modes_of Give (discover svid modes_command)))
  unfolding decide_policy_answer decide_policy brought give_modes asked_by sending
  modes_offered svid =
      rw (eq-eqb svid svid refl)
      (either (leb 1 (length (modes_of svid)) && leb (length (modes_of svid)) 6) _ _ (λ g. offers (modes_ack svid) tt refl) (λ g. declines 10 refl))

  mode_offered : (r : Request) → 4 ≤ r.command → Offers (decide_policy_answer (asked_by r) (Asking r) Give r (brought modes_of Give r))
  unfolding decide_policy_answer decide_policy brought bare give_other asked_by sending
  mode_offered r h =
      let one : eqb r.command 1 ≡ false = ne_eqb r.command 1 (λ e. omega arith) in
      let two : eqb r.command 2 ≡ false = ne_eqb r.command 2 (λ e. omega arith) in
      let three : eqb r.command 3 ≡ false = ne_eqb r.command 3 (λ e. omega arith) in
      rw (same_request_lem r, three, one, two) (offers (mode_ack r) h refl)

  busy_offered : (r : Request) → Offers (decide_policy_answer (asked_by r) (Asking r) Busy r (brought modes_of Busy r))
  unfolding decide_policy_answer decide_policy brought bare asked_by sending
  busy_offered r = rw (same_request_lem r) (offers (busy_to r) tt refl)

  nak_offered : listed d ≡ [] →
      Offers (decide_policy_answer (asked_by (discover pd_sid svids_command)) (Asking (discover pd_sid svids_command)) Nak (discover pd_sid svids_command) (brought modes_of Nak (discover pd_sid svids_command)))
  unfolding decide_policy_answer decide_policy brought bare asked_by sending
  nak_offered e = offers list_nak e refl

  given : (r : Request) → Known r q → Offers (decide_policy_answer (asked_by r) (Asking r) Give r (brought modes_of Give r))
  given r (known_identity e z) =
      subst (λ (x : Request). Offers (decide_policy_answer (asked_by x) (Asking x) Give x (brought modes_of Give x))) (sym e) (identity_offered z)
  given r (known_svids e) = subst (λ (x : Request). Offers (decide_policy_answer (asked_by x) (Asking x) Give x (brought modes_of Give x))) (sym e) svids_offered
  given r (known_modes svid e) =
      subst (λ (x : Request). Offers (decide_policy_answer (asked_by x) (Asking x) Give x (brought modes_of Give x))) (sym e) (modes_offered svid)
  given r (known_mode h f) = mode_offered r h

  denied : (r : Request) → Known r q → r.command ≡ 2 → listed d ≡ [] → Offers (decide_policy_answer (asked_by r) (Asking r) Nak r (brought modes_of Nak r))
  denied r (known_identity e z) c l = absurd (omega (arith, ap (λ (x : Request). x.command) e))
  denied r (known_svids e) c l =
      subst (λ (x : Request). Offers (decide_policy_answer (asked_by x) (Asking x) Nak x (brought modes_of Nak x))) (sym e) (nak_offered l)
  denied r (known_modes svid e) c l = absurd (omega (arith, ap (λ (x : Request). x.command) e))
  denied r (known_mode h f) c l = absurd (omega arith)

  -- a fair policy's answer
  pub fair_offered : (policy : Policy) (r : Request) → Known r q → is_fair policy r (listed d) ≡ true →
      Offers (decide_policy_answer (asked_by r) (Asking r) policy r (brought modes_of policy r))
  unfolding is_fair
  fair_offered Give r k f = given r k
  fair_offered Busy r k f = busy_offered r
  fair_offered Nak r k f =
      denied r k (eqb-true r.command 2 (and_left (eqb r.command 2) _ f)) (empty_list (listed d) (and_right (eqb r.command 2) _ f))
