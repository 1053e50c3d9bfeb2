-- The dock's edition after a call, and after any calls (02, R-5).
use mathlib.Core.Path.{◌≡◌, refl, ap, ◌∙◌}
use mathlib.Core.Bool.{Bool, true, false, cond, not, ◌&&◌, false≢true}
use mathlib.Core.List.{List, [], ◌∷◌, ◌++◌}
use Prim.Native.Nat.{ℕ, ◌+◌}
use lib.Dec.{eqb}
use borrow.Author.Tests.{eq-eqb, ne_eqb}
use Rattle.messages.specs.Editions.{ours, lower}
use Rattle.messages.specs.Layout.{req, Message}
use Rattle.messages.specs.Reading.{accepted, read_outcome}
use Rattle.messages.specs.Requests.{identity_command, attention_command, request_of}
use Rattle.messages.specs.declared.edition.Edition.{Edition}
use Rattle.messages.specs.declared.request.Request.{Request}
use Rattle.dock.specs.Data.{listed, loaded, with_page}
use Rattle.dock.specs.Dock.{asking, sending, spoken_to, moved}
use Rattle.dock.specs.declared.Dock.{Dock}
use Rattle.dock.specs.declared.Policy.{Policy}
use Rattle.dock.specs.declared.Standing.{Standing}
use Rattle.dock.specs.declared.Standing.TheVariants.{Ready, Asking, Sending}
use Rattle.pages.specs.Pages.{is_last}
use Rattle.dock_laws.specs.Editions.{Newest, none, request, request_read, request_in, edition_by, edition_after, later, newest_in, AskedBy}
use Rattle.dock_laws.specs.Effects.{Call, load, message, policy_answer, sent, failed, effect_of, dock_after}
use Rattle.dock_laws.proofs.Leads.{leads}

-- the rules change the edition at a good request only
loaded_edition : (at : Edition) (identity svids : List ℕ) → (loaded at identity svids).edition ≡ at
unfolding loaded
loaded_edition at identity svids = refl

sending_edition : (d : Dock) (is_page : Bool) → (sending is_page d).edition ≡ d.edition
unfolding sending
sending_edition d is_page = refl

either_edition : (t : Bool) (p : ℕ) (d : Dock) → (cond t (with_page p d) d).edition ≡ d.edition
either_edition true p d = refl
either_edition false p d = refl

asking_edition : (r : Request) (d : Dock) → (asking r d).edition ≡ d.edition
unfolding asking
asking_edition r d = either_edition (eqb r.command identity_command) 0 d

moved_edition : (d : Dock) (is_page : Bool) → (moved is_page d).edition ≡ d.edition
unfolding moved
moved_edition d is_page = either_edition (is_page && not (is_last (listed d) d.page)) (d.page + 1) d

-- after a call: the lower of a good request's edition and ours, else as it was
pub edition_after_lem : (c : Call) (d : Dock) (out : List ℕ) → (effect_of c d out).dock.edition ≡ edition_after c d out
edition_after_lem c d out =
    leads (λ (n : Newest) (x : Dock). x.edition ≡ edition_by n d.edition) d refl (loaded_edition d.edition) (sending_edition d) (moved_edition d)
    (λ e m. asking_edition (request_of m.head) (spoken_to e d)) (λ e m. sending_edition (spoken_to e d) false) c out

-- a good request sets it
module _ (d : Dock) (bytes out : List ℕ) (e : Edition) (m : Message) (read : read_outcome bytes ≡ accepted e m) (is_req : m.head.kind ≡ req)
    (other : m.head.command ≡ attention_command → ⊥) (good : (effect_of (message bytes) d out).refusal ≡ 0) where
  request_brought : request_in (message bytes) d out ≡ request e m
  request_brought =
      ap (λ (t : Bool). cond t (request_read (read_outcome bytes)) none) (eq-eqb (effect_of (message bytes) d out).refusal 0 good) ∙ ap request_read read ∙
      rw (eq-eqb m.head.kind req is_req, ne_eqb m.head.command attention_command other)

  pub request_sets : (effect_of (message bytes) d out).dock.edition ≡ lower e ours
  request_sets = edition_after_lem (message bytes) d out ∙ ap (λ (n : Newest). edition_by n d.edition) request_brought

-- nothing else does: no refused call, whatever its number, nor loading, policy's answer, "sent" and "failed"
refused_brings : (c : Call) (d : Dock) (out : List ℕ) → ((effect_of c d out).refusal ≡ 0 → ⊥) → request_in c d out ≡ none
refused_brings (load identity svids) d out some = refl
refused_brings (message bytes) d out some =
    ap (λ (t : Bool). cond t (request_read (read_outcome bytes)) none) (ne_eqb (effect_of (message bytes) d out).refusal 0 some)
refused_brings (policy_answer policy r objects) d out some = refl
refused_brings sent d out some = refl
refused_brings failed d out some = refl

pub refused_keeps_edition : (c : Call) (d : Dock) (out : List ℕ) → ((effect_of c d out).refusal ≡ 0 → ⊥) → (effect_of c d out).dock.edition ≡ d.edition
refused_keeps_edition c d out some = edition_after_lem c d out ∙ ap (λ (n : Newest). edition_by n d.edition) (refused_brings c d out some)

module _ (d : Dock) (out : List ℕ) where
  pub load_keeps_edition : (identity svids : List ℕ) → (effect_of (load identity svids) d out).dock.edition ≡ d.edition
  load_keeps_edition identity svids = edition_after_lem (load identity svids) d out

  pub answer_keeps_edition : (policy : Policy) (r : Request) (objects : List ℕ) → (effect_of (policy_answer policy r objects) d out).dock.edition ≡ d.edition
  answer_keeps_edition policy r objects = edition_after_lem (policy_answer policy r objects) d out

  pub sent_keeps_edition : (effect_of sent d out).dock.edition ≡ d.edition
  sent_keeps_edition = edition_after_lem sent d out

  pub failed_keeps_edition : (effect_of failed d out).dock.edition ≡ d.edition
  failed_keeps_edition = edition_after_lem failed d out

-- after any calls: the lower of the newest good request's edition and ours, and the starting dock's where there was none
later_edition : (old new : Newest) (before : Edition) → edition_by new (edition_by old before) ≡ edition_by (later old new) before
later_edition old none before = refl
later_edition old (request e m) before = refl

pub edition_newest : (calls : List (Call × List ℕ)) (d : Dock) → (dock_after calls d).edition ≡ edition_by (newest_in calls d) d.edition
edition_newest [] d = refl
edition_newest (c ∷ rest) d =
    let after = (effect_of c.0 d c.1).dock in
    edition_newest rest after ∙ ap (edition_by (newest_in rest after)) (edition_after_lem c.0 d c.1) ∙
    later_edition (request_in c.0 d c.1) (newest_in rest after) d.edition

-- in so many words: a good request with no good one behind it is the newest, whatever came before
dock_append : (before after : List (Call × List ℕ)) (d : Dock) → dock_after (before ++ after) d ≡ dock_after after (dock_after before d)
dock_append [] after d = refl
dock_append (c ∷ rest) after d = dock_append rest after (effect_of c.0 d c.1).dock

pub newest_sets : (before after : List (Call × List ℕ)) (bytes out : List ℕ) (d : Dock) (e : Edition) (m : Message) → read_outcome bytes ≡ accepted e m →
    m.head.kind ≡ req → (m.head.command ≡ attention_command → ⊥) → (effect_of (message bytes) (dock_after before d) out).refusal ≡ 0 →
    newest_in after (effect_of (message bytes) (dock_after before d) out).dock ≡ none →
    (dock_after (before ++ (message bytes, out) ∷ after) d).edition ≡ lower e ours
newest_sets before after bytes out d e m read is_req other good quiet =
    let next = (effect_of (message bytes) (dock_after before d) out).dock in
    ap (λ (x : Dock). x.edition) (dock_append before ((message bytes, out) ∷ after) d) ∙ edition_newest after next ∙
    ap (λ (n : Newest). edition_by n next.edition) quiet ∙ request_sets (dock_after before d) bytes out e m read is_req other good

-- the request that waits is the newest good one
abbrev pub is_asking : Standing → Bool
is_asking Ready = false
is_asking (Asking r) = true
is_asking (Sending is_page) = false

abbrev asked_in : Request → Standing → Request
asked_in other Ready = other
asked_in other (Asking r) = r
asked_in other (Sending is_page) = other

asked_after : (c : Call) (d : Dock) (out : List ℕ) (r : Request) → (effect_of c d out).dock.standing ≡ Asking r → AskedBy (request_in c d out) d r
unfolding loaded asking sending moved
asked_after c d out r =
    leads (λ (n : Newest) (x : Dock). x.standing ≡ Asking r → AskedBy n d r) d (λ waits. waits)
    (λ identity svids waits. absurd (false≢true (ap is_asking waits)))
    (λ is_page waits. absurd (false≢true (ap is_asking waits))) (λ is_page waits. absurd (false≢true (ap is_asking waits)))
    (λ e m waits. ap (asked_in r) waits) (λ e m waits. absurd (false≢true (ap is_asking waits))) c out

asked_later : (old new : Newest) (d next : Dock) (r : Request) → (next.standing ≡ Asking r → AskedBy old d r) → AskedBy new next r →
    AskedBy (later old new) d r
asked_later old none d next r earlier asked = earlier asked
asked_later old (request e m) d next r earlier asked = asked

pub asked_newest : (calls : List (Call × List ℕ)) (d : Dock) (r : Request) → (dock_after calls d).standing ≡ Asking r → AskedBy (newest_in calls d) d r
asked_newest [] d r waits = waits
asked_newest (c ∷ rest) d r waits =
    let after = (effect_of c.0 d c.1).dock in
    asked_later (request_in c.0 d c.1) (newest_in rest after) d after r (asked_after c.0 d c.1 r) (asked_newest rest after r waits)
