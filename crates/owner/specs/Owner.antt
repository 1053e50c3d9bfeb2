-- Owner's calls (01, "The laptop end").
use Rattle.std.specs.Prelude.{ℕ, Bool, true, false, cond, not, ◌&&◌, ◌||◌, List, [], ◌∷◌, leb, ltb, eqb, length, get_or}
use Rattle.messages.specs.Layout.{req, Message}
use Rattle.messages.specs.Requests.{svids_command, modes_command, enter_command, exit_command, head_for}
use Rattle.messages.specs.Table.{pd_sid}
use Rattle.messages.specs.declared.request.Request.{Request}
use Rattle.laptop.specs.Calls.{Decision, accepts, sends, Stepped, unless, short_runs, is_awaiting}
use Rattle.laptop.specs.Catalogue.{modes_number, held_list}
use Rattle.laptop.specs.Marks.{place_of, six_bits, is_entered}
use Rattle.laptop.specs.State.{dropped, awaiting, identity_request, identity_asked}
use Rattle.laptop.specs.declared.Candidate.{Candidate}
use Rattle.laptop.specs.declared.Candidate.TheVariants.{Absent, Open, Done}
use Rattle.laptop.specs.declared.Laptop.{Laptop}
use Rattle.laptop.specs.Step.{Step}
use Rattle.laptop.specs.declared.Told.TheVariants.{Nothing}

-- all are refused 11 for a short run, and 7 while waiting; run and held_run are the lengths of what is lent
unfoldable pub owner_refusal : Laptop → ℕ → ℕ → ℕ
owner_refusal l run held_run = cond (short_runs run held_run) 11 (cond (is_awaiting l.wait) 7 0)

unfoldable pub any_entered : List ℕ → Bool
any_entered [] = false
any_entered (set ∷ sets) = not (eqb (six_bits set) 0) || any_entered sets

-- next and start over are refused 13 while any mode is entered
unfoldable pub asking_refusal : Laptop → List ℕ → ℕ → ℕ → ℕ
asking_refusal l entered run held_run =
    cond (eqb (owner_refusal l run held_run) 0) (cond (any_entered entered) 13 0) (owner_refusal l run held_run)

-- a request is one object
abbrev pub request_message : Request → Message
request_message r = record { head = head_for r req; objects = [] }

abbrev pub discover : ℕ → ℕ → Request
discover svid command = record { svid = svid; command = command; position = 0 }

abbrev pub asks : Request → Laptop → Decision
asks r l = sends (request_message r) (awaiting r l)

abbrev pub asks_identity : Laptop → Decision
asks_identity l = sends (request_message identity_request) (identity_asked l)

-- Identity if no candidate, SVIDs if the list is open, else Modes for the first SVID without modes
unfoldable pub asks_next : Laptop → List ℕ → Candidate → Decision
asks_next l svids Absent = asks_identity l
asks_next l svids Open = asks (discover pd_sid svids_command) l
asks_next l svids Done = asks (discover (get_or svids l.stored 0) modes_command) l

unfoldable pub decide_next : Laptop → List ℕ → List ℕ → ℕ → ℕ → Decision
decide_next l svids entered run held_run =
    unless (asking_refusal l entered run held_run) l (asks_next l svids l.candidate)

unfoldable pub decide_start_over : Laptop → List ℕ → ℕ → ℕ → Decision
decide_start_over l entered run held_run = unless (asking_refusal l entered run held_run) l (asks_identity l)

unfoldable pub decide_drop : Laptop → ℕ → ℕ → Decision
decide_drop l run held_run = unless (owner_refusal l run held_run) l (accepts Nothing (dropped l))

-- the position is one of the modes of the SVID at the place
unfoldable pub has_mode : List ℕ → ℕ → ℕ → Bool
has_mode modes place position = leb 1 position && leb position (modes_number modes place)

abbrev pub is_absent : Candidate → Bool
is_absent Absent = true
is_absent Open = false
is_absent Done = false

-- enter: 13 if there is a candidate; 12 if the held catalogue lacks that mode; 13 if already entered
unfoldable pub enter_refusal : List ℕ → List ℕ → List ℕ → ℕ → ℕ → ℕ
enter_refusal list modes entered svid position =
    cond (ltb (place_of svid list) (length list))
    (cond (has_mode modes (place_of svid list) position)
    (cond (is_entered entered (place_of svid list) position) 13 0) 12) 12

abbrev pub enters : Laptop → List ℕ → List ℕ → List ℕ → ℕ → ℕ → Decision
enters l held_svids held_modes entered svid position =
    unless (enter_refusal (held_list l.held held_svids) held_modes entered svid position) l
    (asks (record { svid = svid; command = enter_command; position = position }) l)

unfoldable pub decide_enter : Laptop → List ℕ → List ℕ → List ℕ → ℕ → ℕ → ℕ → ℕ → Decision
decide_enter l held_svids held_modes entered run held_run svid position =
    unless (owner_refusal l run held_run) l
    (unless (cond (is_absent l.candidate) 0 13) l (enters l held_svids held_modes entered svid position))

-- exit: 12 if the SVID is not held, or the position is neither 7 nor one of its modes; 13 if not entered
unfoldable pub exit_refusal : List ℕ → List ℕ → List ℕ → ℕ → ℕ → ℕ
exit_refusal list modes entered svid position =
    cond (ltb (place_of svid list) (length list))
    (cond (eqb position 7 || has_mode modes (place_of svid list) position)
    (cond (is_entered entered (place_of svid list) position) 0 13) 12) 12

abbrev pub exits : Laptop → List ℕ → List ℕ → List ℕ → ℕ → ℕ → Decision
exits l held_svids held_modes entered svid position =
    unless (exit_refusal (held_list l.held held_svids) held_modes entered svid position) l
    (asks (record { svid = svid; command = exit_command; position = position }) l)

unfoldable pub decide_exit : Laptop → List ℕ → List ℕ → List ℕ → ℕ → ℕ → ℕ → ℕ → Decision
decide_exit l held_svids held_modes entered run held_run svid position =
    unless (owner_refusal l run held_run) l (exits l held_svids held_modes entered svid position)

-- what enter and exit promise, by all that they are lent
abbrev pub Enters : Laptop → ℕ → ℕ → List ℕ → List ℕ → List ℕ → List ℕ → List ℕ → List ℕ → Step → List ℕ → Type 0
Enters l svid position held_svids held_modes entered run held_run out step after =
    Stepped l (decide_enter l held_svids held_modes entered (length run) (length held_run) svid position) out step after

abbrev pub Exits : Laptop → ℕ → ℕ → List ℕ → List ℕ → List ℕ → List ℕ → List ℕ → List ℕ → Step → List ℕ → Type 0
Exits l svid position held_svids held_modes entered run held_run out step after =
    Stepped l (decide_exit l held_svids held_modes entered (length run) (length held_run) svid position) out step after
