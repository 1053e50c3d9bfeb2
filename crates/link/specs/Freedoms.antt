-- The link is as wide as document 01 has it, and no wider: runs over both ends, each under the sentence of 01 that it is about. It computes otherwise
-- where the freedom is taken away that the sentence grants, or where something is let happen that the sentence forbids.
use Rattle.std.specs.Prelude.{ℕ, ◌+◌, cond, List, [], ◌∷◌, ◌++◌, take, replicate}
use Rattle.messages.specs.Editions.{ours}
use Rattle.messages.specs.Layout.{Message, message_bytes}
use Rattle.taking.specs.Taking.{same_list}
use Rattle.dock.specs.Data.{loaded}
use Rattle.dock.specs.declared.Dock.{Dock}
use Rattle.dock.specs.declared.Policy.TheVariants.{Give, Nak, Busy}
use Rattle.laptop.specs.State.{memory, fresh_laptop, with_pages}
use Rattle.laptop_laws.specs.Effects.{Call, message, next, start_over, drop, enter, exit}
use Rattle.catalogue.specs.Bytes.{catalogue_bytes}
use Rattle.link.specs.Cases.{Case, case, Standing, old_bytes, up_from, buffer, exchange}
use Rattle.link.specs.Demand.{whole}
use Rattle.link.specs.Exchanges.{times, to_rest}
use Rattle.link.specs.Joined.{clear, gone, System, Event, calls, lose_request, reach, answer, lose_answer, arrive, sent, failed}
use Rattle.link.specs.Link.{step, run}
use Rattle.link.specs.Needed.{identity_answer, page_answer, needed, with_answer, received, received_by, brings_new, in_all_of}
use Rattle.link.specs.Seeing.{modes_of, dock_with, beside, start, none, open_with, done_with, ready, asking, sending, view, numbers_of, computed, held, story, ran, refusing, while, none_bytes, two_bytes, asks_by, answered_with, given_to, opens_list, takes_page, response_timer, entry_timer, exit_timer, protocol_errs}

-- LOSSES
unfoldable pub losses : List Case
losses =
    -- "Each message may be lost": a request for Identity, for SVIDs and for Modes, each of which goes out again
    case (ran 13 (calls next buffer ∷ lose_request ∷ reach buffer ∷ []) ((response_timer ∷ []) ∷ opens_list ∷ []))
    (while old_bytes (view none 0 0 1 ready 1 ∷ view none 0 0 1 ready 0 ∷ view (open_with 0) 0 0 0 ready 0 ∷ [])) ∷
    case (ran 13 (opens_list ++ calls next buffer ∷ lose_request ∷ reach buffer ∷ []) ((response_timer ∷ exchange sent) ∷ []))
    (while old_bytes (view (open_with 0) 0 0 0 ready 2 ∷ view (open_with 12) 1 0 1 ready 0 ∷ [])) ∷
    case (ran 2 (takes_page ++ calls next buffer ∷ lose_request ∷ reach buffer ∷ []) ((response_timer ∷ times 2 (exchange sent)) ∷ []))
    (while old_bytes (view (done_with 2) 1 0 0 ready 3 ∷ []) ++ while two_bytes (view none 1 0 0 ready 0 ∷ [])) ∷
    -- and an answer: an Identity, a page before the last, the last page, and Modes. The dock hears nothing, or "failed"
    case (ran 13 (answered_with Give ++ lose_answer ∷ arrive ∷ []) ((response_timer ∷ opens_list) ∷ []))
    (while old_bytes (view none 0 0 0 sending 1 ∷ view (open_with 0) 0 0 0 ready 0 ∷ [])) ∷
    case
    (ran 13 (opens_list ++ answered_with Give ++ lose_answer ∷ arrive ∷ [])
    ((failed ∷ response_timer ∷ exchange sent) ∷ (answered_with Give ++ lose_answer ∷ arrive ∷ []) ∷ (response_timer ∷ exchange sent) ∷ []))
    (while old_bytes
    (view (open_with 0) 0 0 0 sending 2 ∷ view (open_with 12) 1 0 1 ready 0 ∷ view (open_with 12) 1 0 1 sending 2 ∷ view (done_with 13) 2 0 1 ready 0 ∷ [])) ∷
    case (ran 2 (takes_page ++ answered_with Give ++ lose_answer ∷ arrive ∷ []) ((response_timer ∷ exchange sent) ∷ exchange sent ∷ []))
    (while old_bytes (view (done_with 2) 1 0 0 sending 3 ∷ view (done_with 2) 1 0 0 ready 0 ∷ []) ++ while two_bytes (view none 1 0 0 ready 0 ∷ [])) ∷
    -- "and a request not yet at the dock when its wait ends is": by the timer, and by a protocol error
    case (ran 13 (calls next buffer ∷ response_timer ∷ reach buffer ∷ []) ((opens_list ++ calls next buffer ∷ protocol_errs ∷ reach buffer ∷ []) ∷ []))
    (while old_bytes (view none 0 0 1 ready 0 ∷ view (open_with 0) 0 0 0 ready 0 ∷ [])) ∷
    -- so also a request for SVIDs after a page, an answer that is BUSY or a NAK, and one of which the dock has heard "failed"
    case (ran 13 (takes_page ++ calls next buffer ∷ lose_request ∷ reach buffer ∷ []) []) (while old_bytes (view (open_with 12) 1 0 1 ready 2 ∷ [])) ∷
    case (ran 13 (opens_list ++ answered_with Busy ++ lose_answer ∷ arrive ∷ []) []) (while old_bytes (view (open_with 0) 0 0 0 sending 2 ∷ [])) ∷
    case (ran 0 (opens_list ++ answered_with Nak ++ lose_answer ∷ arrive ∷ []) []) (while old_bytes (view (open_with 0) 0 0 0 sending 2 ∷ [])) ∷
    case (ran 13 (opens_list ++ answered_with Give ++ failed ∷ sent ∷ lose_answer ∷ arrive ∷ []) []) (while old_bytes (view (open_with 0) 0 0 0 ready 2 ∷ [])) ∷
    -- a call that is refused, and a wrong timer, lose no request
    case (ran 13 (calls next buffer ∷ calls next buffer ∷ calls drop [] ∷ entry_timer ∷ reach buffer ∷ []) []) (while old_bytes (view none 0 0 0 asking 1 ∷ [])) ∷
    -- nothing comes to the laptop but over the link
    case (ran 13 (calls next buffer ∷ calls (message (message_bytes ours (identity_answer (dock_with 13)))) [] ∷ []) [])
    (while old_bytes (view none 0 0 1 ready 1 ∷ [])) ∷
    -- output buffers: too short for the request, just long enough; too short for the answer, and just long enough
    case
    (ran 13 (calls next (replicate 3 7) ∷ reach buffer ∷ []) ((calls next (replicate 4 7) ∷ reach [] ∷ answer Give (replicate 19 7) ∷ []) ∷
    (answer Give (replicate 20 7) ∷ arrive ∷ []) ∷ []))
    (while old_bytes (view none 1 0 1 ready 0 ∷ view none 0 0 0 asking 1 ∷ view (open_with 0) 0 0 0 sending 0 ∷ [])) ∷ []

-- CONFIRMATIONS
unfoldable pub confirmations : List Case
confirmations =
    -- "An answer that arrives may go unconfirmed (the dock hears "failed" or nothing)": "failed" after the arrival; the page comes again, and adds nothing
    case (ran 13 (opens_list ++ answered_with Give ++ arrive ∷ []) ((failed ∷ []) ∷ exchange sent ∷ exchange sent ∷ []))
    (while old_bytes
    (view (open_with 12) 1 0 0 sending 0 ∷ view (open_with 12) 1 1 0 ready 0 ∷ view (open_with 12) 2 1 1 ready 0 ∷ view (done_with 13) 3 1 1 ready 0 ∷ [])) ∷
    -- "failed" before the arrival
    case (ran 13 (opens_list ++ answered_with Give ++ failed ∷ []) ((arrive ∷ []) ∷ exchange sent ∷ []))
    (while old_bytes (view (open_with 0) 0 0 0 ready 2 ∷ view (open_with 12) 1 1 0 ready 0 ∷ view (open_with 12) 2 1 1 ready 0 ∷ [])) ∷
    -- nothing, until a later request reaches the dock
    case (ran 13 (opens_list ++ answered_with Give ++ arrive ∷ []) (asks_by next ∷ (answer Give buffer ∷ arrive ∷ sent ∷ []) ∷ []))
    (while old_bytes (view (open_with 12) 1 0 0 sending 0 ∷ view (open_with 12) 1 1 0 asking 2 ∷ view (open_with 12) 2 1 1 ready 0 ∷ [])) ∷
    -- Identity, the last page and Modes: none of them is a page before the last
    case (ran 2 (exchange failed) (exchange failed ∷ exchange failed ∷ exchange failed ∷ []))
    (while old_bytes (view (open_with 0) 0 0 0 ready 0 ∷ view (done_with 2) 1 0 0 ready 0 ∷ view (done_with 2) 1 0 0 ready 0 ∷ []) ++
    while two_bytes (view none 1 0 0 ready 0 ∷ [])) ∷
    -- "None is confirmed without arriving": not one that is lost; one of which the dock has heard "sent" is not lost,
    case (ran 13 (opens_list ++ answered_with Give ++ lose_answer ∷ sent ∷ []) []) (while old_bytes (view (open_with 0) 0 0 0 sending 2 ∷ [])) ∷
    case (ran 13 (opens_list ++ answered_with Give ++ sent ∷ []) ((lose_answer ∷ arrive ∷ []) ∷ exchange sent ∷ []))
    (while old_bytes (view (open_with 0) 0 0 1 ready 2 ∷ view (open_with 12) 1 0 1 ready 0 ∷ view (done_with 13) 2 0 1 ready 0 ∷ [])) ∷
    -- and no later request reaches the dock before it: it is taken for that request, which is lost
    case (ran 13 (opens_list ++ answered_with Give ++ sent ∷ response_timer ∷ asks_by next) ((arrive ∷ []) ∷ (reach buffer ∷ []) ∷ exchange sent ∷ []))
    (while old_bytes
    (view (open_with 0) 0 0 1 ready 2 ∷ view (open_with 12) 1 0 1 ready 0 ∷ view (open_with 12) 1 0 1 ready 0 ∷ view (done_with 13) 2 0 1 ready 0 ∷ [])) ∷
    -- "none is altered or doubled": here one that is confirmed after its arrival, and one before
    case (ran 13 (opens_list ++ answered_with Give ++ arrive ∷ arrive ∷ []) ((sent ∷ arrive ∷ []) ∷ []))
    (while old_bytes (view (open_with 12) 1 0 0 sending 0 ∷ view (open_with 12) 1 0 1 ready 0 ∷ [])) ∷
    case (ran 13 (opens_list ++ answered_with Give ++ sent ∷ arrive ∷ arrive ∷ []) []) (while old_bytes (view (open_with 12) 1 0 1 ready 0 ∷ [])) ∷
    -- "and none arrives after a later request has reached the dock"
    case (ran 13 (opens_list ++ answered_with Give ++ response_timer ∷ asks_by next ++ arrive ∷ []) ((answer Give buffer ∷ arrive ∷ sent ∷ []) ∷ []))
    (while old_bytes (view (open_with 0) 0 0 0 asking 2 ∷ view (open_with 12) 1 0 1 ready 0 ∷ [])) ∷
    -- "The dock hears "sent" or "failed" at most once for an answer", here of a list of three pages,
    case (ran 25 (takes_page ++ sent ∷ failed ∷ sent ∷ []) ((answered_with Give ++ arrive ∷ failed ∷ sent ∷ []) ∷ exchange sent ∷ exchange sent ∷ []))
    (while old_bytes
    (view (open_with 12) 1 0 1 ready 0 ∷ view (open_with 24) 2 1 1 ready 0 ∷ view (open_with 24) 3 1 2 ready 0 ∷ view (done_with 25) 4 1 2 ready 0 ∷ [])) ∷
    -- "and not after a later request has reached it"
    case (ran 13 (opens_list ++ answered_with Give ++ arrive ∷ asks_by next ++ sent ∷ failed ∷ []) [])
    (while old_bytes (view (open_with 12) 1 1 0 asking 2 ∷ [])) ∷
    -- so also "failed" after an early "sent"; and no "sent" of a lost Identity
    case (ran 13 (opens_list ++ answered_with Give ++ sent ∷ failed ∷ lose_answer ∷ arrive ∷ []) []) (while old_bytes (view (open_with 12) 1 0 1 ready 0 ∷ [])) ∷
    case (ran 13 (answered_with Give ++ lose_answer ∷ sent ∷ []) []) (while old_bytes (view none 0 0 0 sending 1 ∷ [])) ∷
    -- "sent" before the arrival, and "failed", of Identity and of Modes: what is confirmed arrives
    case
    (ran 2 (answered_with Give ++ sent ∷ lose_answer ∷ []) ((arrive ∷ exchange sent) ∷ (answered_with Give ++ sent ∷ lose_answer ∷ []) ∷ (arrive ∷ []) ∷ []))
    (while old_bytes (view none 0 0 0 ready 1 ∷ view (done_with 2) 1 0 0 ready 0 ∷ view (done_with 2) 1 0 0 ready 3 ∷ view (done_with 2) 1 0 0 ready 0 ∷ [])) ∷
    case (ran 2 (answered_with Give ++ failed ∷ []) ((arrive ∷ exchange sent) ∷ (answered_with Give ++ failed ∷ []) ∷ (arrive ∷ []) ∷ []))
    (while old_bytes (view none 0 0 0 ready 1 ∷ view (done_with 2) 1 0 0 ready 0 ∷ view (done_with 2) 1 0 0 ready 3 ∷ view (done_with 2) 1 0 0 ready 0 ∷ [])) ∷
    -- no newer Identity reaches the dock before a page that is confirmed
    case (ran 13 (opens_list ++ answered_with Give ++ sent ∷ response_timer ∷ asks_by start_over) ((arrive ∷ []) ∷ (reach buffer ∷ []) ∷ []))
    (while old_bytes (view none 0 0 1 ready 1 ∷ view none 0 0 1 ready 1 ∷ view none 0 0 0 asking 1 ∷ [])) ∷
    -- the dock may hear "sent" or "failed" while a newer request is on its way
    case (ran 13 (opens_list ++ answered_with Give ++ arrive ∷ calls next buffer ∷ sent ∷ []) ((reach buffer ∷ answer Give buffer ∷ arrive ∷ []) ∷ []))
    (while old_bytes (view (open_with 12) 1 0 1 ready 2 ∷ view (done_with 13) 2 0 1 sending 0 ∷ [])) ∷
    case (ran 13 (opens_list ++ answered_with Give ++ arrive ∷ calls next buffer ∷ failed ∷ []) []) (while old_bytes (view (open_with 12) 1 1 0 ready 2 ∷ [])) ∷
    -- every page of 72 SVIDs goes unconfirmed once, and the full page of 12
    case (ran 72 (opens_list ++ times 6 (exchange failed ++ exchange sent)) (exchange sent ∷ []))
    (while old_bytes (view (open_with 72) 12 6 6 ready 0 ∷ view (done_with 72) 13 6 6 ready 0 ∷ [])) ∷
    case (ran 12 (opens_list ++ exchange failed) (times 2 (exchange sent) ∷ []))
    (while old_bytes (view (open_with 12) 1 1 0 ready 0 ∷ view (done_with 12) 3 1 1 ready 0 ∷ [])) ∷
    -- "The last page stays the last until the next Identity": after "failed" too, and when Modes are asked for
    case (ran 13 (takes_page ++ exchange failed) (asks_by next ∷ []))
    (while old_bytes (view (done_with 13) 2 0 1 ready 0 ∷ view (done_with 13) 2 0 1 asking 3 ∷ [])) ∷ []

-- LATE ANSWERS
unfoldable pub late_answers : List Case
late_answers =
    -- "Late answers, those to a request whose wait a timer or a protocol error has ended, may arrive": with nothing awaited a page drops the candidate,
    case (ran 13 (takes_page ++ answered_with Give ++ response_timer ∷ arrive ∷ []) ((sent ∷ exchange sent) ∷ []))
    (while old_bytes (view none 1 0 1 sending 0 ∷ view (open_with 0) 0 0 0 ready 0 ∷ [])) ∷
    case (ran 13 (opens_list ++ answered_with Give ++ protocol_errs ∷ arrive ∷ []) []) (while old_bytes (view none 0 0 0 sending 0 ∷ [])) ∷
    case (refusing 13 (takes_page ++ answered_with Give) (response_timer ∷ arrive ∷ []))
    ((0 ∷ 6 ∷ []) ∷ while old_bytes (view none 1 0 1 sending 0 ∷ [])) ∷
    -- also one of which the dock has heard "sent",
    case (ran 13 (opens_list ++ answered_with Give ++ sent ∷ response_timer ∷ arrive ∷ []) (times 3 (exchange sent) ∷ []))
    (while old_bytes (view none 0 0 1 ready 0 ∷ view (done_with 13) 2 0 1 ready 0 ∷ [])) ∷
    -- and Identity and Modes change nothing
    case (ran 13 (answered_with Give ++ protocol_errs ∷ arrive ∷ []) []) (while old_bytes (view none 0 0 0 sending 0 ∷ [])) ∷
    case (ran 2 (takes_page ++ answered_with Give ++ response_timer ∷ arrive ∷ []) (times 2 (exchange sent) ∷ []))
    (while old_bytes (view (done_with 2) 1 0 0 sending 0 ∷ []) ++ while two_bytes (view none 1 0 0 ready 0 ∷ [])) ∷
    -- taken for a newer request, which is then lost: Identity, a page, and Modes
    case (ran 13 (answered_with Give ++ response_timer ∷ calls next buffer ∷ arrive ∷ []) ((reach buffer ∷ []) ∷ exchange sent ∷ []))
    (while old_bytes (view (open_with 0) 0 0 0 sending 0 ∷ view (open_with 0) 0 0 0 sending 0 ∷ view (open_with 12) 1 0 1 ready 0 ∷ [])) ∷
    case (ran 13 (opens_list ++ answered_with Give ++ protocol_errs ∷ calls next buffer ∷ arrive ∷ []) ((reach buffer ∷ []) ∷ (sent ∷ exchange sent) ∷ []))
    (while old_bytes (view (open_with 12) 1 0 0 sending 0 ∷ view (open_with 12) 1 0 0 sending 0 ∷ view (done_with 13) 2 0 1 ready 0 ∷ [])) ∷
    case (ran 2 (takes_page ++ answered_with Give ++ response_timer ∷ calls next buffer ∷ arrive ∷ []) ((reach buffer ∷ []) ∷ exchange sent ∷ []))
    (while old_bytes (view (done_with 2) 1 0 0 sending 0 ∷ view (done_with 2) 1 0 0 sending 0 ∷ []) ++ while two_bytes (view none 1 0 0 ready 0 ∷ [])) ∷
    -- not taken for a newer Identity: a page while Identity is awaited changes nothing
    case
    (ran 13 (opens_list ++ answered_with Give ++ response_timer ∷ calls start_over buffer ∷ arrive ∷ []) ((reach buffer ∷ answer Give buffer ∷ arrive ∷ []) ∷ []))
    (while old_bytes (view none 0 0 0 sending 1 ∷ view (open_with 0) 0 0 0 sending 0 ∷ [])) ∷
    -- "A new good request while asking or sending replaces the old one": what policy then gives is Identity, and no page
    case (ran 13 (opens_list ++ asks_by next ++ response_timer ∷ asks_by start_over) ((answer Give buffer ∷ arrive ∷ []) ∷ []))
    (while old_bytes (view none 0 0 0 asking 1 ∷ view (open_with 0) 0 0 0 sending 0 ∷ [])) ∷
    case (ran 13 (takes_page ++ answered_with Give ++ response_timer ∷ asks_by start_over ++ sent ∷ []) ((answer Give buffer ∷ arrive ∷ []) ∷ []))
    (while old_bytes (view none 0 0 0 asking 1 ∷ view (open_with 0) 0 0 0 sending 0 ∷ [])) ∷
    -- a late Identity and late Modes come once; BUSY and the NAK of an empty list are no pages, and the NAK is taken for a newer request
    case (ran 13 (answered_with Give ++ protocol_errs ∷ arrive ∷ calls next buffer ∷ arrive ∷ []) []) (while old_bytes (view none 0 0 0 sending 1 ∷ [])) ∷
    case (ran 2 (takes_page ++ answered_with Give ++ response_timer ∷ arrive ∷ calls next buffer ∷ arrive ∷ []) [])
    (while old_bytes (view (done_with 2) 1 0 0 sending 3 ∷ [])) ∷
    case (ran 13 (takes_page ++ answered_with Busy ++ response_timer ∷ arrive ∷ []) []) (while old_bytes (view (open_with 12) 1 0 1 sending 0 ∷ [])) ∷
    case (ran 0 (opens_list ++ answered_with Give ++ response_timer ∷ arrive ∷ []) ((answered_with Nak ++ response_timer ∷ calls next buffer ∷ arrive ∷ []) ∷ []))
    (while old_bytes (view (open_with 0) 0 0 0 sending 0 ∷ []) ++ while none_bytes (view none 0 0 0 sending 0 ∷ [])) ∷
    -- a late answer may be lost; policy may give it after the wait has ended, and the dock hear "sent" of it
    case (ran 13 (opens_list ++ answered_with Give ++ response_timer ∷ lose_answer ∷ arrive ∷ []) []) (while old_bytes (view (open_with 0) 0 0 0 sending 0 ∷ [])) ∷
    case (ran 13 (opens_list ++ asks_by next ++ response_timer ∷ answer Give buffer ∷ calls drop [] ∷ sent ∷ []) ((arrive ∷ []) ∷ []))
    (while old_bytes (view none 0 0 1 ready 0 ∷ view none 0 0 1 ready 0 ∷ [])) ∷
    -- a late page of which the dock has heard "failed"
    case (ran 25 (takes_page ++ exchange sent ++ answered_with Give ++ failed ∷ response_timer ∷ arrive ∷ []) []) (while old_bytes (view none 2 0 2 ready 0 ∷ [])) ∷
    -- the request that replaces is the newer one, be it the same; and Identity sets the page to 0 while another is asked
    case (ran 2 (takes_page ++ asks_by next ++ response_timer ∷ asks_by next ++ answer Give buffer ∷ reach buffer ∷ arrive ∷ []) [])
    (while old_bytes (view (done_with 2) 1 0 0 sending 0 ∷ [])) ∷
    case (ran 13 (takes_page ++ asks_by next ++ response_timer ∷ asks_by start_over) []) (while old_bytes (view none 0 0 0 asking 1 ∷ [])) ∷ []

-- POLICY
unfoldable pub policies : List Case
policies =
    -- "policy gives or says BUSY": to Identity, to SVIDs before a page and after one, and to Modes
    case (ran 13 (answered_with Busy ++ arrive ∷ []) ((sent ∷ exchange sent) ∷ []))
    (while old_bytes (view none 0 0 0 sending 0 ∷ view (open_with 0) 0 0 0 ready 0 ∷ [])) ∷
    case
    (ran 13 (opens_list ++ answered_with Busy ++ arrive ∷ sent ∷ []) (exchange sent ∷ (answered_with Busy ++ arrive ∷ sent ∷ []) ∷ exchange sent ∷ []))
    (while old_bytes
    (view (open_with 0) 0 0 0 ready 0 ∷ view (open_with 12) 1 0 1 ready 0 ∷ view (open_with 12) 1 0 1 ready 0 ∷ view (done_with 13) 2 0 1 ready 0 ∷ [])) ∷
    case (ran 2 (takes_page ++ answered_with Busy ++ arrive ∷ sent ∷ []) (times 2 (exchange sent) ∷ []))
    (while old_bytes (view (done_with 2) 1 0 0 ready 0 ∷ []) ++ while two_bytes (view none 1 0 0 ready 0 ∷ [])) ∷
    -- "and says NAK only to SVIDs with an empty list": NAK and give come to the same there, and BUSY may come first
    case (ran 0 (opens_list ++ answered_with Nak ++ arrive ∷ []) []) (while none_bytes (view none 0 0 0 sending 0 ∷ [])) ∷
    case (ran 0 (opens_list ++ answered_with Busy ++ arrive ∷ []) ((answered_with Give ++ arrive ∷ []) ∷ []))
    (while old_bytes (view (open_with 0) 0 0 0 sending 0 ∷ []) ++ while none_bytes (view none 0 0 0 sending 0 ∷ [])) ∷
    -- not to Identity, to a list or to Modes, nor to Enter and Exit: the dock goes on asking, whatever its list
    case (ran 0 (answered_with Nak) []) (while old_bytes (view none 0 0 0 asking 1 ∷ [])) ∷
    case (ran 13 (opens_list ++ answered_with Nak) []) (while old_bytes (view (open_with 0) 0 0 0 asking 2 ∷ [])) ∷
    case (ran 2 (takes_page ++ answered_with Nak) []) (while old_bytes (view (done_with 2) 1 0 0 asking 3 ∷ [])) ∷
    case (ran 0 (asks_by (enter 1 1) ++ answer Nak buffer ∷ []) ((answer Give buffer ∷ arrive ∷ asks_by (exit 1 1) ++ answer Nak buffer ∷ []) ∷ []))
    (while old_bytes (view none 1 0 0 asking 4 ∷ view none 1 0 0 asking 5 ∷ [])) ∷
    -- nor to a page after the first; and BUSY to the Modes of a later SVID
    case (ran 13 (takes_page ++ answered_with Nak) []) (while old_bytes (view (open_with 12) 1 0 1 asking 2 ∷ [])) ∷
    case (ran 2 (takes_page ++ exchange sent ++ answered_with Busy ++ arrive ∷ sent ∷ []) (exchange sent ∷ []))
    (while old_bytes (view (done_with 2) 1 0 0 ready 0 ∷ []) ++ while two_bytes (view none 1 0 0 ready 0 ∷ [])) ∷ []

-- THE REPLACEMENT. Is the dock's whole catalogue of n SVIDs held, to the byte
unfoldable pub holds_whole : ℕ → List Event → List (List ℕ)
holds_whole n events =
    computed (catalogue_bytes (whole modes_of (dock_with n))) (λ bytes. cond (same_list (held (run modes_of events (start n))) bytes) 1 0 ∷ []) ∷ []

-- a laptop that is lent runs of 433 words, each of them 9
abbrev pub lent_more : Standing
lent_more =
    record {
      laptop = fresh_laptop;
      memory =
          memory (replicate 72 0) (replicate 72 0) (replicate 6 0) (replicate 433 9) (replicate 72 0) (replicate 72 0) (replicate 6 0) (replicate 433 9)
          (replicate 72 0);
      refusal = 0;
    }

unfoldable pub held_run_of : System → List (List ℕ)
held_run_of s = s.memory.held_run ∷ []

-- a dock with other data: an identity of six objects, SVIDs in no order, PD's own among them, and for each the same six modes, which are the objects
-- of the identity
abbrev pub alike : ℕ → List ℕ
alike svid = up_from 1 6

unfoldable pub other_dock : Dock
other_dock = loaded ours (up_from 1 6) (0xFFFF ∷ 0xFF00 ∷ 1 ∷ [])

abbrev pub other_start : System
other_start =
    record { laptop = (start 0).laptop; memory = (start 0).memory; way = clear; fate = gone; dock = other_dock; highest = ours; lost = 0 }

unfoldable pub replacements : List Case
replacements =
    -- "Publishing replaces the held catalogue at once and leaves no candidate": the old one is held to the byte up to the last answer, and the dock's from
    -- its arrival on; so again in the next gathering
    case
    (ran 2 (calls next buffer ∷ []) ((reach buffer ∷ answer Give buffer ∷ []) ∷ (arrive ∷ sent ∷ []) ∷ exchange sent ∷ exchange sent ∷ answered_with Give ∷
    (arrive ∷ []) ∷ (sent ∷ takes_page) ∷ []))
    (while old_bytes
    (view none 0 0 0 ready 1 ∷ view none 0 0 0 sending 1 ∷ view (open_with 0) 0 0 0 ready 0 ∷ view (done_with 2) 1 0 0 ready 0 ∷
    view (done_with 2) 1 0 0 ready 0 ∷ view (done_with 2) 1 0 0 sending 3 ∷ []) ++
    while two_bytes (view none 1 0 0 sending 0 ∷ view (done_with 2) 1 0 0 ready 0 ∷ [])) ∷
    -- "policy gives", for every list and every SVID: the whole catalogue of 1, 12, 13 and 72 SVIDs
    case (holds_whole 1 (times 3 (exchange sent)) ++ holds_whole 12 (times 15 (exchange sent)) ++ holds_whole 13 (times 16 (exchange sent)))
    ((1 ∷ []) ∷ (1 ∷ []) ∷ (1 ∷ []) ∷ []) ∷
    case (holds_whole 72 (times 80 (exchange sent))) ((1 ∷ []) ∷ []) ∷
    -- no dead end: a page that is confirmed has still to arrive and a newer request is out; the dock is sending and hears nothing; a mode was asked for
    case
    (holds_whole 13 (opens_list ++ answered_with Give ++ sent ∷ response_timer ∷ calls next buffer ∷ to_rest ++ times 16 (exchange sent)) ++
    holds_whole 2 (takes_page ++ answered_with Give ++ arrive ∷ to_rest ++ times 4 (exchange sent)) ++
    holds_whole 0 (given_to (enter 1 1) ++ to_rest ++ times 2 (exchange sent)))
    ((1 ∷ []) ∷ (1 ∷ []) ∷ (1 ∷ []) ∷ []) ∷
    -- "Lent runs have 432 words or more and come back as left": words beyond an SVID's modes stay
    case (held_run_of (run modes_of (times 4 (exchange sent)) (beside lent_more 2)))
    (((0x01000101 ∷ 0x01000102 ∷ 9 ∷ 9 ∷ 9 ∷ 9 ∷ 0x02000201 ∷ 0x02000202 ∷ 0x02000203 ∷ []) ++ replicate 424 9) ∷ []) ∷
    -- and all of them up to the last answer
    case (held_run_of (run modes_of (times 3 (exchange sent)) (beside lent_more 2))) (replicate 433 9 ∷ []) ∷
    -- with other data too
    case (held (run alike (times 5 (exchange sent)) other_start) ∷ []) (catalogue_bytes (whole alike other_dock) ∷ []) ∷ []

-- HOW A GATHERING ENDS. A laptop that has counted so many pages
abbrev pub counting : ℕ → System → System
counting pages s =
    record { laptop = with_pages pages s.laptop; memory = s.memory; way = s.way; fate = s.fate; dock = s.dock; highest = s.highest; lost = s.lost }

unfoldable pub endings : List Case
endings =
    -- "A gathering ends unfinished only by drop": with the list open, and with modes missing. It is refused while an answer is awaited
    case (ran 13 (takes_page ++ calls next buffer ∷ calls drop [] ∷ []) ((response_timer ∷ calls drop [] ∷ []) ∷ exchange sent ∷ []))
    (while old_bytes (view (open_with 12) 1 0 1 ready 2 ∷ view none 1 0 1 ready 0 ∷ view (open_with 0) 0 0 0 ready 0 ∷ [])) ∷
    case (ran 2 (takes_page ++ exchange sent) ((calls drop [] ∷ []) ∷ times 4 (exchange sent) ∷ []))
    (while old_bytes (view (done_with 2) 1 0 0 ready 0 ∷ view none 1 0 0 ready 0 ∷ []) ++ while two_bytes (view none 1 0 0 ready 0 ∷ [])) ∷
    -- "start over": with the list open, and with modes missing. "A gathering opens with its Identity ACK": the confirmations lost before it no longer count
    case (ran 13 (opens_list ++ exchange failed) ((calls start_over buffer ∷ []) ∷ (reach buffer ∷ answer Give buffer ∷ []) ∷ (arrive ∷ []) ∷ []))
    (while old_bytes
    (view (open_with 12) 1 1 0 ready 0 ∷ view none 0 1 0 ready 1 ∷ view none 0 1 0 sending 1 ∷ view (open_with 0) 0 0 0 sending 0 ∷ [])) ∷
    case (ran 2 (takes_page ++ exchange sent ++ given_to start_over ++ arrive ∷ sent ∷ []) (times 3 (exchange sent) ∷ []))
    (while old_bytes (view (open_with 0) 0 0 0 ready 0 ∷ []) ++ while two_bytes (view none 1 0 0 ready 0 ∷ [])) ∷
    -- a protocol error or the response timer ends no gathering but one that awaits Identity
    case
    (ran 13 (takes_page ++ calls next buffer ∷ protocol_errs ∷ [])
    ((exchange sent ++ calls next buffer ∷ protocol_errs ∷ []) ∷ (calls next buffer ∷ response_timer ∷ []) ∷ []))
    (while old_bytes (view (open_with 12) 1 0 1 ready 0 ∷ view (done_with 13) 2 0 1 ready 0 ∷ view (done_with 13) 2 0 1 ready 0 ∷ [])) ∷
    case (ran 13 (calls next buffer ∷ protocol_errs ∷ []) ((opens_list ++ given_to start_over ++ protocol_errs ∷ []) ∷ []))
    (while old_bytes (view none 0 0 1 ready 0 ∷ view none 0 0 0 sending 0 ∷ [])) ∷
    -- every call is refused 7 while an answer is awaited, and a wrong timer 9
    case
    (refusing 13 takes_page
    (calls next buffer ∷ calls drop [] ∷ calls next buffer ∷ calls start_over buffer ∷ calls (enter 1 1) buffer ∷ entry_timer ∷ exit_timer ∷
    response_timer ∷ response_timer ∷ []))
    ((0 ∷ 7 ∷ 7 ∷ 7 ∷ 7 ∷ 9 ∷ 9 ∷ 0 ∷ 9 ∷ []) ∷ while old_bytes (view (open_with 12) 1 0 1 ready 0 ∷ [])) ∷
    -- a timer or a protocol error with nothing awaited is refused 9, and changes nothing
    case (refusing 13 takes_page (protocol_errs ∷ entry_timer ∷ exit_timer ∷ [])) ((9 ∷ 9 ∷ 9 ∷ []) ∷ while old_bytes (view (open_with 12) 1 0 1 ready 0 ∷ [])) ∷
    case (refusing 2 takes_page (protocol_errs ∷ response_timer ∷ [])) ((9 ∷ 9 ∷ []) ∷ while old_bytes (view (done_with 2) 1 0 0 ready 0 ∷ [])) ∷
    -- the confirmations lost count until the Identity ACK, and not until a BUSY; it may be confirmed before it arrives
    case
    (ran 13 (opens_list ++ exchange failed ++ calls drop [] ∷ answered_with Busy ++ arrive ∷ []) ((answered_with Give ++ sent ∷ arrive ∷ []) ∷ []))
    (while old_bytes (view none 0 1 0 sending 0 ∷ view (open_with 0) 0 0 0 ready 0 ∷ [])) ∷
    -- the two hundredth page may end the list
    case (story (exchange sent ∷ []) (counting 199 (run modes_of takes_page (start 13))))
    (while old_bytes (view (open_with 12) 199 0 1 ready 0 ∷ view (done_with 13) 200 0 1 ready 0 ∷ [])) ∷
    -- and one that is new and does not end it is no better than a repeat
    case (story ((answered_with Give ++ arrive ∷ []) ∷ []) (counting 199 (run modes_of (takes_page ++ exchange sent) (start 37))))
    (while old_bytes (view (open_with 24) 199 0 2 ready 0 ∷ view none 200 0 2 sending 0 ∷ [])) ∷
    -- "a late page with nothing awaited": under late answers. "or 14": by the two hundredth page without an end, and not by the one before it
    case (refusing 13 (opens_list ++ times 198 (answered_with Give ++ arrive ∷ [])) (times 2 (answered_with Give ++ arrive ∷ [])))
    ((0 ∷ 0 ∷ 0 ∷ 0 ∷ 0 ∷ 0 ∷ 0 ∷ 14 ∷ []) ∷ while old_bytes (view none 200 199 0 sending 0 ∷ [])) ∷ []

-- MODES BETWEEN GATHERINGS. The entered modes of the old catalogue's two SVIDs are seen too, a set bit per position
unfoldable pub with_marks : System → List (List ℕ)
with_marks s = numbers_of s ∷ take 2 s.memory.entered ∷ []

unfoldable pub mode_story : List (List Event) → System → List (List ℕ)
mode_story [] s = with_marks s
mode_story (events ∷ parts) s = with_marks s ++ mode_story parts (run modes_of events s)

unfoldable pub modes_ran : List Event → List (List Event) → List (List ℕ)
modes_ran events parts = mode_story parts (run modes_of events (start 13))

-- a call that policy gives to, and whose answer arrives and is confirmed
abbrev pub done_by : Call → List Event
done_by c = given_to c ++ arrive ∷ sent ∷ []

unfoldable pub mode_runs : List Case
mode_runs =
    -- "Enter ACK marks the mode, Exit ACK unmarks it"; next and start over "are refused 13 while any mode is entered", and send nothing. Then a gathering
    -- begins; until then the dock's page does not move
    case
    (modes_ran (calls (enter 0xFF01 2) buffer ∷ []) ((reach buffer ∷ []) ∷ (answer Give buffer ∷ arrive ∷ []) ∷ (sent ∷ asks_by next ++ asks_by start_over) ∷
    done_by (exit 0xFF01 2) ∷ opens_list ∷ []))
    (view none 1 0 1 ready 4 ∷ (0 ∷ 0 ∷ []) ∷ view none 1 0 1 asking 4 ∷ (0 ∷ 0 ∷ []) ∷ view none 1 0 1 sending 0 ∷ (2 ∷ 0 ∷ []) ∷
    view none 1 0 1 ready 0 ∷ (2 ∷ 0 ∷ []) ∷ view none 1 0 1 ready 0 ∷ (0 ∷ 0 ∷ []) ∷ view (open_with 0) 0 0 0 ready 0 ∷ (0 ∷ 0 ∷ []) ∷ []) ∷
    case
    (refusing 13 (done_by (enter 1 1))
    (calls next buffer ∷ calls start_over buffer ∷ calls (enter 1 1) buffer ∷ calls (exit 0xFF01 1) buffer ∷ calls drop [] ∷ []))
    ((13 ∷ 13 ∷ 13 ∷ 13 ∷ 0 ∷ []) ∷ while old_bytes (view none 1 0 1 ready 0 ∷ [])) ∷
    -- "(7: all of that SVID)", and of no other
    case (modes_ran (done_by (enter 0xFF01 1) ++ done_by (enter 0xFF01 2) ++ done_by (enter 1 1)) (done_by (exit 0xFF01 7) ∷ []))
    (view none 1 0 1 ready 0 ∷ (3 ∷ 1 ∷ []) ∷ view none 1 0 1 ready 0 ∷ (0 ∷ 1 ∷ []) ∷ []) ∷
    -- "enter: 13 if there is a candidate": it goes nowhere
    case (modes_ran (opens_list ++ asks_by (enter 0xFF01 1)) []) (view (open_with 0) 0 0 0 ready 0 ∷ (0 ∷ 0 ∷ []) ∷ []) ∷
    -- "NAK or BUSY is told to policy and changes no mark"
    case
    (modes_ran (asks_by (enter 1 1) ++ answer Busy buffer ∷ arrive ∷ sent ∷ [])
    ((done_by (enter 1 1) ++ asks_by (exit 1 1) ++ answer Busy buffer ∷ arrive ∷ []) ∷ []))
    (view none 1 0 1 ready 0 ∷ (0 ∷ 0 ∷ []) ∷ view none 1 0 1 sending 0 ∷ (0 ∷ 1 ∷ []) ∷ []) ∷
    -- "The right one, or a protocol error, ends the wait": of a request to enter that is lost, the entry timer; of an answer that is lost, a protocol error
    case
    (modes_ran (calls (enter 1 1) buffer ∷ lose_request ∷ reach buffer ∷ response_timer ∷ exit_timer ∷ []) ((entry_timer ∷ []) ∷
    (given_to (enter 1 1) ++ lose_answer ∷ arrive ∷ []) ∷ (protocol_errs ∷ []) ∷ []))
    (view none 1 0 1 ready 4 ∷ (0 ∷ 0 ∷ []) ∷ view none 1 0 1 ready 0 ∷ (0 ∷ 0 ∷ []) ∷ view none 1 0 1 sending 4 ∷ (0 ∷ 0 ∷ []) ∷
    view none 1 0 1 sending 0 ∷ (0 ∷ 0 ∷ []) ∷ []) ∷
    -- of an Exit, the exit timer. A late answer to it changes no mark, and one that is taken for a newer Exit unmarks
    case
    (modes_ran (done_by (enter 1 1) ++ given_to (exit 1 1) ++ response_timer ∷ entry_timer ∷ []) ((exit_timer ∷ arrive ∷ []) ∷
    (given_to (exit 1 1) ++ protocol_errs ∷ calls (exit 1 1) buffer ∷ arrive ∷ reach buffer ∷ []) ∷ []))
    (view none 1 0 1 sending 5 ∷ (0 ∷ 1 ∷ []) ∷ view none 1 0 1 sending 0 ∷ (0 ∷ 1 ∷ []) ∷ view none 1 0 1 sending 0 ∷ (0 ∷ 0 ∷ []) ∷ []) ∷
    -- a late answer to an Enter marks nothing; "failed" of Enter, before the arrival, and of Exit, after it
    case (modes_ran (given_to (enter 1 1) ++ entry_timer ∷ arrive ∷ []) ((given_to (enter 1 1) ++ failed ∷ []) ∷ (arrive ∷ []) ∷
    (given_to (exit 1 1) ++ arrive ∷ failed ∷ []) ∷ []))
    (view none 1 0 1 sending 0 ∷ (0 ∷ 0 ∷ []) ∷ view none 1 0 1 ready 4 ∷ (0 ∷ 0 ∷ []) ∷ view none 1 0 1 ready 0 ∷ (0 ∷ 1 ∷ []) ∷
    view none 1 0 1 ready 0 ∷ (0 ∷ 0 ∷ []) ∷ []) ∷
    -- a request to exit, and its answer, are lost
    case
    (modes_ran (done_by (enter 1 1) ++ calls (exit 1 1) buffer ∷ lose_request ∷ reach buffer ∷ []) ((exit_timer ∷ given_to (exit 1 1) ++ lose_answer ∷ arrive ∷ []) ∷
    (protocol_errs ∷ []) ∷ []))
    (view none 1 0 1 ready 5 ∷ (0 ∷ 1 ∷ []) ∷ view none 1 0 1 sending 5 ∷ (0 ∷ 1 ∷ []) ∷ view none 1 0 1 sending 0 ∷ (0 ∷ 1 ∷ []) ∷ []) ∷
    -- "enter: 13 if there is a candidate": while modes are missing too. "Sent" of an Enter moves no page, where the dock shows one before the last
    case (modes_ran (takes_page ++ exchange sent ++ asks_by (enter 0xFF01 1)) ((calls start_over buffer ∷ reach buffer ∷ protocol_errs ∷ done_by (enter 1 1)) ∷ []))
    (view (done_with 13) 2 0 1 ready 0 ∷ (0 ∷ 0 ∷ []) ∷ view none 0 0 0 ready 0 ∷ (0 ∷ 1 ∷ []) ∷ []) ∷
    -- modes of the new catalogue: no mark comes with it, and later positions can be entered, here 6 and 3
    case (with_marks (run alike (times 5 (exchange sent)) other_start) ++ with_marks (run alike (times 5 (exchange sent) ++ done_by (enter 0xFFFF 6) ++ done_by (enter 0xFF00 3)) other_start))
    (view none 1 0 0 ready 0 ∷ (0 ∷ 0 ∷ []) ∷ view none 1 0 0 ready 0 ∷ (32 ∷ 4 ∷ []) ∷ []) ∷ []

-- THE NUMBER OF ANSWERS STILL NEEDED, at the start and after each part of a run, where `got` has come
unfoldable pub needed_along : List (List Event) → System → List Message → List ℕ
needed_along [] s got = needed modes_of s.dock got ∷ []
needed_along (events ∷ parts) s got = needed modes_of s.dock got ∷ needed_along parts (run modes_of events s) (received modes_of events s got)

unfoldable pub needed_in : ℕ → List (List Event) → List (List ℕ)
needed_in n parts = needed_along parts (start n) [] ∷ []

-- with 13 SVIDs, once page p comes where Identity and k times page 0 have come
unfoldable pub needed_after : ℕ → ℕ → ℕ
needed_after p k =
    needed modes_of (dock_with 13)
    (with_answer (up_from 1 13) (page_answer (up_from 1 13) p) (replicate k (page_answer (up_from 1 13) 0) ++ identity_answer (dock_with 13) ∷ []))

-- with the other data, after k exchanges in which nothing is lost
unfoldable pub needed_other : ℕ → List ℕ
needed_other k = needed alike other_dock (received alike (times k (exchange sent)) other_start []) ∷ []

-- how many events of a run bring a new answer
unfoldable pub new_along : List Event → System → List Message → ℕ
new_along [] s got = 0
new_along (e ∷ events) s got = cond (brings_new e s got) 1 0 + new_along events (step modes_of e s) (received_by e s got)

unfoldable pub new_answers_in : ℕ → List Event → List (List ℕ)
new_answers_in n events = (new_along events (start n) [] ∷ []) ∷ []

-- k exchanges in which nothing is lost, each a part
abbrev pub exchanges : ℕ → List (List Event)
exchanges k = replicate k (exchange sent)

-- in all, as the dock's data tells it and as document 01 reckons it
abbrev pub needed_in_all : List ℕ → List ℕ
needed_in_all [] = []
needed_in_all (n ∷ sizes) = needed modes_of (dock_with n) [] ∷ in_all_of n ∷ needed_in_all sizes

unfoldable pub needs : List Case
needs =
    -- Identity, n / 12 + 1 pages and the modes of n SVIDs; 2 for an empty list
    case (needed_in_all (0 ∷ 1 ∷ 11 ∷ 12 ∷ 13 ∷ 24 ∷ 36 ∷ 48 ∷ 60 ∷ 71 ∷ 72 ∷ []) ∷ [])
    ((2 ∷ 2 ∷ 3 ∷ 3 ∷ 13 ∷ 13 ∷ 15 ∷ 15 ∷ 16 ∷ 16 ∷ 28 ∷ 28 ∷ 41 ∷ 41 ∷ 54 ∷ 54 ∷ 67 ∷ 67 ∷ 78 ∷ 78 ∷ 80 ∷ 80 ∷ []) ∷ []) ∷
    -- nothing is lost: each exchange lowers it by 1, to 0; the next Identity is that of a new gathering
    case (needed_in 0 (exchanges 2) ++ needed_in 1 (exchanges 4) ++ needed_in 11 (exchanges 13))
    ((2 ∷ 1 ∷ 0 ∷ []) ∷ (3 ∷ 2 ∷ 1 ∷ 0 ∷ 2 ∷ []) ∷ (13 ∷ 12 ∷ 11 ∷ 10 ∷ 9 ∷ 8 ∷ 7 ∷ 6 ∷ 5 ∷ 4 ∷ 3 ∷ 2 ∷ 1 ∷ 0 ∷ []) ∷ []) ∷
    case (needed_in 12 (exchanges 15) ++ needed_in 13 (exchanges 16))
    ((15 ∷ 14 ∷ 13 ∷ 12 ∷ 11 ∷ 10 ∷ 9 ∷ 8 ∷ 7 ∷ 6 ∷ 5 ∷ 4 ∷ 3 ∷ 2 ∷ 1 ∷ 0 ∷ []) ∷
    (16 ∷ 15 ∷ 14 ∷ 13 ∷ 12 ∷ 11 ∷ 10 ∷ 9 ∷ 8 ∷ 7 ∷ 6 ∷ 5 ∷ 4 ∷ 3 ∷ 2 ∷ 1 ∷ 0 ∷ []) ∷ []) ∷
    case (needed_in 24 (exchanges 28))
    ((28 ∷ 27 ∷ 26 ∷ 25 ∷ 24 ∷ 23 ∷ 22 ∷ 21 ∷ 20 ∷ 19 ∷ 18 ∷ 17 ∷ 16 ∷ 15 ∷ 14 ∷ 13 ∷ 12 ∷ 11 ∷ 10 ∷ 9 ∷ 8 ∷ 7 ∷ 6 ∷ 5 ∷ 4 ∷ 3 ∷ 2 ∷ 1 ∷ 0 ∷ []) ∷ []) ∷
    -- a page that comes again, and BUSY to Identity, to SVIDs and to Modes, lower nothing
    case (needed_in 13 (opens_list ∷ exchange failed ∷ exchange failed ∷ exchange sent ∷ exchange sent ∷ [])) ((16 ∷ 15 ∷ 14 ∷ 14 ∷ 14 ∷ 13 ∷ []) ∷ []) ∷
    case
    (needed_in 2 ((answered_with Busy ++ arrive ∷ []) ∷ opens_list ∷ (answered_with Busy ++ arrive ∷ []) ∷ exchange sent ∷ (answered_with Busy ++ arrive ∷ []) ∷
    times 2 (exchange sent) ∷ []))
    ((4 ∷ 4 ∷ 3 ∷ 3 ∷ 2 ∷ 2 ∷ 0 ∷ []) ∷ []) ∷
    -- drop and start over raise it, and a timer does not; nor does a request or an answer that is lost, or one that goes unconfirmed
    case
    (needed_in 13 (takes_page ∷ (calls drop [] ∷ []) ∷ takes_page ∷ (calls start_over buffer ∷ []) ∷ (reach buffer ∷ answer Give buffer ∷ arrive ∷ []) ∷
    (answered_with Give ++ failed ∷ lose_answer ∷ response_timer ∷ calls next buffer ∷ lose_request ∷ protocol_errs ∷ []) ∷ []))
    ((16 ∷ 14 ∷ 16 ∷ 14 ∷ 16 ∷ 15 ∷ 15 ∷ []) ∷ []) ∷
    -- a late page with nothing awaited raises it, one that is taken for a newer request lowers it, and late Modes with nothing awaited do neither
    case
    (needed_in 13 (opens_list ∷ (answered_with Give ++ response_timer ∷ arrive ∷ []) ∷ opens_list ∷
    (answered_with Give ++ response_timer ∷ calls next buffer ∷ arrive ∷ []) ∷ (sent ∷ exchange sent) ∷ (answered_with Give ++ protocol_errs ∷ arrive ∷ []) ∷ exchange sent ∷ []))
    ((16 ∷ 15 ∷ 16 ∷ 15 ∷ 14 ∷ 13 ∷ 13 ∷ 12 ∷ []) ∷ []) ∷
    -- the two hundredth page without an end raises it, and one that ends the list lowers it
    case ((needed_after 0 198 ∷ needed_after 0 199 ∷ needed_after 1 199 ∷ []) ∷ []) ((14 ∷ 16 ∷ 13 ∷ []) ∷ []) ∷
    -- calls that are refused, late BUSY and a late Identity with nothing awaited change nothing, and an answer that is confirmed before it arrives lowers it
    case
    (needed_in 13 (takes_page ∷ (calls next buffer ∷ calls drop [] ∷ calls start_over buffer ∷ []) ∷ (protocol_errs ∷ protocol_errs ∷ response_timer ∷ []) ∷
    (answered_with Busy ++ response_timer ∷ arrive ∷ []) ∷ []) ++
    needed_in 2 ((answered_with Give ++ response_timer ∷ arrive ∷ []) ∷ (answered_with Give ++ sent ∷ arrive ∷ []) ∷ []))
    ((16 ∷ 14 ∷ 14 ∷ 14 ∷ 14 ∷ []) ∷ (4 ∷ 4 ∷ 3 ∷ []) ∷ []) ∷
    -- SVIDs with the same modes, and Modes with the objects of the identity, are told apart
    case (needed_other 0 ∷ needed_other 1 ∷ needed_other 2 ∷ needed_other 3 ∷ needed_other 4 ∷ needed_other 5 ∷ [] ∷ [])
    ((5 ∷ []) ∷ (4 ∷ []) ∷ (3 ∷ []) ∷ (2 ∷ []) ∷ (1 ∷ []) ∷ (0 ∷ []) ∷ [] ∷ []) ∷
    -- what is new: Identity and a page; not BUSY, the page again, a page with nothing awaited, nor what the dock says to Enter
    case
    (new_answers_in 13 (opens_list ++ answered_with Busy ++ arrive ∷ exchange failed ++ exchange sent ++ answered_with Give ++ response_timer ∷ arrive ∷ []) ++
    new_answers_in 13 (done_by (enter 1 1)))
    ((2 ∷ []) ∷ (0 ∷ []) ∷ []) ∷ []

-- every run
unfoldable pub runs : List Case
runs = losses ++ confirmations ++ late_answers ++ policies ++ mode_runs ++ endings ++ replacements ++ needs
