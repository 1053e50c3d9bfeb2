-- Each of the runs over the link gives what the rules of document 01 say.
use mathlib.Core.Path.{◌≡◌, refl}
use Prim.Native.Nat.{ℕ}
use mathlib.Core.List.{List, [], ◌∷◌}
use Rattle.messages.specs.Editions.{edition_of, lower}
use Rattle.messages.specs.Layout.{bytes_of_object, objects_of, bytes_of, edition_said, head_of, header_of, message_bytes}
use Rattle.messages.specs.Reading.{read_refusal, message_in, edition_in, outcome, read_outcome}
use Rattle.messages.specs.Table.{row_of, counts_of, fits, shape}
use Rattle.messages.specs.Writing.{well_shaped, write_refusal, written}
use Rattle.pages.specs.Lists.{is_in, sound_list}
use Rattle.pages.specs.Pages.{paired, halves, values, page, is_last, read_off}
use Rattle.taking.specs.Taking.{same_list, is_repeat, is_full, is_ending, all_new, adds, ending_verdict, verdict}
use Rattle.dock.specs.Data.{good_identity, loaded}
use Rattle.dock.specs.Dock.{step_of, buffer_of, asking, sending, decide_request, decide_message, give_page, give_identity, give_modes, give_other, bare, decide_policy, decide_policy_answer, moved, decide_sent, decide_failed}
use Rattle.gathering.specs.Gathering.{hear_identity, unless_last, take_as, take_page, none_gathered, hear_svids}
use Rattle.hearing.specs.Answers.{store_modes, hear_modes, declined_as, hear_mode, is_whole, is_mode, copied}
use Rattle.laptop.specs.Calls.{unless, short_runs}
use Rattle.laptop.specs.Calls.{step_of as laptop_step_of}
use Rattle.laptop.specs.Calls.{buffer_of as laptop_buffer_of}
use Rattle.laptop.specs.Catalogue.{modes_number, modes_at, entries_from}
use Rattle.hearing.specs.Hearing.{is_late_page, hear_unawaited, step_if_whole, list_if_whole, run_if_whole, publishing, hear_answer, hear, heard}
use Rattle.owner.specs.Owner.{owner_refusal, any_entered, asking_refusal, asks_next, decide_next, decide_start_over, decide_drop, has_mode, enter_refusal, decide_enter, exit_refusal, decide_exit}
use Rattle.laptop.specs.State.{counted}
use Rattle.timers.specs.Timers.{over, decide_timer, decide_error}
use Rattle.catalogue.specs.Bytes.{svid_bytes, mode_bytes, modes_bytes, entry_bytes, entries_bytes, catalogue_bytes, held_catalogue, held_bytes}
use Rattle.link.specs.Demand.{held_in, held_words}
use Rattle.link.specs.Joined.{System}
use Rattle.link.specs.Link.{way_after, called, handed_over, is_fair, brought, is_unsure, opens, step, run}
use Rattle.link.specs.Cases.{after}
use Rattle.link.specs.Freedoms.{holds_whole, held_run_of, with_marks, mode_story, modes_ran, needed_along, needed_in, needed_after, other_dock, needed_other, new_along, new_answers_in, losses, confirmations, late_answers, policies, replacements, endings, mode_runs, needs, runs}
use Rattle.link.specs.Seeing.{computed, dock_with, start, numbers_of, held, seen, story, ran, refusals, refusing, same_lists, differing_from, differing}
use Rattle.link.specs.Needed.{list_answers, same_message, is_listing, is_too_many, is_answer, is_late, with_answer, with_taken, with_message, begins_anew, received_by, received, is_new, new_in}
use Rattle.laptop.specs.Marks.{place_of, named, is_entered, marked_by, marks_after}

-- what is computed once is the same
pub computed_is : (list : List ℕ) (f : List ℕ → List ℕ) → computed list f ≡ f list
computed_is [] f = refl
computed_is (x ∷ list) f = computed_is list (λ rest. f (x ∷ rest))

-- the bytes seen in the runs are those of the catalogue that demand 3 speaks of
pub held_is : (s : System) → held s ≡ held_bytes (held_in (held_words s))
unfolding held
held_is s =
    computed_is s.memory.held_run
    (λ words. held_bytes (held_catalogue s.laptop.held s.memory.held_identity s.memory.held_svids s.memory.held_modes words))

pub runs_hold : differing runs ≡ []
unfolding
    losses confirmations late_answers policies replacements endings mode_runs needs runs dock_with start numbers_of held seen story ran refusals
    refusing same_lists differing_from holds_whole held_run_of with_marks mode_story modes_ran needed_along needed_in needed_after other_dock needed_other new_along new_answers_in is_new new_in after list_answers same_message
    is_listing is_too_many is_answer is_late with_answer with_taken with_message begins_anew received_by received place_of named is_entered marked_by marks_after has_mode
    enter_refusal decide_enter exit_refusal decide_exit declined_as hear_mode edition_of lower bytes_of_object objects_of bytes_of edition_said head_of header_of message_bytes read_refusal message_in edition_in
    outcome read_outcome row_of counts_of fits shape well_shaped write_refusal written is_in sound_list paired halves values page is_last read_off same_list is_repeat
    is_full is_ending all_new adds ending_verdict verdict good_identity loaded step_of buffer_of asking sending decide_request decide_message give_page give_identity
    give_modes give_other bare decide_policy decide_policy_answer moved decide_sent decide_failed hear_identity unless_last take_as take_page none_gathered hear_svids store_modes hear_modes
    is_whole is_mode copied unless short_runs laptop_step_of laptop_buffer_of modes_number modes_at entries_from is_late_page hear_unawaited step_if_whole list_if_whole
    run_if_whole publishing hear_answer hear heard owner_refusal any_entered asking_refusal asks_next decide_next decide_start_over decide_drop over decide_timer decide_error
    counted svid_bytes mode_bytes modes_bytes entry_bytes entries_bytes catalogue_bytes held_bytes way_after called handed_over is_fair brought is_unsure opens step
    run
runs_hold = refl
