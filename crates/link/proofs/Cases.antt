-- Each of the cases gives what the paper says.
use mathlib.Core.Path.{◌≡◌, refl}
use Rattle.messages.specs.Editions.{edition_of, lower}
use Rattle.messages.specs.Layout.{bytes_of_object, objects_of, bytes_of, edition_said, head_of, header_of, message_bytes}
use Rattle.messages.specs.Reading.{read_refusal, message_in, edition_in, outcome, read_outcome}
use Rattle.messages.specs.Table.{row_of, counts_of, fits, shape}
use Rattle.messages.specs.Writing.{well_shaped, write_refusal, written}
use Rattle.pages.specs.Lists.{is_in, sound_list}
use Rattle.pages.specs.Pages.{paired, halves, values, page, is_last, read_off}
use Rattle.taking.specs.Taking.{same_list, is_repeat, is_full, is_ending, all_new, adds, ending_verdict, verdict}
use Rattle.dock.specs.Data.{good_identity, loaded}
use Rattle.dock.specs.Dock.{step_of, buffer_of, asking, sending, decide_request, decide_message, give_page, give_identity, give_modes, give_other, bare, decide_policy, decide_policy_answer, moved, decide_sent, decide_failed}
use Rattle.gathering.specs.Gathering.{hear_identity, unless_last, take_as, take_page, none_gathered, hear_svids}
use Rattle.hearing.specs.Answers.{store_modes, hear_modes, declined_as, hear_mode, is_whole, is_mode, copied}
use Rattle.laptop.specs.Calls.{unless, short_runs}
use Rattle.laptop.specs.Calls.{step_of as laptop_step_of}
use Rattle.laptop.specs.Calls.{buffer_of as laptop_buffer_of}
use Rattle.laptop.specs.Catalogue.{modes_number, modes_at, entries_from}
use Rattle.hearing.specs.Hearing.{is_late_page, hear_unawaited, step_if_whole, list_if_whole, run_if_whole, publishing, hear_answer, hear, heard}
use Rattle.owner.specs.Owner.{owner_refusal, any_entered, asking_refusal, asks_next, decide_next, decide_start_over, decide_drop, has_mode, enter_refusal, decide_enter, exit_refusal, decide_exit}
use Rattle.laptop.specs.Marks.{place_of, named, is_entered, marked_by, marks_after}
use Rattle.laptop.specs.State.{counted}
use Rattle.timers.specs.Timers.{over, decide_timer, decide_error}
use Rattle.catalogue.specs.Bytes.{svid_bytes, mode_bytes, modes_bytes, entry_bytes, entries_bytes, catalogue_bytes, held_bytes}
use Rattle.link.specs.Link.{way_after, called, handed_over, is_fair, brought, is_unsure, opens, step, run}
use Rattle.link.specs.Editions.{read_as, written_again, again, heard_by, sent_by, at_once, says, sent_with, readings, answering, requesting, edition_cases}
use Rattle.link.specs.Cases.{dock_of, asked, offer, confirmed, shown, answers, told, after, held_at, nak_after_page, counts, cases, line, lines, case_l, given, said}

pub cases_hold : (given cases ≡ said cases) × (given case_l ≡ said case_l)
unfolding
    cases line lines case_l dock_of asked offer confirmed shown answers told after held_at nak_after_page counts
    edition_of lower bytes_of_object objects_of bytes_of edition_said head_of header_of message_bytes read_refusal message_in edition_in outcome read_outcome row_of counts_of fits shape well_shaped write_refusal written
    is_in sound_list paired halves values page is_last read_off same_list is_repeat is_full is_ending all_new adds ending_verdict verdict
    good_identity loaded step_of buffer_of asking sending decide_request decide_message give_page give_identity give_modes give_other bare decide_policy decide_policy_answer moved decide_sent decide_failed
    hear_identity unless_last take_as take_page none_gathered hear_svids store_modes hear_modes is_whole is_mode copied unless short_runs laptop_step_of laptop_buffer_of
    modes_number modes_at entries_from is_late_page hear_unawaited step_if_whole list_if_whole run_if_whole publishing hear_answer hear heard
    owner_refusal any_entered asking_refusal asks_next decide_next over decide_timer counted
    svid_bytes mode_bytes modes_bytes entry_bytes entries_bytes catalogue_bytes held_bytes
    way_after called handed_over is_fair brought is_unsure opens step run
cases_hold = (refl, refl)

-- and so does 02's R-5
pub editions_hold : given edition_cases ≡ said edition_cases
unfolding
    edition_cases readings answering requesting read_as written_again again heard_by sent_by at_once says sent_with dock_of told after
    edition_of lower bytes_of_object objects_of bytes_of edition_said head_of header_of message_bytes read_refusal message_in edition_in outcome read_outcome row_of counts_of fits shape well_shaped write_refusal written
    is_in sound_list paired halves values page is_last read_off same_list is_repeat is_full is_ending all_new adds ending_verdict verdict
    good_identity loaded step_of buffer_of asking sending decide_request decide_message give_page give_identity give_modes give_other bare decide_policy decide_policy_answer moved decide_sent decide_failed
    hear_identity unless_last take_as take_page none_gathered hear_svids store_modes hear_modes is_whole is_mode copied unless short_runs laptop_step_of laptop_buffer_of
    modes_number modes_at entries_from is_late_page hear_unawaited step_if_whole list_if_whole run_if_whole publishing hear_answer hear heard
    owner_refusal any_entered asking_refusal asks_next decide_next decide_start_over decide_drop has_mode enter_refusal decide_enter exit_refusal decide_exit over decide_timer decide_error
    counted declined_as hear_mode place_of named is_entered marked_by marks_after
editions_hold = refl
