-- Each of the histories gives what is said.
use mathlib.Core.Path.{◌≡◌, refl}
use Rattle.messages.specs.Editions.{edition_of, lower}
use Rattle.messages.specs.Layout.{bytes_of_object, objects_of, bytes_of, edition_said, head_of, header_of, message_bytes}
use Rattle.messages.specs.Reading.{read_refusal, message_in, edition_in, outcome, read_outcome}
use Rattle.messages.specs.Table.{row_of, counts_of, fits, shape}
use Rattle.messages.specs.Writing.{well_shaped, write_refusal, written}
use Rattle.pages.specs.Lists.{is_in}
use Rattle.pages.specs.Pages.{paired, halves, read_off}
use Rattle.taking.specs.Taking.{same_list, is_repeat, is_full, is_ending, all_new, adds, ending_verdict, verdict}
use Rattle.gathering.specs.Gathering.{hear_identity, unless_last, take_as, take_page, none_gathered, hear_svids}
use Rattle.hearing.specs.Answers.{store_modes, hear_modes, hear_mode, declined_as, is_whole, is_mode, copied}
use Rattle.laptop.specs.Calls.{step_of, buffer_of, unless, short_runs}
use Rattle.laptop.specs.Marks.{place_of, named, is_entered, marked_by, marks_after}
use Rattle.laptop.specs.Catalogue.{modes_number}
use Rattle.laptop.specs.State.{counted}
use Rattle.hearing.specs.Hearing.{hear_request, is_late_page, hear_unawaited, step_if_whole, list_if_whole, run_if_whole, publishing, hear_answer, hear, heard}
use Rattle.owner.specs.Owner.{owner_refusal, any_entered, asking_refusal, asks_next, decide_next, decide_start_over, decide_drop, has_mode, enter_refusal, decide_enter, exit_refusal, decide_exit}
use Rattle.timers.specs.Timers.{over, decide_timer, decide_error}
use Rattle.port.specs.Calls.{owners_refusal}
use Rattle.port.specs.Sides.{seen, put_back}
use Rattle.port_laws.specs.Cases.{lines_from, interleaved, late_page, short_run, modes_entered, editions, given, said}

pub cases_hold : given ≡ said
unfolding
    lines_from interleaved late_page short_run modes_entered editions seen put_back owners_refusal edition_of lower
    bytes_of_object objects_of bytes_of edition_said head_of header_of message_bytes read_refusal message_in edition_in outcome read_outcome row_of counts_of fits shape well_shaped write_refusal written
    is_in paired halves read_off same_list is_repeat is_full is_ending all_new adds ending_verdict verdict
    hear_identity unless_last take_as take_page none_gathered hear_svids store_modes hear_modes hear_mode declined_as is_whole is_mode copied step_of buffer_of unless short_runs
    place_of named is_entered marked_by marks_after modes_number counted hear_request is_late_page hear_unawaited step_if_whole list_if_whole run_if_whole publishing hear_answer hear heard
    owner_refusal any_entered asking_refusal asks_next decide_next decide_start_over decide_drop has_mode enter_refusal decide_enter exit_refusal decide_exit over decide_timer decide_error
cases_hold = refl
