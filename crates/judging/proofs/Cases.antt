-- The corners of 02's R-1 get what is written beside them, by computing.
use mathlib.Core.Path.{◌≡◌, refl}
use Rattle.messages.specs.Layout.{objects_of}
use Rattle.pages.specs.Lists.{is_in}
use Rattle.records.specs.Records.{is_identity, is_known, body_length, svid_in, mode_in, record_of, found_in}
use Rattle.judging.specs.Cases.{cases, given, said}
use Rattle.judging.specs.Judging.{ended, turn, length_of, with, walk_from, judgement_of}
use Rattle.judging.specs.Walking.{svids_of, all_modes, last_number, walk_of, is_bare, may_follow, with_mode, added}

pub cases_hold : given cases ≡ said cases
unfolding objects_of is_in is_identity is_known body_length svid_in mode_in record_of found_in ended turn length_of with walk_from judgement_of svids_of all_modes last_number walk_of is_bare may_follow with_mode added
cases_hold = refl
