-- The corners of 02's R-6 get what is written beside them, by computing.
use mathlib.Core.Path.{◌≡◌, refl}
use Rattle.messages.specs.Layout.{bytes_of_object, objects_of, bytes_of}
use Rattle.pages.specs.Lists.{is_in}
use Rattle.catalogue.specs.Bytes.{svid_bytes, mode_bytes, modes_bytes, entry_bytes, entries_bytes, catalogue_bytes, written_into}
use Rattle.records.specs.Records.{is_identity, is_known, body_length, svid_in, mode_in, record_of, found_in}
use Rattle.judging.specs.Judging.{ended, turn, length_of, with, walk_from, judgement_of}
use Rattle.judging.specs.Walking.{svids_of, all_modes, last_number, walk_of, is_bare, may_follow, with_mode, added}
use Rattle.mending.specs.Cases.{cases, given, said}
use Rattle.mending.specs.Mending.{without_bare, kept_of, kept_bytes, mend_refusal, report_of, outcome_of, mended_as, mended_bytes, mending_of}

pub cases_hold : given cases ≡ said cases
unfolding bytes_of_object objects_of bytes_of is_in svid_bytes mode_bytes modes_bytes entry_bytes entries_bytes catalogue_bytes written_into is_identity is_known body_length svid_in mode_in record_of found_in ended turn length_of with walk_from judgement_of svids_of all_modes last_number walk_of is_bare may_follow with_mode added without_bare kept_of kept_bytes mend_refusal report_of outcome_of mended_as mended_bytes mending_of
cases_hold = refl
