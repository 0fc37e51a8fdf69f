-- For each function the laws that it is proved by, beside what is tried at every goal. Assumes nothing.
use Rattle.sound.proofs.Parts.{sizes, types-length, types-table, rows-length, rows-table, entries-table, shape-closed, none_seen, leaf-told, good-told, rows_shown, entry-late, entry-unground, entry-not-zero, entry-good, entry_at, entry-count, call-other, call-found, calls-out, long-enough, no-head, no-space, no-types, the_rest, the_others, entries-read, calls_are, no-calls, no-futures, only-program, program-told, no-shape, no-term, call-above, call_below, calls-risen, types-zero, calls-zero, rows-zero}
use Rattle.types.proofs.BadLaws.{says_nothing}
use Rattle.sound.proofs.Laws.{other-kind, a-future, every-on, every-not, every-end, bounds-none, bounds-more, bounds-all, fronts-none, fronts-more, fronts-all, fails, passes}
use Rattle.sound.proofs.HeadLaws.{types-none, types-over, rows_none, rows-over, calls-over, next-none, next-over, counts-fit, edition-at, head-marked, head-unmarked, mark-first, mark-second, mark-third, other-edition, zero-byte, next-at, calls-at, program-at, rows-at, types-at}
use lib.ListN.{length-drop}
use lib.Seq.{length-take-le}

pub ruleset entries_sound_laws = (says_nothing, every-on, every-not, every-end, entry-late, entry-unground, entry-not-zero, entry-good, entry_at, entry-count)

pub ruleset few_zero_laws = (bounds-none, bounds-more, bounds-all)

pub ruleset four_zero_laws = (fronts-none, fronts-more, fronts-all)

pub ruleset head_counts_fit_laws = (types-none, types-over, rows_none, rows-over, calls-over, next-none, next-over, counts-fit)

pub ruleset head_edition_laws = (edition-at)

pub ruleset head_head_sound_laws = (head-marked, head-unmarked)

pub ruleset head_is_marked_laws = (mark-first, mark-second, mark-third, other-edition, zero-byte)

pub ruleset head_next_number_laws = (next-at)

pub ruleset head_open_count_laws = (calls-at)

pub ruleset head_program_type_laws = (program-at)

pub ruleset head_row_count_laws = (rows-at)

pub ruleset head_type_count_laws = (types-at)

pub ruleset is_listed_laws = (call-other, call-found, calls-out, other-kind, a-future)

pub ruleset is_sound_laws = (long-enough, no-head, no-space, no-types, the_rest, the_others)

pub ruleset open_list_laws = (length-drop, length-take-le, sizes, entries-read, calls_are)

pub ruleset others_sound_laws = (no-calls, no-futures, only-program)

pub ruleset rest_sound_laws = (no-shape, no-term, the_others)

pub ruleset rising_laws = (call-above, call_below, calls-risen)

pub ruleset space_sound_laws = (fails, passes, sizes, types-zero, calls-zero, rows-zero)

pub ruleset types_of_laws = (types-length, types-table)

pub ruleset rows_of_laws = (sizes, rows-length, rows-table)

pub ruleset entries_of_laws = (sizes, entries-table)

pub ruleset parts_laws = (sizes, fails, passes, shape-closed, none_seen, leaf-told, good-told, rows_shown, program-told)
