-- For each function the laws that it is proved by, beside what is tried at every goal. Assumes nothing.
use Rattle.open.proofs.Listing.{opened-length, closed-list, closed-count, opened-at, listed-on, listed-hit, listed-out, without_on, without-hit, without-out}
use Rattle.open.proofs.Stored.{store-more, stored, entry_read, read_more, entry-put}
use lib.ListN.{length-map, length-set}
use Rattle.meaning.proofs.Bytes.Layouts.{length-reads}

pub ruleset OpenList_closed_laws = (opened-length, closed-list, closed-count)

pub ruleset OpenList_find_laws = (opened-length, opened-at, listed-on, listed-hit, listed-out)

pub ruleset OpenList_place_laws = (opened-length, opened-at, without_on, without-hit, without-out)

pub ruleset OpenList_store_laws = (store-more, stored)

pub ruleset load_laws = (length-map, length-set, length-reads, entry_read, read_more)

pub ruleset put_entry_laws = (entry-put)
