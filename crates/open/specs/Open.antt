-- The entries that an open list by value holds. Assumes nothing.
use Rattle.std.specs.Prelude.{◌≡◌, List, map, length, take}
use Rattle.meaning.specs.Records.{Entry as Call}
use Rattle.open.specs.declared.entries.Entry.{Entry}
use Rattle.open.specs.declared.entries.OpenList.{OpenList}

-- a call under its number, with the type of its reply
abbrev pub call : Entry → Call
call e = record { number = e.number; type = e.ty }

-- the entries in use: there are at most 64 open calls
abbrev pub opened : OpenList → List Call
opened o = map call (take o.count o.entries)

-- the list holds just these, and counts them
pub record Lists (o : OpenList) (es : List Call) : Type 0 where
  pub entries : opened o ≡ es
  pub count : o.count ≡ length es
