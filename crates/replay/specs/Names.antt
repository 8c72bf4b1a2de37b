-- Names and sources as the ledger has them.
use Rattle.std.specs.Prelude.{Some, None, Option}
use Rattle.ledger.specs.Actions.{Name as Name', Source as Source', from, initial, name}
use Rattle.replay.specs.declared.names.Name.{Name}

abbrev pub name_of : Name → Name'
name_of a = name a.thread a.position

-- nothing is the start
abbrev pub source_of : Option Name → Source'
source_of None = initial
source_of (Some a) = from (name_of a)
