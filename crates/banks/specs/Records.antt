-- What slot records mean.
use Rattle.std.specs.Prelude.{Some, None, Option}
use Rattle.seating.specs.Layouts.{Key, Value, Content, vacant, holding}
use Rattle.banks.specs.declared.bank.Entry.{Entry}

-- a key, if there is one, with a value
abbrev pub keyed : Option Key → Value → Content
keyed None v = vacant
keyed (Some k) v = holding k v

-- a slot is vacant if it is marked empty, or if its record is that of no key
abbrev pub record_means : {R : Type 0} → (R → Option Key) → Option (Entry R) → Content
record_means means None = vacant
record_means means (Some e) = keyed (means e.key) e.value
