-- What a name is as a key, what a plain record of a name means, and which bytes make a name.
use Rattle.std.specs.Prelude.{ℕ, Bool, cond, ◌&&◌, List, length, take, drop, Some, None, Ok, Err, Option, Result, nat_le}
use Rattle.seating.specs.Layouts.{Key}
use Rattle.names.specs.Blank.{blank}
use Rattle.names.specs.declared.name.Name.{Name}
use Rattle.names.specs.declared.name.NameRecord.{NameRecord}
use Rattle.keys.specs.declared.refusal.Refusal.{Refusal}
use Rattle.keys.specs.declared.refusal.Refusal.TheVariants.{NameLength}

-- a name is the bytes in front of its text
abbrev pub name_bytes : Name → Key
name_bytes k = take k.record.len k.record.text

-- 1 to 15 bytes
abbrev pub name_long : ℕ → Bool
name_long n = nat_le 1 n && nat_le n 15

-- a record is a name's if its length is one and all behind its last byte is zero
abbrev pub name_of : NameRecord → Option Key
name_of r = cond (name_long r.len && blank (drop r.len r.text)) (Some (take r.len r.text)) None

-- the bytes of a name are those that it is made from
abbrev pub name_from : List ℕ → Result Key Refusal
name_from bs = cond (name_long (length bs)) (Ok bs) (Err NameLength)
