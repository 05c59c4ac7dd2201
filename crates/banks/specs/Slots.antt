-- Slots as a list: what an answer says of a slot, and which slots there are.
use Rattle.std.specs.Prelude.{ℕ, cond, List, length, Some, None, Ok, Err, Option, Result, nat_lt, slice_index_or}
use Rattle.seating.specs.Layouts.{Key, Content, vacant, holding}
use Rattle.keys.specs.declared.refusal.Refusal.{Refusal}
use Rattle.keys.specs.declared.refusal.Refusal.TheVariants.{NoSlot}
use Rattle.banks.specs.declared.bank.Entry.{Entry}

-- what a slot holds, said by a key and a value, or by none
abbrev pub content_of : {K : Type 0} → (K → Key) → Option (Entry K) → Content
content_of bytes None = vacant
content_of bytes (Some e) = holding (bytes e.key) e.value

-- an answer for a slot that is there; for one past the end, refusal 5
abbrev pub answer_at : {X : Type 0} → List Content → ℕ → X → Result X Refusal
answer_at xs i x = cond (nat_lt i (length xs)) (Ok x) (Err NoSlot)

-- what a read of slot i answers
abbrev pub read_of : List Content → ℕ → Result Content Refusal
read_of xs i = answer_at xs i (slice_index_or xs i vacant)

-- what a write or an emptying of slot i answers
abbrev pub done_at : List Content → ℕ → Result Unit Refusal
done_at xs i = answer_at xs i tt
