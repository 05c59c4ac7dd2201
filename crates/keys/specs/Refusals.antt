-- The refusals by number, the values that one carries, and its text.
use Rattle.std.specs.Prelude.{ℕ, List, [], ◌∷◌, ◌++◌, codes, decimal}
use Rattle.std.specs.List.{flat_map}
use Rattle.keys.specs.declared.refusal.Refusal.{Refusal}
use Rattle.keys.specs.declared.refusal.Refusal.TheVariants.{Size, BankShort, LentShort, Full, NoSlot, NotHeld, NameLength, BadLine, OutOfTurn}

abbrev pub number_of : Refusal → ℕ
number_of Size = 1
number_of BankShort = 2
number_of LentShort = 3
number_of (Full n) = 4
number_of NoSlot = 5
number_of NotHeld = 6
number_of NameLength = 7
number_of BadLine = 8
number_of OutOfTurn = 9

-- of a full table, how many slots its blocking set has
abbrev pub values_of : Refusal → List ℕ
values_of Size = []
values_of BankShort = []
values_of LentShort = []
values_of (Full n) = n ∷ []
values_of NoSlot = []
values_of NotHeld = []
values_of NameLength = []
values_of BadLine = []
values_of OutOfTurn = []

-- `refused`, the number, and the values, parted by spaces
abbrev pub refusal_text : Refusal → List ℕ
refusal_text r = codes "refused " ++ (decimal (number_of r) ++ flat_map (λ n. codes " " ++ decimal n) (values_of r))
