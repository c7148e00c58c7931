-- What a function appends to a vector. Cited by contracts.
use Rattle.std.specs.Prelude.{◌≡◌, List, ◌++◌, Vec, Result, OnOk}

-- unless the call fails, the vector ends as it was with these items behind
abbrev pub AppendsOnOk : {T E A Z : Type 0} → Result T E → Vec A Z → Vec A Z → List A → Type 0
AppendsOnOk result old new items = OnOk result (new.items ≡ old.items ++ items)
