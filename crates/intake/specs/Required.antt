-- The two keys that an order must carry  [02 order 6].
use Rattle.std.specs.Prelude.{Bool, ◌||◌, List, [], ℕ}
use Rattle.std.proofs.Math.Option.{get_or}
use Rattle.text.specs.Runs.{word, is_empty}
use Rattle.sheet.specs.Order.{Order, value_for}
use Rattle.sheet.specs.Answers.{OpenAnswers}

abbrev pub request_key : List ℕ
request_key = word "REQUEST"

abbrev pub vin_key : List ℕ
vin_key = word "VIN"

-- a key's value, empty where it is missing
unfoldable pub value_of : List ℕ → Order → List ℕ
value_of k o = get_or (value_for k o.pairs) []

abbrev pub request_of : Order → List ℕ
request_of o = value_of request_key o

abbrev pub vin_of : Order → List ℕ
vin_of o = value_of vin_key o

-- 17: `REQUEST`, then `VIN`, missing or empty
unfoldable pub lacks_key : Order → Bool
unfolding value_of
lacks_key o = is_empty (request_of o) || is_empty (vin_of o)

-- opens the definitions of this file, of those of this crate that it stands on, and of sheet, for computed examples
unfoldable pub OpenRequired : Type 1
unfolding OpenAnswers value_of lacks_key
OpenRequired = Type 0
