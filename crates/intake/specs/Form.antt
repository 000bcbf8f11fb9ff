-- The form of a log, told by what it is made of  [02 order 6].
use Rattle.std.specs.Prelude.{List, [], ◌∷◌, ◌++◌, ℕ}
use Rattle.sheet.specs.Form.{Entry}
use Rattle.intake.specs.Log.{log_width}

-- each order after its length in four bytes, low first
unfoldable pub log_bytes : List (Entry log_width) → List ℕ
log_bytes [] = []
log_bytes (e ∷ es) = e.head ++ (e.bytes ++ log_bytes es)

unfoldable pub orders_of : List (Entry log_width) → List (List ℕ)
orders_of [] = []
orders_of (e ∷ es) = e.bytes ∷ orders_of es
