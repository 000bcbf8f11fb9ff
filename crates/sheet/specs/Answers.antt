-- The answer to an order, and what is left in the lent output  [02 order 5].
use Rattle.std.specs.Prelude.{Bool, true, false, List, ◌++◌, ℕ, length, drop, leb}
use Rattle.text.specs.Number
use Rattle.text.specs.Limits.{text_limit}
use Rattle.sheet.specs.Faults.{Judged, Refused, Good, judged, OpenFaults}
use Rattle.sheet.specs.Sheet.{sheet, OpenSheet}

pub record Outcome : Type 0 where
  pub number : ℕ
  pub count : ℕ
  pub output : List ℕ

abbrev pub outcome : ℕ → ℕ → List ℕ → Outcome
outcome n c t = record { number = n; count = c; output = t }

abbrev pub require : Bool → Outcome → Outcome → Outcome
require true refusal rest = rest
require false refusal rest = refusal

-- A sheet x and the lent output t: 1 sheet over 65,536 bytes; 16 no room, with the bytes needed. What is past the sheet stays as it was.
unfoldable pub put_out : List ℕ → List ℕ → Outcome
put_out x t =
    require (leb (length x) text_limit) (outcome Number.too_long 0 t)
    (require (leb (length x) (length t)) (outcome Number.short_output (length x) t)
    (outcome Number.done (length x) (x ++ drop (length x) t)))

-- On a refusal the lent output stays as it was; the count is the sheet's length, for 16 the bytes needed, else 0.
unfoldable pub outcome_for : Judged → List ℕ → Outcome
unfolding put_out
outcome_for (Refused n) t = outcome n 0 t
outcome_for (Good o) t = put_out (sheet o) t

unfoldable pub write_sheet : List ℕ → List ℕ → Outcome
unfolding outcome_for
write_sheet x t = outcome_for (judged x) t

-- opens the definitions of this file and of those it stands on, for computed examples
unfoldable pub OpenAnswers : Type 1
unfolding OpenFaults OpenSheet put_out outcome_for write_sheet
OpenAnswers = Type 0
