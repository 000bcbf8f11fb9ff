-- A log of orders  [02 order 6]: each after its length in four bytes, low first.
use Rattle.std.specs.Prelude.{true, false, List, [], ◌∷◌, ℕ, zero, suc, length}
use Rattle.std.proofs.Math.Option.{Option, none, some}
use Rattle.text.specs.Number
use Rattle.text.specs.Runs.{is_empty}
use Rattle.sheet.specs.Buffer.{sized, and_then}
use Rattle.intake.specs.Book.{Book}
use Rattle.intake.specs.Call.{Call, call_of, call, OpenCall}

-- in how many bytes an order's length is given
abbrev pub log_width : ℕ
log_width = 4

-- The orders of a log; none where it is cut short. n only makes the recursion end: it is at least the log's length.
unfoldable pub orders_from : ℕ → List ℕ → Option (List (List ℕ))
orders_from zero x = elim (is_empty x) [ true ↦ some [] | false ↦ none ]
orders_from (suc n) x =
    elim (is_empty x)
    [ true ↦ some [] | false ↦ and_then (sized log_width x) (λ c. and_then (orders_from n c.rest) (λ os. some (c.bytes ∷ os))) ]

unfoldable pub orders_in : List ℕ → Option (List (List ℕ))
unfolding orders_from
orders_in x = orders_from (length x) x

-- single calls in turn, each handed the bytes in use that the last gave
unfoldable pub run : Book → List (List ℕ) → Book
run b [] = b
run b (x ∷ xs) = run (call b x).after xs

-- 27 cut short, before any call, book as before. Else the log ends as the calls in turn: those refused are passed over.
unfoldable pub played_for : Book → Option (List (List ℕ)) → Call
unfolding run
played_for b none = call_of Number.cut_log b
played_for b (some os) = call_of Number.done (run b os)

unfoldable pub played : Book → List ℕ → Call
unfolding orders_in played_for
played b x = played_for b (orders_in x)

-- opens the definitions of this file, of those of this crate that it stands on, and of sheet, for computed examples
unfoldable pub OpenLog : Type 1
unfolding OpenCall orders_from orders_in run played_for played
OpenLog = Type 0
