-- What is printed for the answer and the table that a reading call left is what is printed for its text. Assumes nothing.
use mathlib.Core.Path.{◌≡◌}
use mathlib.Core.List.{List}
use Prim.Native.Nat.{ℕ}
use Rattle.reading.specs.Answers.{Answer, answer, number, count}
use Rattle.reading.specs.Promises.{Settled}
use Rattle.orgtable.specs.Printed.{printed, printed_text}

-- of a reading call with text s and table t, which answered a and left t'
module _ (s t : List ℕ) (a : Answer) (t' : List ℕ) (h : Settled s t a t') where
  pub settled-printed : printed (number a) (count a) t' ≡ printed_text s t
  unfolding answer
  settled-printed = rw (h.left, h.answers, h.reads)
