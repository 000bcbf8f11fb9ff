-- `rules::closer::closer_byte` meets its contract: a byte of two lists, one after the other, is one of the first or of the second.
-- Assumes nothing.
use mathlib.Core.Path.{◌≡◌, sym, ap, ◌∙◌}
use mathlib.Core.List.{List, ◌++◌}
use Prim.Native.Nat.{ℕ, ◌+◌, ◌-◌, ◌≤◌}
use native.Mathlib.Omega.{arith}
use lib.ListN.{length, get_or, length-append, get_or-append}
use lib.Seq.{get_or-append-add}
use Rattle.rules.proofs.closer.closer_byte.Goals as goal

get_d-second : (x y : List ℕ) (j : ℕ) → length x ≤ j → get_or y (j - length x) 0 ≡ get_or (x ++ y) j 0
get_d-second x y j h =
    let n : length x + (j - length x) ≡ j = omega arith in
    sym (get_or-append-add x y (j - length x) 0) ∙ ap (λ (k : ℕ). get_or (x ++ y) k 0) n

pub bounds-second-j : goal.bounds-second-j
bounds-second-j c = let h = simp length-append at c.requires in omega arith

pub returns-then-j-first : goal.returns-then-j-first
returns-then-j-first c = let args = c.args in sym (get_or-append args.first.now args.second.now 0 args.j c.if-j-first.true)

pub returns-else-j-first : goal.returns-else-j-first
returns-else-j-first c = let args = c.args in get_d-second args.first.now args.second.now args.j c.if-j-first.false
