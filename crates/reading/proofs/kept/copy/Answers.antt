-- `reading::kept::copy` meets its contract: each turn copies one number more.
-- Assumes nothing.
use mathlib.Core.Path.{◌≡◌, ap, subst, ◌∙◌}
use mathlib.Core.List.{List}
use Prim.Native.Nat.{ℕ, ◌+◌, ◌<◌}
use native.Mathlib.Nat.{zero-add}
use native.Mathlib.Omega.{arith}
use lib.ListN.{length, get_or, set}
use lib.Seq.{paste, paste-zero}
use Rattle.std.proofs.lemmas.List.Edits.{paste_more}
use Rattle.reading.proofs.kept.copy.Goals as goal

turn : (t s : List ℕ) (i : ℕ) → i < length t → i < length s → set (paste t 0 s i) i (get_or s i 0) ≡ paste t 0 s (i + 1)
turn t s i a b = subst (λ (k : ℕ). set (paste t 0 s i) k (get_or s i 0) ≡ paste t 0 s (i + 1)) (zero-add i) (paste_more t 0 s i 0 (omega arith) b)

pub loop-i-init : goal.loop-i-init
loop-i-init c = paste-zero c.args.table.now 0 c.args.store.now

pub loop-i-preserved : goal.loop-i-preserved
loop-i-preserved c =
    let i = c.loop-i.i in
    let s = c.args.store.now in
    ap (λ (l : List ℕ). set l i (get_or s i 0)) c.loop-i.invariant ∙ turn _ s i (omega arith) (omega arith)

pub returns : goal.returns
returns c =
    let all : c.loop-i.i ≡ c.args.n = omega arith in
    rw (← all) c.loop-i.invariant
