-- Laws of records in a table.
-- Assumes nothing.
use mathlib.Core.Path.{◌≡◌}
use mathlib.Core.List.{List, [], ◌∷◌, ◌++◌}
use Prim.Native.Nat.{ℕ, suc, ◌+◌, ◌<◌}
use native.Mathlib.Omega.{arith}
use lib.ListN.{length, drop, get_or-append}
use lib.Seq.{get_or-drop, drop-drop, drop-append_seam}
use Rattle.table.specs.Records.{no_record, at}
use Rattle.table.specs.declared.record.Record.{Record}

-- ---- records X that stand in a table R at index k, before Y

module _ (R X Y : List Record) (k : ℕ) (d : drop k R ≡ X ++ Y) where
  pub at-run : (n j : ℕ) → n < length X → j ≡ k + n → at R j ≡ at X n
  at-run n j b e = rw (e, ← get_or-drop k R n no_record, d) (get_or-append X Y no_record n b)

  pub drop-run : (j : ℕ) → j ≡ k + length X → drop j R ≡ Y
  drop-run j e = rw (e, ← drop-drop (length X) k R, d) (drop-append_seam X Y)

module _ (R : List Record) (k : ℕ) (r : Record) (X : List Record) (d : drop k R ≡ r ∷ X) where
  pub at_head : at R k ≡ r
  at_head = at-run R (r ∷ []) X k d 0 k (omega arith) (omega arith)

  pub drop_head : drop (suc k) R ≡ X
  drop_head = drop-run R (r ∷ []) X k d (suc k) (omega arith)
