-- A sheet's table is nested nowhere: none of its records counts for depth, and then every depth is 0.
use mathlib.Core.Path.{◌≡◌, refl}
use mathlib.Core.Bool.{false}
use mathlib.Core.List.{List, [], ◌∷◌, ◌++◌}
use Prim.Native.Nat.{ℕ, zero, suc, ◌+◌}
use native.Mathlib.Omega.{arith}
use lib.ListN.{length, get_or}
use Rattle.rules.specs.Kind.{counts_depth}
use Rattle.rules.proofs.Basics.{All, all_nil, all_cons}
use Rattle.table.specs.declared.record.Record.{Record}
use Rattle.table.specs.Nesting.{depth_in, depths, greatest, nesting}
use Rattle.sheet.specs.Order.{Pair, Order}
use Rattle.sheet.specs.Sheet.{pair_line}
use Rattle.sheet.specs.Table.{pair_records, sheet_table}

-- ---- depths that are all 0

greatest-get_d : (ds : List ℕ) (i : ℕ) → greatest ds ≡ 0 → get_or ds i 0 ≡ 0
unfolding greatest
greatest-get_d [] i h = refl
greatest-get_d (d ∷ ds) zero h = omega arith
greatest-get_d (d ∷ ds) (suc i) h = greatest-get_d ds i (omega arith)

greatest-snoc : (ds : List ℕ) (d : ℕ) → greatest ds ≡ 0 → d ≡ 0 → greatest (ds ++ (d ∷ [])) ≡ 0
unfolding greatest
greatest-snoc [] d h i = omega arith
greatest-snoc (c ∷ ds) d h i = omega (arith, greatest-snoc ds d (omega arith) i)

abbrev Flat : List Record → Type 0
Flat R = All (λ (r : Record). counts_depth r.kind ≡ false) R

depths-flat : (R : List Record) (ds : List ℕ) → Flat R → greatest ds ≡ 0 → greatest (depths ds R) ≡ 0
unfolding depths depth_in
depths-flat [] ds h i = i
depths-flat (r ∷ R) ds (all_cons n h) i = depths-flat R _ h (greatest-snoc ds _ i (rw (n, depth_in) (greatest-get_d ds r.parent i)))

-- ---- the sheet's records

pair_records-flat : (p n : ℕ) (ps : List Pair) → Flat (pair_records p n ps)
unfolding pair_records counts_depth
pair_records-flat p n [] = all_nil
pair_records-flat p n (x ∷ ps) = all_cons refl (pair_records-flat (p + length (pair_line x)) (n + 1) ps)

pub nesting-sheet : (o : Order) → nesting (sheet_table o) ≡ 0
unfolding nesting greatest sheet_table counts_depth
nesting-sheet o = depths-flat _ [] (all_cons refl (all_cons refl (all_cons refl (all_cons refl (pair_records-flat _ _ o.pairs))))) refl
