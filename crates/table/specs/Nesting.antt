-- The nesting of a table  [01 "Numbers of an answer"]: an outermost drawer, greater block or list has depth 1, any other is one deeper than the
-- nearest around it; verbatim blocks don't count, nor do items  [02 order 4]. A table's nesting is the greatest depth in it, else 0.
use Rattle.std.specs.Prelude.{true, false, List, [], ◌∷◌, ◌++◌, ℕ, suc, max, get_or}
use Rattle.rules.specs.Kind.{counts_depth}
use Rattle.table.specs.declared.record.Record.{Record}

-- the depth of a record of a kind in a container of depth d
unfoldable pub depth_in : ℕ → ℕ → ℕ
depth_in d k = elim (counts_depth k) [ true ↦ suc d | false ↦ d ]

-- each record's depth, by those of the records before it
unfoldable pub depths : List ℕ → List Record → List ℕ
depths ds [] = ds
depths ds (r ∷ R) = let d = depth_in (get_or ds r.parent 0) r.kind in depths (ds ++ (d ∷ [])) R

unfoldable pub greatest : List ℕ → ℕ
greatest [] = 0
greatest (d ∷ ds) = max d (greatest ds)

unfoldable pub nesting : List Record → ℕ
nesting R = greatest (depths [] R)

-- opens the definitions of this file, for computed examples
unfoldable pub OpenNesting : Type 1
unfolding depth_in depths greatest nesting
OpenNesting = Type 0
