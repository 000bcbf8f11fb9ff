-- What a book needs of a good order's sheet: its first line is its only heading line, and each key that the order has gives its value there.
use mathlib.Core.Path.{◌≡◌, sym}
use mathlib.Core.Bool.{true, false}
use mathlib.Core.List.{List, [], ◌∷◌}
use mathlib.Core.Option.{some}
use Prim.Native.Nat.{ℕ, suc, ◌≤◌, ◌<◌}
use native.Mathlib.Nat.{zero-add}
use native.Mathlib.Omega.{arith}
use lib.Dec.{leb}
use lib.ListN.{length, get_or}
use borrow.Author.Tests.{leb-true, leb-false}
use borrow.Table.Steps.{cases}
use Rattle.text.specs.Limits.{text_limit}
use Rattle.text.specs.Runs.{same}
use Rattle.text.specs.Lines.{lines, head_line}
use Rattle.text.specs.Parts.{line_in}
use Rattle.text.proofs.Laws.LineStarts.{line_start-zero}
use Rattle.rules.specs.Headings.{is_heading}
use Rattle.rules.proofs.Basics.{some-none}
use Rattle.std.specs.declared.result.Result.TheVariants.{Err}
use Rattle.lookup.specs.declared.lookup.Refusal.TheVariants.{NoHeading}
use Rattle.lookup.specs.Stages.{is_bad_key}
use Rattle.lookup.specs.Lookup.{lookup}
use Rattle.lookup.proofs.Laws.Local.{whole-lines, lookup-past}
use Rattle.sheet.specs.Order.{Pair, pair, Order, value_for}
use Rattle.sheet.specs.Faults.{Good, judged}
use Rattle.sheet.specs.Sheet.{sheet}
use Rattle.sheet.specs.Promises.{Gives}
use Rattle.sheet.proofs.Laws.Judged.{judged-good}
use Rattle.sheet.proofs.Laws.Sheets.{sheet-title_line, sheet-heading_line, sheet-next_heading, sheet-some}
use Rattle.sheet.proofs.Promises.{sheet-of}
use Rattle.intake.proofs.Laws.Between.{lookup-past_line}

-- a text whose first line is its only heading line
pub record OneHeadingLine (x : List ℕ) : Type 0 where
  pub first : is_heading (head_line (lines x)) ≡ true
  pub later : (q : ℕ) (k : List ℕ) → is_bad_key k ≡ false → lookup x (suc q) k ≡ Err NoHeading

-- which pair it is whose value is found
value_for-at : (k v : List ℕ) (ps : List Pair) → value_for k ps ≡ some v → let at : ℕ → Pair = λ i. get_or ps i (pair [] []) in
    (i : ℕ) × ((i < length ps) × (same (at i).key k ≡ true) × ((at i).value ≡ v))
unfolding value_for
value_for-at k v [] h = absurd (some-none v (sym h))
value_for-at k v (p ∷ ps) h = cases (same p.key k)
    (λ e. let i : some p.value ≡ some v = rw (e, value_for) at h in (0, (omega arith, e, cc)))
    (λ e. let (i, (i0, i1, i2)) = value_for-at k v ps (rw (e, value_for) at h) in (suc i, (omega arith, i1, i2)))

module _ (x : List ℕ) (o : Order) (j : judged x ≡ Good o) (long : length (sheet o) ≤ text_limit) where
  pub sheet-alone : OneHeadingLine (sheet o)
  unfolding line_in
  sheet-alone =
      let s = sheet o in
      let g = judged-good x o j in
      let none = rw (zero-add, sheet-title_line o g, sheet-next_heading o g) at (lookup-past_line s 0 (line_start-zero s)) in
      record {
        first = rw (whole-lines s 0) at (sheet-heading_line o g).heading;
        later = λ q k good. cases (leb (length s) (suc q))
            (λ e. lookup-past s (suc q) k long good (leb-true (length s) (suc q) e))
            (λ e. none k long good (suc q) (omega (arith, sheet-some o g)) (omega arith) (leb-false (length s) (suc q) e));
      }

  pub sheet-gives : (k v : List ℕ) → value_for k o.pairs ≡ some v → Gives (sheet o) 0 k v
  sheet-gives k v h = let (i, (i0, i1, i2)) = value_for-at k v o.pairs h in rw i2 at ((sheet-of x o j long).given i i0 k i1)
