-- What is promised of a buffer and of its sheet. From Forms, Lookups, Tables and Flat; that a key is looked up in letters of any case, from SameKeys.
use mathlib.Core.Path.{◌≡◌, sym, ap, ◌∙◌}
use mathlib.Core.Bool.{true, false}
use mathlib.Core.List.{List, []}
use Prim.Native.Nat.{ℕ, ◌≤◌, ◌<◌}
use native.Mathlib.Omega.{arith}
use lib.ListN.{length}
use Rattle.text.specs.Number
use Rattle.text.specs.Limits.{text_limit}
use Rattle.text.specs.Runs.{same}
use Rattle.rules.proofs.Basics.{all_get_d}
use Rattle.table.specs.Nesting.{nesting}
use Rattle.lookup.specs.Stages.{is_bad_key}
use Rattle.lookup.specs.Lookup.{lookup, number}
use Rattle.sheet.specs.Order.{pair, Order, has_key}
use Rattle.sheet.specs.Form.{ReadsForms}
use Rattle.sheet.specs.Faults.{Good, judged}
use Rattle.sheet.specs.Sheet.{sheet}
use Rattle.sheet.specs.Promises.{Gives, pair_at, SheetOf, WrittenFor}
use Rattle.sheet.proofs.Laws.Flat.{nesting-sheet}
use Rattle.sheet.proofs.Laws.Forms.{order_in-given, order_in-only}
use Rattle.sheet.proofs.Laws.Judged.{GoodOrder, judged-good}
use Rattle.sheet.proofs.Laws.Lookups.{lookup-sheet, value_in-none, value_in-at}
use Rattle.sheet.proofs.Laws.SameKeys.{is_bad_key-same}
use Rattle.sheet.proofs.Laws.Sheets.{open_end, close_start, sheet-size, sheet-pair_lines}
use Rattle.sheet.proofs.Laws.Tables.{reading-sheet}

pub reads-forms : ReadsForms
reads-forms = record { given = order_in-given; only = order_in-only }

-- a good order's sheet, no longer than a text may be
module _ (o : Order) (g : GoodOrder o) (h : length (sheet o) ≤ text_limit) where
  given : (i : ℕ) → i < length o.pairs → (k : List ℕ) → same (pair_at o i).key k ≡ true → Gives (sheet o) 0 k (pair_at o i).value
  given i l k e =
      let good = sym (is_bad_key-same (pair_at o i).key k e) ∙ (all_get_d (pair [] []) g.pairs i l).key in
      let find = lookup-sheet o g k (record { text = h; key = good }) in
      let to : open_end o ≤ close_start o = omega (arith, sheet-size o) in
      let value = value_in-at k (sheet o) (close_start o) (omega arith) (open_end o) o.pairs i g.pairs g.once l to (sheet-pair_lines o g) e in
      record { found = rw find value.0; bytes = rw find value.1 }

  lacking : (k : List ℕ) → is_bad_key k ≡ false → has_key k o.pairs ≡ false → number (lookup (sheet o) 0 k) ≡ Number.no_key
  lacking k good e = rw (lookup-sheet o g k (record { text = h; key = good }), value_in-none k (open_end o) o.pairs g.pairs e)

pub sheet-of : (x : List ℕ) (o : Order) → judged x ≡ Good o → length (sheet o) ≤ text_limit → SheetOf o (sheet o)
sheet-of x o j h =
    let g = judged-good x o j in
    let reads = reading-sheet o g in
    record { given = given o g h; none = lacking o g h; reads = reads; flat = ap nesting reads ∙ nesting-sheet o }

pub written-for : (x s : List ℕ) (o : Order) → judged x ≡ Good o → length (sheet o) ≤ text_limit → s ≡ sheet o → WrittenFor x s
written-for x s o j h e = record { order = o; good = j; bytes = e; promised = rw e (sheet-of x o j h) }
