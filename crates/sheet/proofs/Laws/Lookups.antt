-- What is looked up in a good order's sheet: the drawer is found after the heading line; in it the first line whose name is the key is the only one,
-- for no key is repeated, and its value's bytes are the pair's.
use mathlib.Core.Path.{◌≡◌, refl, sym, ap, ◌∙◌}
use mathlib.Core.Bool.{Bool, true, false, true≢false}
use mathlib.Core.List.{List, [], ◌∷◌}
use Prim.Native.Nat.{ℕ, zero, suc, ◌+◌, ◌≤◌, ◌<◌}
use native.Mathlib.Nat.{zero-add}
use native.Mathlib.Omega.{arith}
use lib.ListN.{length, get_or}
use borrow.Table.Steps.{cases}
use Rattle.text.specs.Number
use Rattle.text.specs.Runs.{same}
use Rattle.text.specs.Lines.{Line, head_line, body, body_end, first_run, value_start}
use Rattle.text.specs.Parts.{part, lines_in}
use Rattle.text.proofs.Laws.LinesIn.{line_in-to}
use Rattle.text.proofs.Laws.Parts.{part_slice}
use Rattle.rules.specs.LineTests.{is_planning}
use Rattle.rules.proofs.Basics.{or_no, All, all_cons}
use Rattle.rules.proofs.Laws.PropertyDrawers.{line_after}
use Rattle.std.specs.declared.option.Option.TheVariants.{None, Some}
use Rattle.std.specs.declared.result.Result.TheVariants.{Ok}
use Rattle.lookup.specs.Spans.{span}
use Rattle.lookup.specs.Drawers.{drawer_after}
use Rattle.lookup.specs.Lookup.{lookup, with_value, number, part_of}
use Rattle.lookup.specs.Promises.{Tried}
use Rattle.lookup.specs.Stages.{heading_at, value_in}
use Rattle.lookup.proofs.Laws.Drawers.{after-heading, drawer_in-some}
use Rattle.lookup.proofs.Laws.Lookup.{lookup-drawer}
use Rattle.lookup.proofs.Laws.Stages.{heading_at-yes, value_in-nil, value_in-here, value_in-skip}
use Rattle.sheet.specs.Order.{Pair, pair, Order, some_pair, has_key}
use Rattle.sheet.specs.Faults.{repeats}
use Rattle.sheet.specs.Sheet.{pair_line, pair_lines, open_line, sheet}
use Rattle.sheet.proofs.Laws.Judged.{GoodPair, GoodOrder}
use Rattle.sheet.proofs.Laws.Lines.{line_in-head, lines_in-tail, value-part}
use Rattle.sheet.proofs.Laws.PairLines.{pair_line-name, pair_line-value}
use Rattle.sheet.proofs.Laws.SameKeys.{same-both}
use Rattle.sheet.proofs.Laws.Sheets.{open_line-planning, title_end, open_end, close_start, drawer_lines, close_start-is}
use Rattle.sheet.proofs.Laws.Sheets.{sheet-title_line, sheet-drawer_lines, sheet-pair_lines, sheet-heading_line, sheet-next_heading, sheet-drawer}

-- ---- the drawer

module _ (o : Order) (g : GoodOrder o) where
  abbrev s : List ℕ
  s = sheet o

  abbrev a : ℕ
  a = title_end o

  heading_at-title : heading_at s 0 ≡ Some a
  heading_at-title = rw (zero-add, sheet-title_line o g) at (heading_at-yes s 0 (sheet-heading_line o g))

  line_after-title : is_planning (line_after s a) ≡ false
  line_after-title = rw (sheet-next_heading o g, line_in-head s a (length s) open_line _ (sheet-drawer_lines o g)) open_line-planning

  drawer_after-title : drawer_after s a ≡ Ok (span (open_end o) (close_start o))
  unfolding head_line
  drawer_after-title =
      after-heading s a line_after-title
      ∙ rw (sheet-next_heading o g, sheet-drawer_lines o g) (drawer_in-some a (drawer_lines o) _ (sheet-drawer o g) ∙ rw (close_start-is o))

  pub lookup-sheet : (k : List ℕ) → Tried s k → lookup s 0 k ≡ with_value (value_in k (open_end o) (pair_lines o.pairs))
  lookup-sheet k t = rw (sheet-pair_lines o g) at (lookup-drawer s 0 k t a heading_at-title (Ok (span (open_end o) (close_start o))) drawer_after-title)

-- ---- the value

some_pair-at : (f : Pair → Bool) (ps : List Pair) (i : ℕ) → some_pair f ps ≡ false → i < length ps → f (get_or ps i (pair [] [])) ≡ false
unfolding some_pair
some_pair-at f [] i h l = absurd (omega arith)
some_pair-at f (p ∷ ps) zero h l = (or_no (f p) (some_pair f ps) h).0
some_pair-at f (p ∷ ps) (suc i) h l = some_pair-at f ps i (or_no (f p) (some_pair f ps) h).1 (omega arith)

module _ (k : List ℕ) where
  pub value_in-none : (p : ℕ) (ps : List Pair) → All GoodPair ps → has_key k ps ≡ false → value_in k p (pair_lines ps) ≡ None
  unfolding pair_lines has_key some_pair
  value_in-none p [] g h = value_in-nil k p
  value_in-none p (x ∷ ps) (all_cons y g) h =
      let (h0, h1) = or_no (same x.key k) _ h in
      value_in-skip k p (pair_line x) (pair_lines ps) (rw (pair_line-name x y) h0) ∙ value_in-none (p + length (pair_line x)) ps g h1

  -- the pair's line from byte p up to byte e of a text
  module _ (s : List ℕ) (e : ℕ) (inside : e ≤ length s) where
    value_start-to : (m : ℕ) (l : Line) → value_start m l ≤ body_end l
    unfolding value_start
    value_start-to m l = omega arith

    value-bytes : (p : ℕ) (x : Pair) (ls : List Line) → GoodPair x → p ≤ e → lines_in s p e ≡ pair_line x ∷ ls
        → let a = p + value_start (length (first_run (body (pair_line x)))) (pair_line x) in
        part s a (p + body_end (pair_line x)) ≡ x.value
    value-bytes p x ls y h i =
        let m = length (first_run (body (pair_line x))) in
        rw (line_in-head s p e _ _ i) at (value-part s p e m h inside) ∙ pair_line-value x y

    pub value_in-at : (p : ℕ) (ps : List Pair) (i : ℕ) → All GoodPair ps → repeats ps ≡ false → i < length ps → p ≤ e → lines_in s p e ≡ pair_lines ps
        → same (get_or ps i (pair [] [])).key k ≡ true
        → let r = with_value (value_in k p (pair_lines ps)) in
        (number r ≡ Number.done) × (part_of r s ≡ (get_or ps i (pair [] [])).value)
    unfolding pair_lines repeats has_key
    value_in-at p [] i g r l h d q = absurd (omega arith)
    value_in-at p (x ∷ ps) zero (all_cons y g) r l h d q =
        let m = length (first_run (body (pair_line x))) in
        rw (value_in-here k p (pair_line x) (pair_lines ps) (rw (pair_line-name x y) q))
        (refl, part_slice s _ _ (omega (arith, value_start-to m (pair_line x))) ∙ value-bytes p x _ y h d)
    value_in-at p (x ∷ ps) (suc i) (all_cons y g) r l h d q =
        let (r0, r1) = or_no (has_key x.key ps) (repeats ps) r in
        let other = some_pair-at (λ z. same z.key x.key) ps i r0 (omega arith) in
        cases (same x.key k)
        (λ f. absurd (true≢false (sym (same-both _ x.key k q f) ∙ other)))
        (λ f.
        let to = line_in-to s p e h inside in
        let near : p + length (pair_line x) ≤ e = omega (arith, ap length (line_in-head s p e _ _ d)) in
        rw (value_in-skip k p (pair_line x) (pair_lines ps) (rw (pair_line-name x y) f))
        (value_in-at (p + length (pair_line x)) ps i g r1 (omega arith) near (lines_in-tail s p e _ _ d) q))
