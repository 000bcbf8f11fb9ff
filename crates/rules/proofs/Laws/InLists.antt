-- Items in a list, one after the other: at each of them the scan for the list's lines finds what is left of it. So an item lies in its list whole.
-- Assumes nothing.
use mathlib.Core.Path.{◌≡◌, refl, sym, ap, ◌∙◌}
use mathlib.Core.Bool.{true, false, ◌&&◌}
use mathlib.Core.List.{List, ◌∷◌}
use Prim.Native.Nat.{ℕ, suc, ◌+◌, ◌-◌, ◌≤◌, ◌<◌, min}
use native.Mathlib.Omega.{arith}
use lib.Dec.{eqb}
use lib.ListN.{length, take, drop}
use borrow.Table.Steps.{cases}
use borrow.Author.Tests.{eq-eqb}
use Rattle.text.specs.Lines.{Line, size, blank_line, head_line, tail_lines}
use Rattle.text.specs.Parts.{lines_in, line_in, first_line, LineStart}
use Rattle.text.proofs.Laws.Lines.{size-take-mono}
use Rattle.text.proofs.Laws.LinesIn.{lines_in-next, lines_in-step}
use Rattle.text.proofs.Laws.LineStarts.{line_start-in}
use Rattle.rules.specs.Kind
use Rattle.rules.specs.Items.{width, is_item}
use Rattle.rules.specs.Elements.{found}
use Rattle.rules.specs.Lists.{item_lines, list_lines, item, list_of}
use Rattle.rules.specs.FirstRule.{item_at}
use Rattle.rules.proofs.Laws.Scans.{item_lines-le, list_lines-pass, list_lines-in, list_lines-out, list-gapped}
use Rattle.rules.proofs.Laws.Passing.{ItemOf, item_of-item, item_of-width}
use Rattle.rules.proofs.Laws.ItemEnds.{item_lines-cut}
use Rattle.rules.proofs.Laws.Rests.{take_min, rest-to, rest_lines, rest_some, rest-pass, rest-head, First, rest-first}

-- ---- an item among the first g lines after its own first, where it has no more

item-cut : (l : Line) (z : List Line) (g : ℕ) → item_lines (width l) 0 z ≤ g → item (l ∷ take g z) ≡ item (l ∷ z)
unfolding item head_line tail_lines
item-cut l z g h = ap (λ (n : ℕ). found Kind.item (suc n) 0) (item_lines-cut (width l) g z 0 h)

-- ---- items in a list of indentation v that ends at e

-- the item at p, and the place after it
pub record ListStepping (v : ℕ) (s : List ℕ) (h e p : ℕ) : Type 0 where
  pub item : is_item (line_in s p h) ≡ true
  pub same : width (line_in s p h) ≡ v
  pub found : item_at s p e ≡ item_at s p h
  pub whole : p + size (take (item_at s p h).own (lines_in s p h)) ≤ e
  pub lines : take (item_at s p h).own (lines_in s p e) ≡ take (item_at s p h).own (lines_in s p h)
  pub head : line_in s p e ≡ line_in s p h
  pub next : First (list_lines v 0) s h e (first_line s (p + size (take (item_at s p h).own (lines_in s p e))) e)

module _ (v : ℕ) (s : List ℕ) (h e p : ℕ) (at-h : LineStart s h) (first : First (list_lines v 0) s h e p) (lt : p < e) where
  abbrev G : List Line → ℕ
  G = list_lines v 0

  abbrev line : Line
  line = line_in s p h

  abbrev rest_of : List Line
  rest_of = lines_in s (p + length line) h

  list-more : p < h
  list-more = omega (arith, rest-to (list-gapped v) first.rest)

  list-lines : lines_in s p h ≡ line ∷ rest_of
  list-lines = lines_in-step s p h list-more first.rest.text

  list-some : 0 < G (lines_in s p h)
  list-some = rest_some (list-gapped v) first.rest lt

  item-here : ItemOf v line
  item-here = cases (is_item line && eqb (width line) v)
      (λ i. i)
      (λ i. absurd (omega (arith, list-some, ap G list-lines, list_lines-out v line rest_of (first.nonblank lt) i)))

  -- its own lines after the first
  abbrev a : ℕ
  a = item_lines v 0 rest_of

  own-lines : (item_at s p h).own ≡ suc a
  unfolding item_at item line_in
  own-lines =
      ap (λ (x : List Line). suc (item_lines (width line) 0 x)) (sym (lines_in-next s p h))
      ∙ ap (λ (w : ℕ). suc (item_lines w 0 rest_of)) (item_of-width v line item-here)

  passed : G (lines_in s p h) ≡ suc a + G (drop (suc a) (lines_in s p h))
  passed =
      rw list-lines
      (omega (arith, list_lines-in v line rest_of (first.nonblank lt) item-here, list_lines-pass v a rest_of (item_lines-le v 0 rest_of)))

  list-cut : take (item_at s p h).own (lines_in s p e) ≡ take (suc a) (lines_in s p h)
  list-cut =
      let g = G (lines_in s p h) in
      let m : min (suc a) g ≡ suc a = omega (arith, passed) in
      rw (own-lines, rest_lines (list-gapped v) first.rest)
      (take_min (suc a) g (lines_in s p h) ∙ ap (λ (n : ℕ). take n (lines_in s p h)) m)

  -- the list has so many lines more
  abbrev g : ℕ
  g = G (lines_in s p h) - 1

  list-given : lines_in s p e ≡ line ∷ take g rest_of
  list-given =
      let many : G (lines_in s p h) ≡ suc g = omega (arith, list-some) in
      rest_lines (list-gapped v) first.rest ∙ ap (λ (m : ℕ). take m (lines_in s p h)) many ∙ ap (take (suc g)) list-lines

  item-found : item_at s p e ≡ item_at s p h
  unfolding item_at
  item-found =
      let same_width : item_lines (width line) 0 rest_of ≡ a = ap (λ (w : ℕ). item_lines w 0 rest_of) (item_of-width v line item-here) in
      ap item list-given ∙ item-cut line rest_of g (omega (arith, passed, same_width)) ∙ sym (ap item list-lines)

  pub list-step : ListStepping v s h e p
  list-step =
      let q = p + size (take (suc a) (lines_in s p h)) in
      let at-q : p + size (take (item_at s p h).own (lines_in s p e)) ≡ q = rw list-cut in
      record {
        item = item_of-item v line item-here;
        same = item_of-width v line item-here;
        found = item-found;
        whole = rw own-lines (omega (arith, first.rest.end, size-take-mono (suc a) (G (lines_in s p h)) (lines_in s p h) (omega (arith, passed))));
        lines = list-cut ∙ ap (λ (n : ℕ). take n (lines_in s p h)) (sym own-lines);
        head = rest-head (list-gapped v) first.rest list-some;
        next = rw at-q (rest-first (list-gapped v) (rest-pass (list-gapped v) first.rest (suc a) passed)
            (line_start-in s p h first.start at-h first.rest.order (suc a)) at-h);
      }

-- ---- the first item of the list at byte p

pub list-first : (s : List ℕ) (h e p : ℕ) → LineStart s h → LineStart s p → p < h → h ≤ length s → blank_line (line_in s p h) ≡ false
    → is_item (line_in s p h) ≡ true → e ≡ p + size (take (list_of (lines_in s p h)).own (lines_in s p h))
    → First (list_lines (width (line_in s p h)) 0) s h e (first_line s p e)
unfolding line_in list_of
list-first s h e p at-h at_p lt text plain is end =
    let l = line_in s p h in
    let v = width l in
    let b = p + length l in
    let step : lines_in s p h ≡ l ∷ lines_in s b h = lines_in-step s p h lt text in
    let own : (list_of (lines_in s p h)).own ≡ list_lines v 0 (lines_in s p h) =
    ap (λ (x : List Line). suc (list_lines v (item_lines v 0 x) x)) (sym (lines_in-next s p h))
    ∙ sym (ap (list_lines v 0) step ∙ list_lines-in v l (lines_in s b h) plain (rw is (eq-eqb v v refl))) in
    rest-first (list-gapped v)
    (record { end = end ∙ ap (λ (n : ℕ). p + size (take n (lines_in s p h))) own; order = omega arith; text = text }) at_p at-h
