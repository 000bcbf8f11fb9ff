-- The element at the first line of a range: what it holds, and the place after it. From Ranges and NextPlaces.
-- Assumes nothing.
use mathlib.Core.Path.{◌≡◌, refl, sym, ap, ◌∙◌}
use mathlib.Core.Bool.{Bool, true, false}
use mathlib.Core.List.{List}
use Prim.Native.Nat.{ℕ, ◌+◌, ◌-◌, ◌≤◌, ◌<◌}
use native.Mathlib.Omega.{arith}
use lib.Dec.{eqb}
use lib.ListN.{length, take, length-drop}
use lib.Seq.{length-take-le}
use borrow.Table.Steps.{cases}
use borrow.Author.Tests.{eqb-true, eqb-false, ne_eqb}
use Rattle.text.specs.Lines.{size, blank_line, head_line, tail_lines}
use Rattle.text.specs.Parts.{lines_in, line_in, first_line, LineStart, next_line}
use Rattle.text.proofs.Laws.Lines.{head_line-take, size-take-add, tail_lines-drop, leading_le}
use Rattle.text.proofs.Laws.LinesIn.{within-lines_in, some-lines_in, lines_in-drop, lines_in-take, lines_in-step}
use Rattle.text.proofs.Laws.LinesIn.{first_line-none, first_line-here}
use Rattle.rules.specs.Kind
use Rattle.rules.specs.Kind.{lines_between, inner_of}
use Rattle.rules.specs.Headings.{is_heading}
use Rattle.rules.specs.LineTests.{is_row}
use Rattle.rules.specs.Items.{is_item, width}
use Rattle.rules.specs.Elements.{Found, line_and, row_lines}
use Rattle.rules.specs.Lists.{list_of}
use Rattle.rules.specs.FirstRule.{element_at}
use Rattle.rules.specs.Findings.{inner_lines, spanned}
use Rattle.rules.specs.Places.{place_from, place_at, allows_rules, next_place, after_blank}
use Rattle.rules.specs.Spans.{inner_from, inner_to}
use Rattle.rules.specs.declared.rule.Element.{Element}
use Rattle.rules.specs.declared.place.Place.TheVariants.{Elsewhere}
use Rattle.rules.proofs.Basics.{All}
use Rattle.rules.proofs.Laws.LineRules.{Fine}
use Rattle.rules.proofs.Laws.Elements.{fine-element, list-element, element-no-item}
use Rattle.rules.proofs.Laws.InLine.{allows_rules-start}
use Rattle.rules.proofs.Laws.Places.{place_at-in}
use Rattle.rules.proofs.Laws.PropertyDrawers.{element-only, property_drawer-inner}
use Rattle.reading.specs.Walk.{inner_place, lines_to, Range, ItemsIn}
use Rattle.table.proofs.Basics.{split}
use Rattle.reading.proofs.Laws.NextPlaces.{place_at-first, own-place, some-place, next_place-blank}
use Rattle.reading.proofs.Laws.Ranges.{property-between, table-rows, run-between, first-nonblank, line-start, end-to, end-start, next-from, inner-order, first_inner, from_is, to_is, from_some, from_start, to_start, inner-range, plain_lines, range-of, Held}
use Rattle.rules.proofs.Laws.InLists.{list-first as items-first}

module _ (s : List ℕ) (p e : ℕ) (R : Range s p e) (h : p < e) (whole : R.line ≡ p) where
  abbrev start : LineStart s p
  start = rw (← whole) R.start

  abbrev f : Found
  f = element_at s p e

  pub fine : Fine (lines_in s p e) f
  unfolding element_at
  fine = fine-element (lines_in s p e) (place_at s p)

  abbrev x : Element
  x = spanned p (lines_in s p e) f

  abbrev b : ℕ
  b = first_line s x.end e

  abbrev a : ℕ
  a = first_line s x.from x.to

  here-plain : All (λ l. is_heading l ≡ false) (lines_in s p e)
  here-plain = rw whole at (plain_lines s p e R h)

  rules : allows_rules (place_at s p) ≡ true
  rules = allows_rules-start s p start

  -- ---- the place after it

  place-after : (n : ℕ) → place_at s (p + size (take n (lines_in s p e))) ≡ place_from (place_at s p) (take n (lines_in s p e))
  place-after n = place_at-in s p start e n R.end R.order

  end-place : place_at s x.end ≡ next_place (place_at s p) x.kind true
  unfolding spanned element_at
  end-place = place-after f.own ∙ own-place (place_at s p) rules (first-nonblank s p e R h) here-plain

  pub next-place : place_at s b ≡ next_place (place_at s p) x.kind (eqb b x.end)
  next-place = cases (eqb b x.end)
      (λ i. rw i (ap (place_at s) (eqb-true b x.end i) ∙ end-place))
      (λ i. rw i (place_at-first s x.end e (end-start s p e R h f fine) R.end (end-to s p e R h f fine)
      (let j = eqb-false b x.end i in omega (arith, next-from s p e R h f fine, j))
      ∙ ap after_blank end-place ∙ next_place-blank (place_at s p) x.kind))

  -- ---- what a drawer or block holds

  module _ (between : inner_of f.kind ≡ lines_between) (k : f.kind ≡ Kind.planning → ⊥) (j : f.kind ≡ Kind.comment → ⊥) where
    from_place : place_at s x.from ≡ Elsewhere
    unfolding element_at
    from_place =
        rw (from_is s p e R h f fine between)
        (place-after 1 ∙ some-place (place_at s p) rules (first-nonblank s p e R h) here-plain k j 1 (omega arith))

    inner-place : place_at s a ≡ Elsewhere
    inner-place = split x.from a
        (λ i. place_at-first s x.from x.to (from_start s p e R h f fine between) (to_start s p e R h f fine between)
        (inner-order s p e R h f fine).1 i ∙ ap after_blank from_place)
        (λ i. let n : a ≡ x.from = omega (arith, first_inner s p e R h f fine) in ap (place_at s) n ∙ from_place)

  -- ---- how many lines it holds

  -- the first m of the lines from byte q on, none where the first of them is blank
  first-lines : (q m : ℕ) → q ≤ e → m ≤ length (lines_in s q e) → (0 < m → blank_line (head_line (lines_in s q e)) ≡ false)
      → let to = q + size (take m (lines_in s q e)) in m ≡ length (lines_in s (first_line s q to) to)
  unfolding line_in size
  first-lines q m i j k =
      let ls = lines_in s q e in
      let to = q + size (take m ls) in
      let t = lines_in-take s q e m i R.text in
      let a : first_line s q to ≡ q = split 0 m
      (λ o. first_line-here s q to (rw (t, head_line-take m ls o) (k o)))
      (λ o. let z : m ≡ 0 = omega arith in first_line-none s q to (rw z (omega arith))) in
      rw (a, t) (sym (length-take-le m ls j))

  rows-le : row_lines (lines_in s p e) ≤ length (lines_in s p e)
  unfolding row_lines line_and
  rows-le =
      let ls = lines_in s p e in
      let n = ap length (tail_lines-drop ls) ∙ length-drop 1 ls in
      omega (arith, n, leading_le is_row (tail_lines ls), ap length (lines_in-step s p e h R.text))

  inner-lines : (rows : Bool) → f.kind ≡ (lines_to rows x.to).kind → x.lines ≡ length (lines_in s a x.to)
  unfolding spanned inner_from inner_to inner_lines element_at
  inner-lines true k = rw (table-rows f.kind k) (first-lines p (row_lines (lines_in s p e)) R.order rows-le (λ o. first-nonblank s p e R h))
  inner-lines false k =
      let ls = lines_in s p e in
      let between = property-between f.kind k in
      let least = rw between at fine.least in
      let closed = rw between at fine.closed in
      let n = f.own - 2 in
      let q = p + size (take 1 ls) in
      let d = lines_in-drop s p e 1 in
      let i : 1 + n ≡ f.own - 1 = omega arith in
      let to : x.to ≡ q + size (take n (lines_in s q e)) = rw d (omega (arith, to_is s p e R h f fine between, rw i at (size-take-add 1 n ls))) in
      let many : x.lines ≡ n = rw between in
      let only = (element-only (place_at s p) ls k).1 in
      many ∙ rw (from_is s p e R h f fine between, to)
      (first-lines q n (within-lines_in s p e R.order R.text 1) (rw d (omega (arith, length-drop 1 ls)))
      (λ o. rw (d, ← tail_lines-drop ls) (property_drawer-inner (place_at s p) ls f only (omega arith))))

  no_item : f.kind ≡ Kind.item → ⊥
  unfolding element_at
  no_item = element-no-item (lines_in s p e) (place_at s p)

  -- ---- a list

  module _ (k : f.kind ≡ Kind.list) where
    list-is : (is_item (head_line (lines_in s p e)) ≡ true) × (f ≡ list_of (lines_in s p e))
    unfolding element_at
    list-is = list-element (lines_in s p e) (place_at s p) k

    abbrev n : ℕ
    n = f.own

    list-from : x.from ≡ p
    unfolding spanned inner_of inner_from
    list-from = rw k

    list-to : x.to ≡ p + size (take n (lines_in s p e))
    unfolding spanned inner_of inner_to
    list-to = rw k

    list-lines : lines_in s p x.to ≡ take n (lines_in s p e)
    list-lines = ap (lines_in s p) list-to ∙ lines_in-take s p e n R.order R.text

    list-first : a ≡ p
    unfolding line_in
    list-first =
        ap (λ (i : ℕ). first_line s i x.to) list-from
        ∙ first_line-here s p x.to (rw (list-lines, head_line-take n (lines_in s p e) fine.own) (first-nonblank s p e R h))

    plain-to : x.to ≤ next_line is_heading s p
    plain-to = omega (arith, R.plain, ap (next_line is_heading s) whole, list-to, within-lines_in s p e R.order R.text n)

    list-range : Range s p x.to
    list-range =
        range-of s p p x.to R.limit start start (rw list-to (line-start s p e R h n fine.own)) (omega arith)
        (omega (arith, list-to)) plain-to
        (ap (λ (i : ℕ). first_line s i x.to) (sym list-from) ∙ list-first)

    list-whole : list-range.line ≡ p
    unfolding list-range range-of
    list-whole = refl

    list-items : ItemsIn s p x.to
    unfolding line_in
    list-items =
        let to : x.to ≡ p + size (take (list_of (lines_in s p e)).own (lines_in s p e)) = rw (← list-is.1) list-to in
        let first = items-first s e x.to p R.end start h R.text (first-nonblank s p e R h) list-is.0 to in
        let at : first_line s p x.to ≡ p = ap (λ (i : ℕ). first_line s i x.to) (sym list-from) ∙ list-first in
        record {
          range = list-range;
          whole = list-whole;
          width = width (line_in s p e);
          until = e;
          start = R.end;
          order = omega (arith, list-to, within-lines_in s p e R.order R.text n);
          all = rw at at first.rest.end;
        }

  pub element-held : Held s p e R h f fine
  unfolding spanned inner_place
  element-held =
      record {
        counted = inner-lines;
        line = λ k. absurd (no_item k);
        run = λ m. cases (eqb f.kind Kind.list)
            (λ k. let i = eqb-true f.kind Kind.list k in rw (list-first i) (list-range i))
            (λ k. inner-range s p e R h f fine (run-between f.kind m (eqb-false f.kind Kind.list k) no_item).0);
        inner = λ m k. from_some s p e R h f fine (run-between f.kind m k no_item).0;
        place = λ m k i. let (n, c, d) = run-between f.kind m k no_item in rw (ne_eqb f.kind Kind.item no_item, inner_place) (sym (inner-place n c d));
        items = λ k. (omega (arith, list-to k, some-lines_in s p e R.order R.text f.own h fine.own), list-first k, list-items k);
      }
