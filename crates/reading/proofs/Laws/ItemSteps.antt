-- The item at the first line of a list's range: what it holds, and that items follow it up to the list's end. What is left on its first line is a
-- paragraph inside that line; where only blank bytes or byte 10 are left, what it holds starts on a later line. From Ranges.
-- Assumes nothing.
use mathlib.Core.Path.{◌≡◌, refl, sym, ap, ◌∙◌}
use mathlib.Core.Logic.{inr}
use mathlib.Core.Bool.{Bool, true, false}
use mathlib.Core.List.{List}
use Prim.Native.Nat.{ℕ, ◌+◌, ◌≤◌, ◌<◌}
use native.Mathlib.Omega.{arith}
use lib.Dec.{eqb}
use lib.ListN.{length, take}
use borrow.Table.Steps.{cases}
use borrow.Author.Tests.{eq-eqb, ne_eqb}
use Rattle.text.specs.LineNumbers.{line_number}
use Rattle.text.proofs.Laws.LineNumbers.{line_number-inside}
use Rattle.text.specs.Lines.{Line, size, blank_line, head_line}
use Rattle.text.specs.Parts.{lines_in, line_in, first_line, next_line, LineStart}
use Rattle.rules.specs.Headings.{is_heading}
use Rattle.text.proofs.Laws.Lines.{size-head_line, head_line-take, size-take-mono}
use Rattle.text.proofs.Laws.LinesIn.{line_in-some, lines_in-take, first_line-here, first_line-skip, first_line-twice, first_line-from, first_line-to}
use Rattle.text.proofs.Laws.LineStarts.{line_start-to, line_start-first}
use Rattle.text.proofs.Laws.MidLine.{line_in-same}
use Rattle.rules.specs.Kind
use Rattle.rules.specs.Kind.{inner_of}
use Rattle.rules.specs.Items.{is_item, item_start}
use Rattle.rules.specs.Elements.{Found}
use Rattle.rules.specs.Lists.{item, list_lines}
use Rattle.rules.specs.FirstRule.{item_at}
use Rattle.rules.specs.Findings.{spanned}
use Rattle.rules.specs.Places.{place_at, after_blank}
use Rattle.rules.specs.Spans.{inner_from, inner_to}
use Rattle.rules.specs.declared.rule.Element.{Element}
use Rattle.rules.specs.declared.place.Place.TheVariants.{Elsewhere}
use Rattle.rules.proofs.Laws.LineRules.{Fine}
use Rattle.rules.proofs.Laws.Elements.{fine-item}
use Rattle.rules.proofs.Laws.InLine.{is_in_line-yes, place_at-inside}
use Rattle.rules.proofs.Laws.InLists.{ListStepping, list-step}
use Rattle.rules.proofs.Laws.ItemLines.{item_start-left}
use Rattle.rules.proofs.Laws.Items.{item_start-le, item_start-some}
use Rattle.rules.proofs.Laws.Rests.{Rest, First, rest-head, rest_some}
use Rattle.rules.proofs.Laws.Scans.{list-gapped}
use Rattle.reading.specs.Walk.{lines_to, inner_place, Range, ItemsIn}
use Rattle.table.proofs.Basics.{split}
use Rattle.reading.proofs.Laws.NextPlaces.{place_at-first}
use Rattle.reading.proofs.Laws.Ranges.{Held, range-of, first-nonblank, line-start, end-to, end-start, rest, rest-whole, first_inner, item-place}

module _ (s : List ℕ) (p e : ℕ) (I : ItemsIn s p e) (h : p < e) where
  abbrev R : Range s p e
  R = I.range

  abbrev start : LineStart s p
  start = rw (← I.whole) R.start

  abbrev ls : List Line
  ls = lines_in s p e

  abbrev l : Line
  l = line_in s p e

  -- what is left of the list
  left : First (list_lines I.width 0) s I.until e p
  unfolding line_in
  left =
      let rest : Rest (list_lines I.width 0) s I.until e p =
      record { end = I.all; order = omega (arith, I.order); text = line_start-to s I.until I.start } in
      record {
        start = start;
        rest = rest;
        nonblank = λ i. rw (← rest-head (list-gapped I.width) rest (rest_some (list-gapped I.width) rest i)) (first-nonblank s p e R h);
      }

  step : ListStepping I.width s I.until e p
  step = list-step I.width s I.until e p I.start left h

  is-item : is_item l ≡ true
  is-item = rw step.head step.item

  abbrev f : Found
  f = item_at s p e

  pub fine : Fine ls f
  unfolding item_at
  fine = fine-item ls

  abbrev x : Element
  x = spanned p ls f

  abbrev b : ℕ
  b = first_line s x.end e

  -- ---- the items after it

  pub items-next : ItemsIn s b e
  unfolding spanned
  items-next =
      let own : item_at s p I.until ≡ f = sym step.found in
      let next : First (list_lines I.width 0) s I.until e b = rw own at step.next in
      record {
        range = rest s p e R h f fine;
        whole = rest-whole s p e R h f fine;
        width = I.width;
        until = I.until;
        start = I.start;
        order = I.order;
        all = next.rest.end;
      }

  -- ---- what it holds

  abbrev j : ℕ
  j = item_start l

  from_is : x.from ≡ p + j
  unfolding spanned item_at item inner_of inner_from line_in
  from_is = refl

  to_is : x.to ≡ x.end
  unfolding spanned item_at item inner_of inner_to
  to_is = refl

  abbrev a : ℕ
  a = first_line s x.from x.to

  -- its first line ends at byte c
  abbrev c : ℕ
  c = p + length l

  c-is : c ≡ p + size (take 1 ls)
  unfolding line_in
  c-is = ap (λ (n : ℕ). p + n) (size-head_line ls)

  c-start : LineStart s c
  c-start = rw c-is (line-start s p e R h 1 (omega arith))

  c-to : c ≤ x.to
  unfolding spanned
  c-to = omega (arith, to_is, c-is, size-take-mono 1 f.own ls fine.own)

  to_start : LineStart s x.to
  to_start = rw to_is (end-start s p e R h f fine)

  to-text : x.to ≤ length s
  to-text = omega (arith, to_is, end-to s p e R h f fine, R.text)

  plain-to : x.to ≤ next_line is_heading s p
  plain-to = omega (arith, to_is, end-to s p e R h f fine, R.plain, ap (next_line is_heading s) I.whole)

  -- the line is the same among its own lines
  same_line : line_in s p x.to ≡ l
  unfolding spanned line_in
  same_line =
      ap head_line (ap (lines_in s p) to_is ∙ lines_in-take s p e f.own R.order R.text) ∙ head_line-take f.own ls fine.own

  j-some : 0 < j
  j-some = item_start-some l (line_in-some s p e h R.text)

  -- where all of the line is taken, nothing follows
  none_left : length l ≤ j → a < x.to → ⊥
  none_left i k =
      let order = first_inner s p e R h f fine in
      omega (arith, from_is, order, item_start-le l, to_is, end-to s p e R h f fine, item_start-left s p e R.text is-item (omega (arith, from_is, order, item_start-le l, to_is, end-to s p e R h f fine)))

  -- the place of a later line
  later-place : (q : ℕ) → c ≤ q → q ≡ first_line s c x.to → place_at s q ≡ Elsewhere
  later-place q i k =
      let item : is_item (line_in s R.line e) ≡ true = ap (λ (q : ℕ). is_item (line_in s q e)) I.whole ∙ is-item in
      let at : R.line + size (take 1 (lines_in s R.line e)) ≡ c = ap (λ (q : ℕ). q + size (take 1 (lines_in s q e))) I.whole ∙ sym c-is in
      let here : place_at s c ≡ Elsewhere = rw (← at) (item-place s p e R h item 1 (omega arith)) in
      split c q
      (λ m. rw k (place_at-first s c x.to c-start to_start c-to (rw k at m)) ∙ ap after_blank here)
      (λ m. let same : q ≡ c = omega arith in ap (place_at s) same ∙ here)

  -- the line number of what is left
  item-line : f.kind ≡ Kind.item → a < x.to → line_number s x.from ≡ line_number s p
  item-line k i = split j (length l)
      (λ m. rw from_is (line_number-inside s p e j m R.order R.text))
      (λ m. absurd (none_left m i))

  -- where it starts: inside the first line, or later
  module _ (m : j < length l) where
    abbrev left-line : Line
    left-line = line_in s x.from x.to

    left_end : x.from + length left-line ≡ c
    left_end = rw from_is (line_in-same s p x.to j (rw same_line m) ∙ ap (λ (y : Line). p + length y) same_line)

    inside-range : blank_line left-line ≡ false → Range s a x.to
    inside-range i =
        let at : a ≡ p + j = first_line-here s x.from x.to i ∙ from_is in
        rw at
        (record {
          order = omega (arith, c-to);
          text = to-text;
          limit = R.limit;
          line = p;
          start = start;
          inside = inr (record { item = rw same_line is-item; from = omega (arith, j-some); to = rw same_line (omega arith) });
          end = to_start;
          plain = plain-to;
          first = rw (← from_is) (first_line-here s x.from x.to i);
        })

    inside-place : blank_line left-line ≡ false → inner_place Kind.item (eqb a x.from) ≡ place_at s a
    unfolding inner_place
    inside-place i =
        let at : a ≡ x.from = first_line-here s x.from x.to i in
        rw (eq-eqb a x.from at, inner_place) (sym (ap (place_at s) (at ∙ from_is) ∙ place_at-inside s (p + j) (is_in_line-yes s p e j m R.order R.text j-some)))

    later-is : blank_line left-line ≡ true → a ≡ first_line s c x.to
    later-is i = first_line-skip s x.from x.to i ∙ ap (λ (q : ℕ). first_line s q x.to) left_end

  later-range : a ≡ first_line s c x.to → Range s a x.to
  later-range i =
      let from = first_line-from s c x.to c-to to-text in
      let to = first_line-to s c x.to c-to to-text in
      range-of s p a x.to R.limit start (rw i (line_start-first s c x.to c-start to_start c-to)) to_start
      (omega (arith, i)) (omega (arith, i)) plain-to
      (rw i (first_line-twice s c x.to))

  -- at its end where nothing is left
  none_is : length l ≤ j → a ≡ first_line s c x.to
  none_is i = let at : x.from ≡ c = omega (arith, from_is, item_start-le l) in ap (λ (q : ℕ). first_line s q x.to) at

  item-range : Range s a x.to
  item-range = split j (length l)
      (λ m. cases (blank_line (left-line m)) (λ i. later-range (later-is m i)) (λ i. inside-range m i))
      (λ m. later-range (none_is m))

  inner-place : a < x.to → inner_place Kind.item (eqb a x.from) ≡ place_at s a
  unfolding inner_place
  inner-place k = split j (length l)
      (λ m. cases (blank_line (left-line m))
      (λ i.
      let at = later-is m i in
      let from = first_line-from s c x.to c-to to-text in
      let far : (a ≡ x.from → ⊥) = λ o. omega (arith, from_is, at) in
      rw (ne_eqb a x.from far, inner_place) (sym (later-place a (omega (arith, at)) at)))
      (λ i. inside-place m i))
      (λ m. absurd (none_left m k))

  pub item-held : Held s p e R h f fine
  unfolding item_at item
  item-held =
      record {
        counted = lines;
        line = item-line;
        run = λ k. item-range;
        inner = λ k m. omega (arith, from_is, j-some);
        place = λ k m. inner-place;
        items = λ k. absurd (omega arith);
      }
    where
      lines : (rows : Bool) → f.kind ≡ (lines_to rows x.to).kind → x.lines ≡ length (lines_in s a x.to)
      lines true k = absurd (omega arith)
      lines false k = absurd (omega arith)
