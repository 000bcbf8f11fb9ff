-- `reading::walk::next_element` meets its contract: the element, or the item, at the line is the one that the rules give, it lies in the range, and
-- what is after it is a range too. From Steps.
-- Assumes nothing.
use Rattle.std.proofs.Common.{◌≡◌, sym, ap, ◌∙◌, Bool, List, ℕ, ◌+◌, ◌≤◌, ◌<◌, length, arith}
use Rattle.text.specs.LineNumbers.{line_number}
use Rattle.text.specs.Parts.{lines_in}
use Rattle.text.specs.Spans.{line_span}
use Rattle.text.specs.declared.line.LineSpan.{LineSpan}
use Rattle.text.proofs.Laws.LineNumbers.{line_number-le}
use Rattle.rules.specs.Lists.{item}
use Rattle.rules.specs.FirstRule.{element, element_at, item_at}
use Rattle.rules.specs.Known.{Knows}
use Rattle.rules.specs.Places.{place_at}
use Rattle.rules.specs.Findings.{InScope, Parses, spanned}
use Rattle.rules.specs.declared.ahead.Parsed.{Parsed}
use Rattle.rules.specs.declared.place.Place.{Place}
use Rattle.rules.proofs.Laws.LineOf.{line_of, line_span-start}
use Rattle.reading.specs.Walk.{scope_of, found_in}
use Rattle.reading.proofs.Laws.Steps.{Stepped, stepped, step_end, step-lies, step_lines, step_range, step-place, step-all, step-known}
use Rattle.reading.proofs.walk.next_element.Goals as goal
use Rattle.reading.proofs.walk.next_element.Goals.{After-line_at-line, Joined-items, After-first_line-next, then-items, else-items}

-- what `item_at` and `element_at` answer, of the line that `line_at` does
item-is : (s : List ℕ) (p e : ℕ) (l : LineSpan) (pl : Place) (b : Bool) (m : ℕ) (r : Parsed) → l ≡ line_span s p e
    → Parses item s l (scope_of e pl b m) r → r.element ≡ spanned p (lines_in s p e) (item_at s p e)
unfolding item_at
item-is s p e l pl b m r h i = let k = line_span-start s l p e h in i.is ∙ rw k

element-is : (s : List ℕ) (p e : ℕ) (l : LineSpan) (pl : Place) (b : Bool) (m : ℕ) (r : Parsed) → l ≡ line_span s p e → pl ≡ place_at s p
    → Parses (element pl) s l (scope_of e pl b m) r → r.element ≡ spanned p (lines_in s p e) (element_at s p e)
unfolding element_at
element-is s p e l pl b m r h j i = let k = line_span-start s l p e h in i.is ∙ rw (k, j)

-- the line at `at` is one of the scope
line : (c : After-line_at-line) → let a = c.args in InScope a.text.now c.line_at-line.result (scope_of a.to a.place a.ends a.names)
line c =
    let pre = c.requires in
    let is = c.line_at-line.ensures in
    record { line = line_of _ _ _ _ pre.1 pre.0.range.text is; known = rw (line_span-start _ _ _ _ is) pre.0.known }

pub item_at-parsed-requires : goal.item_at-parsed-requires
item_at-parsed-requires c =
    let range = c.requires.0.range in
    (line (goal.at.item_at-parsed-requires c).After-line_at-line, omega (arith, range.text, range.limit))

pub element_at-parsed-requires : goal.element_at-parsed-requires
element_at-parsed-requires c =
    let range = c.requires.0.range in
    (line (goal.at.element_at-parsed-requires c).After-line_at-line, omega (arith, range.text, range.limit))

-- what is found there
here : (c : Joined-items) → let a = c.args in
    c.if-items.parsed.element ≡ spanned a.at (lines_in a.text.now a.at a.to) (found_in a.items a.text.now a.at a.to)
here c =
    let pre = c.requires in
    let at-line = c.line_at-line.ensures in
    elim c.if-items.branch [
      | then-items w ↦ ap (λ (r : Parsed). r.element) w.parsed-is ∙ rw w.if-items.true (item-is _ _ _ _ _ _ _ _ at-line w.item_at-parsed.ensures)
      | else-items w ↦
          ap (λ (r : Parsed). r.element) w.parsed-is
          ∙ rw w.if-items.false (element-is _ _ _ _ _ _ _ _ at-line (pre.0.place w.if-items.false pre.1) w.element_at-parsed.ensures)
    ]

known : (c : Joined-items) → let a = c.args in
    Knows a.text.now c.if-items.parsed.element.end a.to c.if-items.parsed.ends c.if-items.parsed.names
known c =
    elim c.if-items.branch [
      | then-items w ↦ rw w.parsed-is w.item_at-parsed.ensures.known
      | else-items w ↦ rw w.parsed-is w.element_at-parsed.ensures.known
    ]

steps : (c : Joined-items) → let a = c.args in Stepped a.items a.text.now a.at a.to c.requires.1
steps c = let pre = c.requires in stepped _ _ _ _ pre.1 pre.0.range pre.0.all

pub first_line-next-requires : goal.first_line-next-requires
first_line-next-requires c =
    let joined = (goal.at.first_line-next-requires c).Joined-items in
    ((step_end _ _ _ _ _ (steps joined) _ (here joined)).1, c.requires.0.range.text)

-- so many lines are its own and blank
lines : (c : After-first_line-next) → let a = c.args in
    let n = c.if-items.parsed.element.own + c.first_line-next.result.lines in
    let s = a.text.now in
    let b = c.first_line-next.result.at in
    (n ≤ length s) × (b < length s → line_number s b ≡ line_number s a.at + n)
lines c =
    let joined = (goal.at.After-first_line-next c).Joined-items in
    step_lines _ _ _ _ _ (steps joined) _ (here joined) _ c.first_line-next.ensures.0 _ c.first_line-next.ensures.1

pub overflow_add-result : goal.overflow_add-result
overflow_add-result c =
    omega (arith, lines (goal.at.overflow_add-result c).After-first_line-next, c.requires.0.range.text, line_number-le c.args.text.now c.args.at)

pub overflow_add-result-2 : goal.overflow_add-result-2
overflow_add-result-2 c =
    omega (arith, lines (goal.at.overflow_add-result-2 c).After-first_line-next, c.requires.0.range.text, line_number-le c.args.text.now c.args.at)

pub returns : goal.returns
returns c =
    let joined = (goal.at.returns c).Joined-items in
    let (range, some, number) = c.requires in
    let is = here joined in
    let S = steps joined in
    let next = c.first_line-next.ensures.0 in
    record {
      here = is;
      next = next;
      line = λ i. rw number (omega (arith, (lines (goal.at.returns c).After-first_line-next).1 i));
      lies = step-lies _ _ _ _ _ S _ is _ next;
      rest = record {
        range = step_range _ _ _ _ _ S _ is _ next;
        place = λ i h. c.next_place.ensures ∙ rw (range.place i some) (sym (step-place _ _ _ _ _ S _ is _ next i));
        all = step-all _ _ _ _ _ S _ is _ next;
        known = step-known _ _ _ _ _ S _ is _ next _ _ (known joined);
      };
    }
