-- Elements in an item, one after the other: at each of them the scan for the item's lines finds what is left of it. So an element that does not go
-- on line by line lies in its item whole.
-- Assumes nothing.
use mathlib.Core.Path.{◌≡◌, refl, sym, ap, ◌∙◌, subst, subst₂}
use mathlib.Core.Bool.{true, false, true≢false}
use mathlib.Core.List.{List, ◌∷◌}
use Prim.Native.Nat.{ℕ, suc, ◌+◌, ◌-◌, ◌≤◌, ◌<◌, min}
use native.Mathlib.Omega.{arith}
use lib.ListN.{length, take, length-take}
use lib.Seq.{take_all}
use borrow.Table.Steps.{cases}
use Rattle.text.specs.Lines.{Line, size, blank_line, head_line, tail_lines}
use Rattle.text.specs.Parts.{lines_in, line_in, first_line, LineStart}
use Rattle.text.proofs.Laws.Lines.{size-head_line, head_line-take, size-take-mono}
use Rattle.text.proofs.Laws.LinesIn.{lines_in-next, lines_in-take, lines_in-step, line_in-to, line_in-some, first_line-here, first_line-skip}
use Rattle.text.proofs.Laws.LineStarts.{line_start-in}
use Rattle.text.proofs.Laws.MidLine.{line_in-same}
use Rattle.rules.specs.Items.{width, item_start}
use Rattle.rules.specs.Places.{is_in_line, place_at}
use Rattle.rules.specs.Kind.{is_run}
use Rattle.rules.specs.Elements.{Found}
use Rattle.rules.specs.Lists.{item_lines, item}
use Rattle.rules.specs.FirstRule.{paragraph_lines, paragraph, element, element_at, item_at}
use Rattle.rules.proofs.Laws.Items.{item_start-le, item_start-some}
use Rattle.rules.proofs.Laws.InLine.{is_in_line-yes, allows_rules-start, element-in_line}
use Rattle.rules.proofs.Laws.Scans.{split, item-gapped}
use Rattle.rules.proofs.Laws.Passing.{Passes}
use Rattle.rules.proofs.Laws.Steps.{Steps, element-steps, singles-less, singles-pass, singles-paragraph}
use Rattle.rules.proofs.Laws.Prefixes.{SameFound}
use Rattle.rules.proofs.Laws.ItemEnds.{paragraph-same, element-same}
use Rattle.rules.proofs.Laws.Rests.{take_min, Rest, rest-to, rest_lines, rest_some, rest-pass, rest_end, First, rest-first}

-- one finding's own lines are the other's, as far as there are lines
same_lines : (n m k : ℕ) (x : List Line) → n ≡ min m k → length x ≤ k → take n x ≡ take m x
same_lines n m k x e h =
    split k m
    (λ i. let a : n ≡ k = omega arith in rw a (take_all k x h ∙ sym (take_all m x (omega arith))))
    (λ i. let a : n ≡ m = omega arith in rw a)

found-path : (f g : Found) → f.kind ≡ g.kind → f.own ≡ g.own → f.detail ≡ g.detail → f ≡ g
found-path f g a b c = λ i. record { kind = a i; own = b i; detail = c i }

-- ---- elements in an item of indentation w that ends at e

-- inside the item's first line
pub record Inside (w : ℕ) (s : List ℕ) (h e p : ℕ) : Type 0 where
  pub in_line : is_in_line s p ≡ true
  pub more : p < h
  pub start : LineStart s (p + length (line_in s p h))
  pub rest : Rest (item_lines w 0) s h e (p + length (line_in s p h))

pub data InItem (w : ℕ) (s : List ℕ) (h e p : ℕ) : Type 0 where
  at-line : First (item_lines w 0) s h e p → InItem w s h e p
  in-line : Inside w s h e p → InItem w s h e p

-- an element that lies whole in a container that ends at e: what its rule finds up to h it finds up to e
pub record WholeAt (s : List ℕ) (h e p : ℕ) : Type 0 where
  pub found : element_at s p e ≡ element_at s p h
  pub within : p + size (take (element_at s p h).own (lines_in s p h)) ≤ e
  pub same : take (element_at s p h).own (lines_in s p e) ≡ take (element_at s p h).own (lines_in s p h)
  pub start : LineStart s p
  pub end : LineStart s e
  pub to : e ≤ h
  pub nonblank : blank_line (line_in s p h) ≡ false

-- the element at p, given the one end and the other, and the place after it
pub record Stepping (w : ℕ) (s : List ℕ) (h e p : ℕ) : Type 0 where
  pub kind : (element_at s p e).kind ≡ (element_at s p h).kind
  pub detail : (element_at s p e).detail ≡ (element_at s p h).detail
  pub lines : take (element_at s p e).own (lines_in s p e) ≡ take (element_at s p h).own (lines_in s p e)
  pub whole : is_run (element_at s p h).kind ≡ false → WholeAt s h e p
  pub next : InItem w s h e (first_line s (p + size (take (element_at s p h).own (lines_in s p e))) e)

module _ (w : ℕ) (s : List ℕ) (h e p : ℕ) (at-h : LineStart s h) where
  abbrev F : List Line → ℕ
  F = item_lines w 0

  abbrev f : Found
  f = element_at s p h

  abbrev ls : List Line
  ls = lines_in s p h

  -- where what is left of the item is known after the element's own lines
  step-next : (q : ℕ) → q ≡ p + size (take f.own (lines_in s p e)) → LineStart s q → Rest F s h e q
      → InItem w s h e (first_line s (p + size (take f.own (lines_in s p e))) e)
  step-next q i start rest = rw (← i) (at-line (rest-first (item-gapped w) rest start at-h))

  module _ (first : First F s h e p) (lt : p < e) where
    more : p < h
    more = omega (arith, rest-to (item-gapped w) first.rest)

    lines_step : ls ≡ line_in s p h ∷ lines_in s (p + length (line_in s p h)) h
    lines_step = lines_in-step s p h more first.rest.text

    steps : Steps w ls f
    unfolding element_at
    steps =
        subst (λ (x : List Line). Steps w x (element (place_at s p) x)) (sym lines_step)
        (element-steps w (line_in s p h) (lines_in s (p + length (line_in s p h)) h) (first.nonblank lt) (place_at s p) (allows_rules-start s p first.start))

    -- so many of its own lines are the item's
    abbrev n : ℕ
    n = min f.own (F ls)

    cut : take f.own (lines_in s p e) ≡ take n ls
    cut = ap (take f.own) (rest_lines (item-gapped w) first.rest) ∙ take_min f.own (F ls) ls

    -- the item has so many lines more
    abbrev u : ℕ
    u = F ls - 1

    abbrev z : List Line
    z = lines_in s (p + length (line_in s p h)) h

    many : F ls ≡ suc u
    many = omega (arith, rest_some (item-gapped w) first.rest lt)

    given : lines_in s p e ≡ line_in s p h ∷ take u z
    given = rest_lines (item-gapped w) first.rest ∙ ap (λ (m : ℕ). take m ls) many ∙ ap (take (suc u)) lines_step

    same : SameFound (suc u) f (element_at s p e)
    unfolding element_at
    same =
        let pl = place_at s p in
        subst₂ (λ (x y : List Line). SameFound (suc u) (element pl x) (element pl y)) (sym lines_step) (sym given)
        (element-same w (line_in s p h) z u (first.nonblank lt) (sym (ap F lines_step) ∙ many) pl (allows_rules-start s p first.start))

    line_step : Stepping w s h e p
    line_step =
        record {
          kind = same.kind;
          detail = same.detail;
          lines = same_lines (element_at s p e).own f.own (suc u) (lines_in s p e) same.own
              (rw (rest_lines (item-gapped w) first.rest) (omega (arith, length-take (F ls) ls, many)));
          whole = λ k.
              let m = steps.whole k (rest_some (item-gapped w) first.rest lt) in
              let all : n ≡ f.own = omega arith in
              record {
                found = found-path (element_at s p e) f same.kind (omega (arith, same.own, many)) same.detail;
                within = omega (arith, first.rest.end, size-take-mono f.own (F ls) ls m);
                same = cut ∙ ap (λ (i : ℕ). take i ls) all;
                start = first.start;
                end = rest_end (item-gapped w) first.rest first.start at-h;
                to = rest-to (item-gapped w) first.rest;
                nonblank = first.nonblank lt;
              };
          next =
              step-next (p + size (take n ls)) (rw cut)
              (line_start-in s p h first.start at-h first.rest.order n)
              (rest-pass (item-gapped w) first.rest n steps.passes);
        }

-- ---- inside the item's first line

module _ (w : ℕ) (s : List ℕ) (h e p : ℕ) (at-h : LineStart s h) (inside : Inside w s h e p) where
  abbrev next : ℕ
  next = p + length (line_in s p h)

  abbrev later : List Line
  later = lines_in s next h

  inside-step : lines_in s p h ≡ line_in s p h ∷ later
  inside-step = lines_in-step s p h inside.more inside.rest.text

  inside-end : e ≡ p + size (take (suc (item_lines w 0 later)) (lines_in s p h))
  unfolding size
  inside-end =
      let m = item_lines w 0 later in
      omega (arith, inside.rest.end, ap (λ (x : List Line). size (take (suc m) x)) inside-step)

  inside-lines : lines_in s p e ≡ take (suc (item_lines w 0 later)) (lines_in s p h)
  inside-lines =
      ap (lines_in s p) inside-end ∙ lines_in-take s p h (suc (item_lines w 0 later)) (omega (arith, inside.more)) inside.rest.text

  pub inside-head : line_in s p e ≡ line_in s p h
  unfolding line_in
  inside-head = ap head_line inside-lines ∙ head_line-take (suc (item_lines w 0 later)) (lines_in s p h) (omega arith)

  abbrev k : ℕ
  k = min (paragraph_lines later) (item_lines w 0 later)

  inside-own : (paragraph (lines_in s p h)).own ≡ suc (paragraph_lines later)
  unfolding paragraph tail_lines
  inside-own = ap (λ (x : List Line). suc (paragraph_lines (tail_lines x))) inside-step

  inside-cut : p + size (take (element_at s p h).own (lines_in s p e)) ≡ next + size (take k later)
  unfolding size
  inside-cut =
      let m = item_lines w 0 later in
      let own : (element_at s p h).own ≡ suc (paragraph_lines later) = ap (λ (x : Found). x.own) (element-in_line s p h inside.in_line) ∙ inside-own in
      let both : min (suc (paragraph_lines later)) (suc m) ≡ suc k = omega arith in
      let lines : take (element_at s p h).own (lines_in s p e) ≡ take (suc k) (lines_in s p h) =
      rw (own, inside-lines) (take_min (suc (paragraph_lines later)) (suc m) (lines_in s p h) ∙ ap (λ (x : ℕ). take x (lines_in s p h)) both) in
      omega (arith, ap size lines, ap (λ (x : List Line). size (take (suc k) x)) inside-step)

  inside-passes : Passes w later k
  inside-passes = singles-pass w (singles-less k (omega arith) (singles-paragraph later)) (omega arith)

  inside-given : lines_in s p e ≡ line_in s p h ∷ take (item_lines w 0 later) later
  inside-given = inside-lines ∙ ap (take (suc (item_lines w 0 later))) inside-step

  inside-same : SameFound (suc (item_lines w 0 later)) (element_at s p h) (element_at s p e)
  inside-same =
      subst₂ (SameFound (suc (item_lines w 0 later))) (sym (element-in_line s p h inside.in_line)) (sym (element-in_line s p e inside.in_line))
      (subst₂ (λ (x y : List Line). SameFound (suc (item_lines w 0 later)) (paragraph x) (paragraph y)) (sym inside-step) (sym inside-given)
      (paragraph-same w (line_in s p h) later (item_lines w 0 later) refl))

  pub inside-stepping : Stepping w s h e p
  unfolding paragraph is_run
  inside-stepping =
      record {
        kind = inside-same.kind;
        detail = inside-same.detail;
        lines = same_lines (element_at s p e).own (element_at s p h).own (suc (item_lines w 0 later)) (lines_in s p e) inside-same.own
            (rw inside-lines (omega (arith, length-take (suc (item_lines w 0 later)) (lines_in s p h))));
        whole = λ n. absurd (true≢false (ap (λ (x : Found). is_run x.kind) (sym (element-in_line s p h inside.in_line)) ∙ n));
        next =
            step-next w s h e p at-h (next + size (take k later)) (sym inside-cut)
            (line_start-in s next h inside.start at-h inside.rest.order k)
            (rest-pass (item-gapped w) inside.rest k inside-passes);
      }

pub item-step : (w : ℕ) (s : List ℕ) (h e p : ℕ) → LineStart s h → InItem w s h e p → p < e → Stepping w s h e p
item-step w s h e p at-h (at-line x) lt = line_step w s h e p at-h x lt
item-step w s h e p at-h (in-line x) lt = inside-stepping w s h e p at-h x

-- ---- the first element of the item at byte p

module _ (s : List ℕ) (h e p : ℕ) (at-h : LineStart s h) (at_p : LineStart s p) (lt : p < h) (text : h ≤ length s)
    (end : e ≡ p + size (take (item_at s p h).own (lines_in s p h))) where
  abbrev l : Line
  l = line_in s p h

  abbrev v : ℕ
  v = width l

  -- where its first line ends
  abbrev b : ℕ
  b = p + length l

  item-lines : lines_in s p h ≡ l ∷ lines_in s b h
  item-lines = lines_in-step s p h lt text

  item-own : (item_at s p h).own ≡ suc (item_lines v 0 (lines_in s b h))
  unfolding item_at item line_in
  item-own = ap (λ (x : List Line). suc (item_lines v 0 x)) (sym (lines_in-next s p h))

  after_first : Rest (item_lines v 0) s h e b
  unfolding size
  after_first =
      let m = item_lines v 0 (lines_in s b h) in
      record {
        end = omega (arith, end, ap (λ (n : ℕ). size (take n (lines_in s p h))) item-own, ap (λ (x : List Line). size (take (suc m) x)) item-lines);
        order = line_in-to s p h (omega arith) text;
        text = text;
      }

  b-start : LineStart s b
  unfolding line_in
  b-start = rw (size-head_line (lines_in s p h)) (line_start-in s p h at_p at-h (omega arith) 1)

  b-first : First (item_lines v 0) s h e (first_line s b e)
  b-first = rest-first (item-gapped v) after_first b-start at-h

  abbrev j : ℕ
  j = item_start l

  j-some : 0 < j
  j-some = item_start-some l (line_in-some s p h lt text)

  module _ (short : j < length l) where
    inside-first : Inside v s h e (p + j)
    inside-first =
        let same = line_in-same s p h j short in
        record {
          in_line = is_in_line-yes s p h j short (omega arith) text j-some;
          more = omega (arith, after_first.order);
          start = rw same b-start;
          rest = rw same after_first;
        }

    left-first : InItem v s h e (first_line s (p + j) e)
    left-first =
        let head = inside-head v s h e (p + j) at-h inside-first in
        cases (blank_line (line_in s (p + j) h))
        (λ i.
        let next : first_line s (p + j) e ≡ first_line s b e =
        first_line-skip s (p + j) e (rw head i) ∙ ap (λ (x : ℕ). first_line s x e) (ap (λ (x : Line). p + j + length x) head ∙ line_in-same s p h j short) in
        rw next (at-line b-first))
        (λ i. rw (first_line-here s (p + j) e (rw head i)) (in-line inside-first))

  pub item-first : InItem v s h e (first_line s (p + j) e)
  item-first =
      split j (length l) left-first
      (λ i. let same : p + j ≡ b = omega (arith, item_start-le l) in rw same (at-line b-first))
