-- What an element holds, as a run of elements or, of a list, of items: the range is in the element, less is left to read, and the count of records
-- stays in bounds. A list and its first item start at one byte, but an item's run starts past its bullet.
-- Assumes nothing.
use mathlib.Core.Path.{◌≡◌, ap}
use mathlib.Core.Bool.{Bool, true, false}
use mathlib.Core.List.{List}
use Prim.Native.Nat.{ℕ, ◌+◌, ◌-◌, ◌*◌, ◌≤◌, ◌<◌}
use native.Mathlib.Omega.{arith}
use lib.Dec.{T, eqb}
use lib.ListN.{length}
use borrow.Table.Steps.{cases}
use borrow.Author.Tests.{eqb-true, eqb-false, eq-eqb, ne_eqb}
use Rattle.text.specs.Parts.{first_line}
use Rattle.text.proofs.Laws.LinesIn.{first_line-from, first_line-to}
use Rattle.rules.specs.Kind
use Rattle.rules.specs.Kind.{is_holder, counts_depth}
use Rattle.rules.specs.Known.{any_name}
use Rattle.rules.specs.declared.rule.Element.{Element}
use Rattle.rules.proofs.Laws.Kind.{elements-holder}
use Rattle.rules.proofs.Laws.NoLines.{knows-nothing}
use Rattle.table.specs.Nesting.{depth_in}
use Rattle.reading.specs.Walk.{scope_of, inner_place, holds_run, ElementIn, RangeIn, StepAt, slack, slack_of}
use Rattle.reading.specs.declared.walk.Step.{Step}
use Rattle.rules.specs.Lists.{item}
use Rattle.rules.specs.FirstRule.{item_at}
use Rattle.rules.specs.Findings.{spanned}
use Rattle.reading.proofs.Laws.Holders.{depth_in-more, run-elements}

pub slack-le : (b : Bool) → slack b ≤ 1
slack-le true = omega arith
slack-le false = omega arith

pub slack_of-item : (k : ℕ) → k ≡ Kind.item → slack_of k ≡ 1
slack_of-item k h = rw (eq-eqb k Kind.item h)

pub slack_of-other : (k : ℕ) → (k ≡ Kind.item → ⊥) → slack_of k ≡ 0
slack_of-other k h = rw (ne_eqb k Kind.item h)

-- what stands in a run of items is an item
pub step-slack : (s : List ℕ) (p e : ℕ) (items : Bool) (r : Step) → StepAt s p e items r → slack items ≤ slack_of r.e.kind
unfolding spanned item_at item
step-slack s p e true r h = let k = slack_of-item r.e.kind (ap (λ (x : Element). x.kind) h.here) in omega (arith, k)
step-slack s p e false r h = omega arith

-- an element that the walk goes into
pub item-run : (k : ℕ) → k ≡ Kind.item → T (holds_run k)
unfolding holds_run counts_depth
item-run k h = rw h tt

pub deep-run : (d k : ℕ) → d < depth_in d k → T (holds_run k)
unfolding holds_run
deep-run d k h = let c = depth_in-more d k h in cases (counts_depth k) (λ e. rw e tt) (λ e. absurd (rw e at c))

module _ (s : List ℕ) (p b : ℕ) (e : Element) (i : ElementIn s p b e) (run : T (holds_run e.kind)) where
  abbrev a : ℕ
  a = first_line s e.from e.to

  abbrev items : Bool
  items = eqb e.kind Kind.list

  text : e.to ≤ length s
  text = omega (arith, i.to, i.text)

  order : (e.from ≤ a) × (a ≤ e.to)
  order = (first_line-from s e.from e.to i.order text, first_line-to s e.from e.to i.order text)

  pub inside-holder : T (is_holder e.kind)
  unfolding is_holder
  inside-holder = cases (eqb e.kind Kind.list)
      (λ k. let l = eqb-true e.kind Kind.list k in rw l tt)
      (λ k. elements-holder e.kind (run-elements e.kind run (eqb-false e.kind Kind.list k)))

  pub inside-range : RangeIn s a items (scope_of e.to (inner_place e.kind (eqb a e.from)) true any_name)
  inside-range =
      record {
        range = i.run run;
        place = λ k. i.place run (eqb-false e.kind Kind.list k);
        all = λ k. let (some, first, all) = i.items (eqb-true e.kind Kind.list k) in rw first all;
        known = knows-nothing _ _ _;
      }

  -- a list, whose run starts with it, or another
  data Where : Type 0 where
    list : a ≡ p → p < e.to → slack items ≡ 1 → slack_of e.kind ≡ 0 → Where
    other : p < e.from → slack items ≡ 0 → Where

  placed : Where
  placed = cases (eqb e.kind Kind.list)
      (λ k. let l = eqb-true e.kind Kind.list k in let (some, first, all) = i.items l in
      list first some (rw k) (slack_of-other e.kind (λ n. omega arith)))
      (λ k. other (i.inner run (eqb-false e.kind Kind.list k)) (rw k))

  pub inside-less : 4 * (e.to - a) + (3 - 2 * slack items) < 4 * (b - p) + (2 - 2 * slack_of e.kind)
  inside-less = go placed
    where
      go : Where → 4 * (e.to - a) + (3 - 2 * slack items) < 4 * (b - p) + (2 - 2 * slack_of e.kind)
      go (list f m n o) = omega (arith, f, m, n, o, i.to)
      go (other f n) = omega (arith, f, n, order, i.to, i.some, slack-le (eqb e.kind Kind.item))

  module _ (n m : ℕ) (one : m ≤ n + 1) where
    pub inside-count : n ≤ 2 * p + 2 + slack_of e.kind → m ≤ 2 * a + 2 + slack items
    inside-count h = go placed
      where
        go : Where → m ≤ 2 * a + 2 + slack items
        go (list f k j o) = omega (arith, f, j, o)
        go (other f j) = omega (arith, f, j, order, slack-le (eqb e.kind Kind.item))

    pub inside-after : (r : ℕ) → r + 2 * a ≤ m + 2 * e.to → (a < e.to → r + 2 * a + slack items ≤ m + 2 * e.to)
        → r + 2 * p + slack_of e.kind ≤ n + 2 * b
    inside-after r h g = go placed
      where
        go : Where → r + 2 * p + slack_of e.kind ≤ n + 2 * b
        go (list f k j o) = omega (arith, f, j, o, g (omega (arith, f, k)), i.to)
        go (other f j) = omega (arith, f, j, order, i.to, slack-le (eqb e.kind Kind.item))
