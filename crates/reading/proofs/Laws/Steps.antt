-- One turn of the loop over elements, or over items: what stands at the first line lies in the range, and what is left after it is a range again,
-- at the place that the walk keeps. From ElementSteps, LeftSteps and ItemSteps.
-- Assumes nothing.
use mathlib.Core.Path.{◌≡◌, refl, sym, ap, ◌∙◌}
use mathlib.Core.Bool.{Bool, true, false, true≢false, false≢true}
use mathlib.Core.List.{List}
use Prim.Native.Nat.{ℕ, ◌+◌, ◌≤◌, ◌<◌}
use lib.Dec.{eqb}
use lib.ListN.{length}
use Rattle.text.specs.LineNumbers.{line_number}
use Rattle.text.specs.Lines.{blanks}
use Rattle.text.specs.Parts.{lines_in, first_line}
use Rattle.rules.specs.Elements.{Found}
use Rattle.rules.specs.Known.{Knows}
use Rattle.rules.specs.Findings.{spanned}
use Rattle.rules.specs.Places.{place_at, next_place}
use Rattle.rules.specs.declared.rule.Element.{Element}
use Rattle.rules.proofs.Laws.LineRules.{Fine}
use Rattle.table.specs.Makers.{found_record, element_record, item_record, child_record}
use Rattle.table.proofs.Basics.{on}
use Rattle.table.proofs.Laws.Makers.{child_record-item, child_record-element}
use Rattle.rules.specs.Kind.{holds_elements}
use Rattle.reading.specs.Walk.{State, absorbed, entries_from, with_held, record_of, run_to, found_in, Range, ItemsIn, ElementIn}
use Rattle.reading.proofs.Laws.Turns.{run-turn}
use Rattle.reading.proofs.Laws.Ranges.{Held, end-some, end-to, rest, record_is, known-after, own-blanks, found_here}
use Rattle.reading.proofs.Laws.ElementSteps as element
use Rattle.reading.proofs.Laws.LeftSteps as left
use Rattle.reading.proofs.Laws.ItemSteps as item

-- what stands at byte p of a range up to byte e, of items or of elements, and what follows it
pub record Stepped (items : Bool) (s : List ℕ) (p e : ℕ) (some : p < e) : Type 0 where
  pub range : Range s p e
  pub fine : Fine (lines_in s p e) (found_in items s p e)
  pub held : Held s p e range some (found_in items s p e) fine
  pub place : items ≡ false → let x = spanned p (lines_in s p e) (found_in items s p e) in let b = first_line s x.end e in
      place_at s b ≡ next_place (place_at s p) x.kind (eqb b x.end)
  pub all : items ≡ true → ItemsIn s (first_line s (spanned p (lines_in s p e) (found_in items s p e)).end e) e

pub stepped : (items : Bool) (s : List ℕ) (p e : ℕ) (some : p < e) → Range s p e → (items ≡ true → ItemsIn s p e) → Stepped items s p e some
stepped true s p e some R all =
    let I = all refl in
    record {
      range = I.range;
      fine = item.fine s p e I some;
      held = item.item-held s p e I some;
      place = λ i. absurd (true≢false i);
      all = λ i. item.items-next s p e I some;
    }
stepped false s p e some R all = on R.inside
    (λ i.
    record {
      range = R;
      fine = element.fine s p e R some i;
      held = element.element-held s p e R some i;
      place = λ j. element.next-place s p e R some i;
      all = λ j. absurd (false≢true j);
    })
    (λ i.
    record {
      range = R;
      fine = left.fine s p e R some i;
      held = left.left-held s p e R some i;
      place = λ j. left.left-place s p e R some i _;
      all = λ j. absurd (false≢true j);
    })

-- the record that stands there
child-is : (items : Bool) (s : List ℕ) (e q p : ℕ) → child_record s (run_to items e) q p ≡ found_record s e q p (found_in items s p e)
unfolding item_record element_record holds_elements
child-is true s e q p = child_record-item s (run_to true e) q p refl
child-is false s e q p = child_record-element s (run_to false e) q p tt

-- ---- as the code finds it: x stands there, and b is where `first_line` finds the next

module _ (items : Bool) (s : List ℕ) (p e : ℕ) (some : p < e) (S : Stepped items s p e some) (x : Element)
    (is : x ≡ spanned p (lines_in s p e) (found_in items s p e)) where
  abbrev f : Found
  f = found_in items s p e

  pub step_end : (p < x.end) × (x.end ≤ e)
  step_end = rw is (end-some s p e S.range some f S.fine, end-to s p e S.range some f S.fine)

  module _ (b : ℕ) (next : b ≡ first_line s x.end e) where
    next-is : b ≡ first_line s (spanned p (lines_in s p e) f).end e
    next-is = next ∙ ap (λ (y : Element). first_line s y.end e) is

    pub step-record : (q : ℕ) → record_of s p b x q ≡ child_record s (run_to items e) q p
    step-record q = rw (next-is, is) (record_is s p e S.range some f S.fine q) ∙ sym (child-is items s e q p)

    -- with it absorbed, what is left is what was asked
    pub step-turn : (q d : ℕ) (st st' : State) → st' ≡ absorbed st (with_held s (record_of s p b x q) st.sink.count d)
        → absorbed st' (entries_from s (run_to items e) q d b st'.sink.count) ≡ absorbed st (entries_from s (run_to items e) q d p st.sink.count)
    step-turn q d st st' = rw (← step-record q) at (run-turn s items e q d p st st' some S.range.text)

    pub step-lies : ElementIn s p b x
    step-lies = rw (next-is, is) (found_here s p e S.range some f S.fine S.held)

    -- its own lines, and the blank lines after it
    pub step_lines : (m : ℕ) → m ≡ blanks (lines_in s x.end e)
        → (x.own + m ≤ length s) × (b < length s → line_number s b ≡ line_number s p + (x.own + m))
    step_lines m i = rw (i, next-is, is) (own-blanks s p e S.range some f S.fine)

    pub step_range : Range s b e
    step_range = rw next-is (rest s p e S.range some f S.fine)

    pub step-place : items ≡ false → place_at s b ≡ next_place (place_at s p) x.kind (eqb b x.end)
    step-place i = rw (next-is, is) (S.place i)

    pub step-all : items ≡ true → ItemsIn s b e
    step-all i = rw next-is (S.all i)

    pub step-known : (t : Bool) (m : ℕ) → Knows s x.end e t m → Knows s b e t m
    step-known t m = rw (next-is, is) (known-after s p e S.range some f S.fine t m)
