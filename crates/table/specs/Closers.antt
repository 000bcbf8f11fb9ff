-- "A closer within an item is sought up to the end of the section, block or drawer around its lists"  [02 order 4]. The definitions give each rule its
-- container's end, and an item's may stand before that one. This page says that nothing is lost by it: at each element and each item of a table, rules
-- find the same given the one end or the other. All that an item's end cuts off are further lines of a comment, fixed-width area or paragraph.
use Rattle.std.specs.Prelude.{◌≡◌, true, false, List, ℕ, zero, suc, ◌+◌, ◌≤◌, T, take}
use Rattle.text.specs.Lines.{size}
use Rattle.text.specs.Parts.{lines_in, line_in}
use Rattle.rules.specs.Kind
use Rattle.rules.specs.Kind.{holds_elements, is_bound, is_run}
use Rattle.rules.specs.Items.{width, is_item}
use Rattle.rules.specs.FirstRule.{element_at, item_at}
use Rattle.table.specs.declared.record.Record.{Record}
use Rattle.table.specs.Records.{at, up}
use Rattle.table.specs.Proper.{EachLater}

-- ---- the end up to which closers are sought

-- in a record, where around it they are sought up to h: a section's, drawer's or greater block's own inner end, else still h
unfoldable pub end_in : ℕ → Record → ℕ
end_in h r = elim (is_bound r.kind) [ true ↦ r.to | false ↦ h ]

-- in record i of a table, by that in its parent; parents are earlier, so n more than i makes the recursion end
unfoldable pub end_from : ℕ → List Record → ℕ → ℕ
unfolding end_in
end_from zero R i = 0
end_from (suc n) R i = end_in (end_from n R (at R i).parent) (at R i)

-- in record i: the inner end of the nearest section, drawer or greater block that it is or stands in; 0 where there is none, in a document or heading
unfoldable pub closers_end : List Record → ℕ → ℕ
unfolding end_from
closers_end R i = end_from (suc i) R i

-- ---- what is found given the container's end e, and given the end h up to which closers are sought

-- The element at byte p has the same kind and detail, and the same own lines before e. It ends there, unless it goes on line by line.
pub record SameElement (s : List ℕ) (h e p : ℕ) : Type 0 where
  pub kind : (element_at s p e).kind ≡ (element_at s p h).kind
  pub detail : (element_at s p e).detail ≡ (element_at s p h).detail
  pub lines : take (element_at s p e).own (lines_in s p e) ≡ take (element_at s p h).own (lines_in s p e)
  pub whole : is_run (element_at s p e).kind ≡ false → p + size (take (element_at s p h).own (lines_in s p h)) ≤ e

-- The item at byte p stands at an item line of the list's indentation w, and is the same, with all its lines before e.
pub record SameItem (s : List ℕ) (h e p w : ℕ) : Type 0 where
  pub item : is_item (line_in s p h) ≡ true
  pub indentation : width (line_in s p h) ≡ w
  pub found : item_at s p e ≡ item_at s p h
  pub whole : p + size (take (item_at s p h).own (lines_in s p h)) ≤ e

-- record r in its container c, where closers are sought up to h
pub record Sought (s : List ℕ) (h : ℕ) (c r : Record) : Type 0 where
  pub element : T (holds_elements c.kind) → SameElement s h c.to r.start
  pub item : c.kind ≡ Kind.list → SameItem s h c.to r.start (width (line_in s c.start h))

-- each record of a table but the first
abbrev pub AllSought : List ℕ → List Record → Type 0
AllSought s R = EachLater R (λ k. Sought s (closers_end R (at R k).parent) (up R k) (at R k))

-- opens the definitions of this file, for computed examples
unfoldable pub OpenClosers : Type 1
unfolding closers_end
OpenClosers = Type 0
