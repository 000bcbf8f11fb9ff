-- Rule 9a: a plain list and its items  [02 order 4]. The lines are those from there to the container's end, within a list too: an item has all the
-- lines of a block, drawer or table in it, so its end cuts off no closer that stands before the end of the section, block or drawer around its
-- lists. That is proved of every reading (`ClosersSought`, in table).
use Rattle.std.specs.Prelude.{true, false, ◌&&◌, List, [], ◌∷◌, ℕ, zero, suc, ◌-◌, leb, eqb}
use Rattle.std.proofs.Math.Option.{Option, get_or}
use Rattle.text.specs.Lines.{Line, blank_line, head_line, tail_lines}
use Rattle.rules.specs.Kind
use Rattle.rules.specs.Items.{width, is_item, list_detail, OpenItems}
use Rattle.rules.specs.Elements.{Found, found, when, first_of, rules3to5, OpenElements}

-- Of a block, drawer or table within an item only the first line counts, not the later ones, closer and formula lines included: so many lines stand
-- or fall with the first.
unfoldable pub together : List Line → ℕ
together ls = (get_or (first_of rules3to5 ls) (found Kind.paragraph 1 0)).own

-- a blank line and what follows it, where something does
unfoldable pub with_blank : ℕ → ℕ
with_blank zero = 0
with_blank (suc n) = suc (suc n)

-- How many of the lines after its first an item of indentation w has: it ends before a non-blank line indented no more than it, or at two blank
-- lines together, or at the container's end, with its last non-blank line. The first m lines stand with the line before them.
unfoldable pub item_lines : ℕ → ℕ → List Line → ℕ
unfolding with_blank
item_lines w m [] = 0
item_lines w (suc m) (l ∷ ls) = suc (item_lines w m ls)
item_lines w zero (l ∷ ls) =
    elim (blank_line l) [
      | true ↦ elim (blank_line (head_line ls)) [ true ↦ 0 | false ↦ with_blank (item_lines w 0 ls) ]
      | false ↦ elim (leb (width l) w) [ true ↦ 0 | false ↦ suc (item_lines w (together (l ∷ ls) - 1) ls) ]
    ]

-- the item at the first of some lines
unfoldable pub item : List Line → Found
item ls = found Kind.item (suc (item_lines (width (head_line ls)) 0 (tail_lines ls))) 0

-- How many of the lines after a list's first line are the list's: items of indentation w in a row, with no two blank lines together between them.
-- The first m lines are those of the item before.
unfoldable pub list_lines : ℕ → ℕ → List Line → ℕ
unfolding with_blank
list_lines w m [] = 0
list_lines w (suc m) (l ∷ ls) = suc (list_lines w m ls)
list_lines w zero (l ∷ ls) =
    elim (blank_line l) [
      | true ↦ elim (blank_line (head_line ls)) [ true ↦ 0 | false ↦ with_blank (list_lines w 0 ls) ]
      | false ↦ elim (is_item l && eqb (width l) w) [ true ↦ suc (list_lines w (item_lines w 0 ls) ls) | false ↦ 0 ]
    ]

-- the list at the first of some lines, an item line
unfoldable pub list_of : List Line → Found
list_of ls =
    let l = head_line ls in
    let w = width l in
    let rest = tail_lines ls in
    found Kind.list (suc (list_lines w (item_lines w 0 rest) rest)) (list_detail l)

-- rule 9a
unfoldable pub list : List Line → Option Found
unfolding list_of
list ls = when (is_item (head_line ls)) (list_of ls)

-- opens the definitions of this file and of those it stands on, for computed examples
unfoldable pub OpenLists : Type 1
unfolding OpenItems OpenElements together with_blank item_lines item list_lines list_of list
OpenLists = Type 0
