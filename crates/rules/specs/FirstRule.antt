-- What stands at a line: what the first rule that holds there finds, and a paragraph where none does  [01 "What starts at a line"].
use Rattle.std.specs.Prelude.{true, false, ◌||◌, List, [], ◌∷◌, ℕ, suc}
use Rattle.std.proofs.Math.Option.{Option, none, some, get_or}
use Rattle.text.specs.Lines.{Line, blank_line, tail_lines}
use Rattle.text.specs.Parts.{lines_in}
use Rattle.rules.specs.Kind
use Rattle.rules.specs.declared.place.Place.{Place}
use Rattle.rules.specs.Places.{place_at, allows_rules}
use Rattle.rules.specs.Items.{is_some, is_item}
use Rattle.rules.specs.Elements.{Found, found, first_of, rules3to9, rules1to9}
use Rattle.rules.specs.Lists.{item, list, OpenLists}

-- rules 1 to 9a: rule 9a comes after rule 9
unfoldable pub or_else : Option Found → Option Found → Option Found
or_else none o = o
or_else (some f) o = some f

unfoldable pub by_rules : Place → List Line → Option Found
unfolding or_else
by_rules pl ls = let o = list ls in or_else (first_of (rules1to9 pl) ls) o

-- rule 10: how many more lines a paragraph has: up to a blank line, the end, a line where one of rules 3 to 9 holds, or an item line  [02 order 4]
unfoldable pub paragraph_lines : List Line → ℕ
paragraph_lines [] = 0
paragraph_lines (l ∷ ls) =
    elim (blank_line l || is_some (first_of rules3to9 (l ∷ ls)) || is_item l) [ true ↦ 0 | false ↦ suc (paragraph_lines ls) ]

unfoldable pub paragraph : List Line → Found
paragraph ls = found Kind.paragraph (suc (paragraph_lines (tail_lines ls))) 0

-- the first rule that holds; what is left on an item's first line begins a paragraph, whatever it looks like  [02 order 4]
unfoldable pub element : Place → List Line → Found
element pl ls = let f = paragraph ls in elim (allows_rules pl) [ true ↦ get_or (by_rules pl ls) f | false ↦ f ]

-- the element and the item at byte p, given their container's end
unfoldable pub element_at : List ℕ → ℕ → ℕ → Found
element_at s p e = element (place_at s p) (lines_in s p e)

unfoldable pub item_at : List ℕ → ℕ → ℕ → Found
item_at s p e = item (lines_in s p e)

-- opens the definitions of this file and of those it stands on, for computed examples
unfoldable pub OpenFirstRule : Type 1
unfolding OpenLists or_else by_rules paragraph_lines paragraph element element_at item_at
OpenFirstRule = Type 0
