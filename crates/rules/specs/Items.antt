-- Item lines: their indentation, their bullet, and what is left on them  [02 order 4].
use Rattle.std.specs.Prelude.{Bool, true, false, not, ◌&&◌, ◌||◌, List, [], ◌∷◌, ℕ, ◌+◌, ◌-◌, length, ltb, eqb}
use Rattle.std.proofs.Math.Option.{Option, none, some, get_or}
use Rattle.text.specs.Bytes.{is_blank, is_indent, is_non_blank, is_letter, is_digit, lower}
use Rattle.text.specs.Runs.{run, after_run}
use Rattle.text.specs.Lines.{Line, indent, OpenLines}

-- whether there is something
unfoldable pub is_some : {A : Type 0} → Option A → Bool
is_some none = false
is_some (some a) = true

-- Indentation counts 1 for a space, 8 for a tab.
unfoldable pub width_of : List ℕ → ℕ
width_of [] = 0
width_of (b ∷ x) = let n = width_of x in elim (eqb b 9) [ true ↦ 8 + n | false ↦ 1 + n ]

unfoldable pub width : Line → ℕ
unfolding width_of
width l = width_of (run is_indent l)

-- ---- parts of a line: each gives what follows it, or nothing where it does not stand there

abbrev pub Part : Type 0
Part = List ℕ → Option (List ℕ)

-- a byte that passes a test
unfoldable pub after_byte : (ℕ → Bool) → List ℕ → Option (List ℕ)
after_byte f [] = none
after_byte f (b ∷ x) = elim (f b) [ true ↦ some x | false ↦ none ]

-- a number or one letter
unfoldable pub after_counter : List ℕ → Option (List ℕ)
after_counter [] = none
after_counter (b ∷ x) = elim (is_letter b) [ true ↦ some x | false ↦ elim (is_digit b) [ true ↦ some (after_run is_digit x) | false ↦ none ] ]

-- then a blank byte or line end
unfoldable pub is_ended : List ℕ → Bool
is_ended [] = true
is_ended (b ∷ x) = not (is_non_blank b)

unfoldable pub ended : List ℕ → Option (List ℕ)
unfolding is_ended
ended x = elim (is_ended x) [ true ↦ some x | false ↦ none ]

-- parts one after another
unfoldable pub and_then : Option (List ℕ) → Part → Option (List ℕ)
and_then none f = none
and_then (some x) f = f x

unfoldable pub after_all : List Part → List ℕ → Option (List ℕ)
unfolding and_then
after_all [] x = some x
after_all (f ∷ fs) x = and_then (f x) (after_all fs)

-- ---- bullets

-- `-`, `+`, an indented `*`
unfoldable pub is_sign : Bool → ℕ → Bool
is_sign indented b = eqb b 45 || eqb b 43 || (indented && eqb b 42)

unfoldable pub after_sign : Bool → List ℕ → Option (List ℕ)
unfolding is_sign
after_sign indented x = after_all (after_byte (is_sign indented) ∷ ended ∷ []) x

-- a number or one letter with `.` or `)`
unfoldable pub is_mark : ℕ → Bool
is_mark b = eqb b 46 || eqb b 41

unfoldable pub after_number : List ℕ → Option (List ℕ)
unfolding is_mark
after_number x = after_all (after_counter ∷ after_byte is_mark ∷ ended ∷ []) x

unfoldable pub or_then : Option (List ℕ) → Option (List ℕ) → Option (List ℕ)
or_then none b = b
or_then (some x) b = some x

unfoldable pub after_bullet : Line → Option (List ℕ)
after_bullet l =
    let x = after_run is_indent l in
    let n = after_number x in
    or_then (after_sign (ltb 0 (indent l)) x) n

unfoldable pub is_item : Line → Bool
unfolding is_some
is_item l = is_some (after_bullet l)

-- detail 1 if the first has a number or letter bullet, else 2
unfoldable pub list_detail : Line → ℕ
unfolding is_some
list_detail l = elim (is_some (after_number (after_run is_indent l))) [ true ↦ 1 | false ↦ 2 ]

-- ---- what is left on an item's line, after bullet, counter set, check box (as present) and the blank bytes after them

-- counter set: `[@`, a number or one letter, `]`
unfoldable pub is_byte : ℕ → ℕ → Bool
is_byte c b = eqb b c

unfoldable pub after_set : List ℕ → Option (List ℕ)
unfolding is_byte
after_set x = after_all (after_byte (is_byte 91) ∷ after_byte (is_byte 64) ∷ after_counter ∷ after_byte (is_byte 93) ∷ ended ∷ []) x

-- check box: `[`, a blank byte, `X` or `-`, `]`
unfoldable pub is_box_byte : ℕ → Bool
is_box_byte b = is_blank b || eqb (lower b) 120 || eqb b 45

unfoldable pub after_box : List ℕ → Option (List ℕ)
unfolding is_byte is_box_byte
after_box x = after_all (after_byte (is_byte 91) ∷ after_byte is_box_byte ∷ after_byte (is_byte 93) ∷ ended ∷ []) x

-- past a part, where it stands, and the blank bytes after it
unfoldable pub past : Part → List ℕ → List ℕ
past f x = after_run is_blank (get_or (f x) x)

-- where no bullet stands nothing is left
unfoldable pub item_text : Line → List ℕ
unfolding past
item_text l = elim (after_bullet l) [ none ↦ [] | some x ↦ past after_box (past after_set (after_run is_blank x)) ]

-- how many bytes stand before it
unfoldable pub item_start : Line → ℕ
item_start l = length l - length (item_text l)

-- opens the definitions of this file and of those it stands on, for computed examples
unfoldable pub OpenItems : Type 1
unfolding OpenLines width_of width after_byte after_counter is_ended ended and_then after_all is_sign after_sign is_mark after_number or_then after_bullet is_some is_item
    list_detail is_byte after_set is_box_byte after_box past item_text item_start
OpenItems = Type 0
