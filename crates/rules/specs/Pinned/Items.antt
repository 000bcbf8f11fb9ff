-- Item lines: the width of their indentation, their bullets, and where what is left on them starts  [02 order 4].
use Rattle.std.specs.Prelude.{List, [], ◌∷◌, ℕ}
use Prim.Native.String.{String}
use Rattle.text.specs.Runs.{word}
use Rattle.text.specs.Lines.{Line}
use Rattle.text.specs.Cases.{Case, case, ◌holds◌fails◌, OpenCases}
use Rattle.rules.specs.Items.{width, is_item, list_detail, item_start, OpenItems}

unfoldable pub line_case : (Line → ℕ) → String → ℕ → Case
line_case f w n = case w (f (word w) ∷ []) (n ∷ [])

-- indentation counts 1 for a space, 8 for a tab, and ends at byte 13
unfoldable pub width_cases : List Case
width_cases =
    line_case width "" 0
    ∷ line_case width "a b" 0
    ∷ line_case width " a" 1
    ∷ line_case width "\ta" 8
    ∷ line_case width "  a\t" 2
    ∷ line_case width " \t a" 10
    ∷ line_case width "\t \ta" 17
    ∷ line_case width " \r a" 1
    ∷ line_case width "  \n" 2
    ∷ []

-- bullets
unfoldable pub sign_cases : List Case
sign_cases =
    is_item holds ("-" ∷ "- a" ∷ "-\ta" ∷ "-\n" ∷ "-\r\n" ∷ "+" ∷ "+ a" ∷ " - a" ∷ "\t+ a" ∷ " * a" ∷ "\t*\n" ∷ " *" ∷ "- - a" ∷ [])
    fails ("" ∷ " \n" ∷ "a" ∷ "-a" ∷ "+a" ∷ " *a" ∷ "--" ∷ "-----" ∷ "+-" ∷ "*" ∷ "* a" ∷ "** a" ∷ "\r* a" ∷ "\r- a" ∷ ", a" ∷ "/ a" ∷ "x - a" ∷ [])

unfoldable pub number_cases : List Case
number_cases =
    is_item holds
    ("1." ∷ "1. a" ∷ "1.\n" ∷ "1)\r\n" ∷ "0) a" ∷ "12)\ta" ∷ "0123456789. a" ∷ " 1. a" ∷ "a. b" ∷ "z) b" ∷ "A)" ∷ "Z) b" ∷ "\ta.\n" ∷ [])
    fails
    ("1"
    ∷ "1 a"
    ∷ "1.a"
    ∷ "1.1. a"
    ∷ "1: a"
    ∷ "1] a"
    ∷ "1-"
    ∷ "1 . a"
    ∷ "1a. b"
    ∷ "a1. b"
    ∷ "ab. c"
    ∷ "a: b"
    ∷ "a b"
    ∷ "a"
    ∷ "."
    ∷ ". a"
    ∷ ") a"
    ∷ "(1) a"
    ∷ "/. a"
    ∷ ":. a"
    ∷ "@. a"
    ∷ "[. a"
    ∷ "`. a"
    ∷ "{. a"
    ∷ "\r1. a"
    ∷ [])

-- a list's detail by its first line
unfoldable pub detail_cases : List Case
detail_cases =
    line_case list_detail "1. a" 1
    ∷ line_case list_detail " 12)\n" 1
    ∷ line_case list_detail "a) b" 1
    ∷ line_case list_detail "- a" 2
    ∷ line_case list_detail "+" 2
    ∷ line_case list_detail "\t* a" 2
    ∷ line_case list_detail "\r1. a" 2
    ∷ []

-- what is left after a bullet; all of the line is before it where no bullet stands
unfoldable pub start_cases : List Case
start_cases =
    line_case item_start "- a" 2
    ∷ line_case item_start " +  a\n" 4
    ∷ line_case item_start "\t*\t\r a" 5
    ∷ line_case item_start "12) a" 4
    ∷ line_case item_start "a. b" 3
    ∷ line_case item_start "- - a" 2
    ∷ line_case item_start "-" 1
    ∷ line_case item_start "-\n" 1
    ∷ line_case item_start "- \t" 3
    ∷ line_case item_start "- \r\n" 3
    ∷ line_case item_start "" 0
    ∷ line_case item_start "-a\n" 3
    ∷ []

-- after a counter set
unfoldable pub set_cases : List Case
set_cases =
    line_case item_start "- [@5] a" 7
    ∷ line_case item_start "-  [@5]\t\r a" 10
    ∷ line_case item_start "-\r[@5] a" 7
    ∷ line_case item_start "1. [@12] a" 9
    ∷ line_case item_start "- [@a] b" 7
    ∷ line_case item_start "- [@Z]\n" 6
    ∷ line_case item_start "- [@5]" 6
    ∷ line_case item_start "- [@5] " 7
    ∷ line_case item_start "- [@5]a" 2
    ∷ line_case item_start "- [@]" 2
    ∷ line_case item_start "- [@ab] c" 2
    ∷ line_case item_start "- [@1a] b" 2
    ∷ line_case item_start "- [@-] a" 2
    ∷ line_case item_start "- [@ 5] a" 2
    ∷ line_case item_start "- [5] a" 2
    ∷ line_case item_start "- @5] a" 2
    ∷ line_case item_start "- [@5 a" 2
    ∷ line_case item_start "- [@5) a" 2
    ∷ line_case item_start "-[@5] a" 7
    ∷ []

-- after a check box
unfoldable pub box_cases : List Case
box_cases =
    line_case item_start "- [ ] a" 6
    ∷ line_case item_start "- [X] a" 6
    ∷ line_case item_start "- [x]\ta" 6
    ∷ line_case item_start "- [-] a" 6
    ∷ line_case item_start "- [\t] a" 6
    ∷ line_case item_start "- [\r] a" 6
    ∷ line_case item_start "- [X]" 5
    ∷ line_case item_start "- [X]\n" 5
    ∷ line_case item_start "- [X] \r\n" 7
    ∷ line_case item_start "- [X]a" 2
    ∷ line_case item_start "- [y] a" 2
    ∷ line_case item_start "- [+] a" 2
    ∷ line_case item_start "- [] a" 2
    ∷ line_case item_start "- [XX] a" 2
    ∷ line_case item_start "- [X a" 2
    ∷ line_case item_start "- [X) a" 2
    ∷ line_case item_start "- (X] a" 2
    ∷ line_case item_start "- [\n" 2
    ∷ []

-- a counter set stands before a check box, and each at most once
unfoldable pub both_cases : List Case
both_cases =
    line_case item_start "- [@5] [X] a" 11
    ∷ line_case item_start "1. [@5] [ ]\n" 11
    ∷ line_case item_start "- [@5][X] a" 2
    ∷ line_case item_start "- [@5] [X]a" 7
    ∷ line_case item_start "- [X] [@5] a" 6
    ∷ line_case item_start "- [X] [X] a" 6
    ∷ line_case item_start "- [@5] [@6] a" 7
    ∷ []

-- opens these cases and what they are cases of
unfoldable pub OpenItemCases : Type 1
unfolding OpenCases OpenItems line_case width_cases sign_cases number_cases detail_cases start_cases set_cases box_cases both_cases
OpenItemCases = Type 0
