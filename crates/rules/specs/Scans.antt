-- What the scans for an item's and a list's lines find, told by bytes  [02 order 4].
use Rattle.std.specs.Prelude.{◌≡◌, true, false, ◌&&◌, Option, None, Some, List, ℕ, ◌+◌, ◌≤◌, ◌<◌, ltb, leb, length, take}
use Rattle.text.specs.Limits.{text_limit}
use Rattle.text.specs.Lines.{Line, size, blank_line, indent, blanks}
use Rattle.text.specs.Parts.{lines_in, line_in, first_line}
use Rattle.text.specs.declared.line.LineSpan.{LineSpan}
use Rattle.rules.specs.Items.{width}
use Rattle.rules.specs.Lists.{together, item_lines, list_of}
use Rattle.rules.specs.Known.{Knows}
use Rattle.rules.specs.Findings.{InScope}
use Rattle.rules.specs.declared.ahead.Further.{Further}
use Rattle.rules.specs.declared.lines.LineRun.{LineRun}
use Rattle.rules.specs.declared.scope.Scope.{Scope}
use Rattle.rules.specs.declared.list.Next.{Next}
use Rattle.rules.specs.declared.list.Stretch.{Stretch}
use Rattle.rules.specs.declared.list.Stretch.TheVariants.{Whole, Begun}

-- of the lines from byte p up to byte e so many as f says, counted on from n
unfoldable pub run_by : (List Line → ℕ) → List ℕ → ℕ → ℕ → ℕ → LineRun
run_by f s p e n = let ls = lines_in s p e in record { end = p + size (take (f ls) ls); lines = n + f ls }

-- the lines that stand or fall with the line at byte p
unfoldable pub together_run : List ℕ → ℕ → ℕ → LineRun
together_run s p e = run_by together s p e 0

-- the further lines of an item of indentation w, from byte p on
unfoldable pub item_run : List ℕ → ℕ → ℕ → ℕ → LineRun
item_run s p e w = run_by (item_lines w 0) s p e 0

-- the own lines of the list whose first line is at byte p
unfoldable pub list_run : List ℕ → ℕ → ℕ → LineRun
list_run s p e = run_by (λ ls. (list_of ls).own) s p e 0

-- the first line from byte p on that is not blank, where no two blank lines stand before it
unfoldable pub next_of : List ℕ → ℕ → ℕ → Option Next
next_of s p e =
    let q = first_line s p e in
    let l = line_in s q e in
    let n = blanks (lines_in s p e) in
    elim (ltb q e && leb n 1) [ true ↦ Some (record { start = q; body = q + indent l; width = width l; blanks = n }) | false ↦ None ]

-- ---- for contracts

-- the run x of lines as code answers it, with what is known of the lines after it up to byte e
pub record Tells (s : List ℕ) (e : ℕ) (x : LineRun) (r : Further) : Type 0 where
  pub run : r.run ≡ x
  pub known : Knows s r.run.end e r.ends r.names

-- the first lines of an item of indentation w from byte p on: it goes on after them
pub record Begins (s : List ℕ) (p e w : ℕ) (r : LineRun) : Type 0 where
  pub end : r.end ≡ p + size (take r.lines (lines_in s p e))
  pub item : run_by (item_lines w 0) s r.end e r.lines ≡ item_run s p e w

-- lines of the item as code answers them: all that it has, or the first of them
abbrev pub Stretches : List ℕ → ℕ → ℕ → ℕ → Stretch → Type 0
Stretches s p e w (Whole r) = r ≡ item_run s p e w
Stretches s p e w (Begun r) = Begins s p e w r

-- the lines from byte p on in a scope; the sum of a line's indentation fits in a text of no more than its limit
pub record LinesFrom (s : List ℕ) (p : ℕ) (c : Scope) : Type 0 where
  pub order : p ≤ c.end
  pub text : c.end ≤ length s
  pub limit : c.end ≤ text_limit
  pub known : Knows s p c.end c.ends c.names

-- a line that is not blank, from byte p on in a scope, and its body from byte b on
pub record StartsIn (s : List ℕ) (p b : ℕ) (c : Scope) : Type 0 where
  pub some : p < c.end
  pub text : c.end ≤ length s
  pub body : b ≡ p + indent (line_in s p c.end)
  pub nonblank : blank_line (line_in s p c.end) ≡ false
  pub known : Knows s p c.end c.ends c.names

-- the first line of a list of indentation w, in a scope
pub record ListIn (s : List ℕ) (l : LineSpan) (w : ℕ) (c : Scope) : Type 0 where
  pub first : InScope s l c
  pub limit : c.end ≤ text_limit
  pub wide : w ≡ width (line_in s l.start c.end)
