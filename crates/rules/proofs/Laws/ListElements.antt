-- Laws of the list and the item at an item line, as the code tells them.
-- Assumes nothing.
use mathlib.Core.Path.{◌≡◌, refl}
use mathlib.Core.Bool.{false, true≢false}
use mathlib.Core.List.{List}
use Prim.Native.Nat.{ℕ, ◌+◌}
use native.Mathlib.Omega.{arith}
use lib.ListN.{length}
use Rattle.text.specs.Lines.{Line}
use Rattle.text.specs.Parts.{lines_in, line_in}
use Rattle.text.specs.declared.line.LineSpan.{LineSpan}
use Rattle.rules.specs.Kind
use Rattle.rules.specs.Kind.{inner_of}
use Rattle.rules.specs.Items.{width, is_some, after_bullet, is_item, list_detail, item_text, item_start}
use Rattle.rules.specs.Lists.{item, list_of}
use Rattle.rules.specs.Spans.{inner_from, inner_to}
use Rattle.rules.specs.Findings.{LineOf, inner_lines, spanned}
use Rattle.rules.specs.Scans.{item_run, list_run}
use Rattle.rules.specs.declared.lines.LineRun.{LineRun}
use Rattle.rules.specs.declared.rule.Element.{Element}
use Rattle.rules.proofs.Basics.{options}
use Rattle.rules.proofs.Laws.ScanRuns.{list-own, item-own}

-- an element of kind k with n own lines up to byte e, whose inner span is from byte a to its end
abbrev pub element : ℕ → ℕ → ℕ → ℕ → ℕ → Element
element k n e a d = record { kind = k; end = e; own = n; from = a; to = e; detail = d; lines = 0 }

-- nothing is left on a line without a bullet
pub item_start-nothing : (p : ℕ) (l : Line) → is_item l ≡ false → p + item_start l ≡ p + length l
unfolding is_item is_some item_start item_text
item_start-nothing p l h = options (after_bullet l)
    (λ e. rw (e, item_text) (omega arith))
    (λ x e. absurd (true≢false (rw e at h)))

-- an element of own lines only, but for where its inner span starts
element-path : (k d : ℕ) {n n' e e' a a' : ℕ} → n ≡ n' → e ≡ e' → a ≡ a' → element k n e a d ≡ element k n' e' a' d
element-path k d h i j = rw (h, i, j)

pub list-spanned : (s : List ℕ) (p e d : ℕ) (x : LineRun) → d ≡ list_detail (line_in s p e) → x ≡ list_run s p e
    → let ls = lines_in s p e in element Kind.list x.lines x.end p d ≡ spanned p ls (list_of ls)
unfolding spanned inner_of inner_from inner_to inner_lines list_of line_in
list-spanned s p e d x h i = let (lines, end) = list-own s p e x i in rw h (element-path Kind.list _ lines end refl)

pub item-spanned : (s : List ℕ) (l : LineSpan) (e : ℕ) → LineOf s l e → (w : ℕ) → w ≡ width (line_in s l.start e)
    → (x : LineRun) → x ≡ item_run s l.end e w → (a : ℕ) → a ≡ l.start + item_start (line_in s l.start e)
    → let ls = lines_in s l.start e in element Kind.item (x.lines + 1) x.end a 0 ≡ spanned l.start ls (item ls)
unfolding spanned inner_of inner_from inner_to inner_lines item line_in
item-spanned s l e h w i x j a k = let (lines, end) = item-own s l e w x h i j in element-path Kind.item 0 lines end k
