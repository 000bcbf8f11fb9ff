-- Laws of `NoLine` and `Knows`: what no line from a line on is, none from a later line on is.
-- Assumes nothing.
use mathlib.Core.Path.{◌≡◌, sym, ap, ◌∙◌}
use mathlib.Core.Bool.{Bool, true, true≢false}
use mathlib.Core.List.{List, [], ◌∷◌}
use mathlib.Core.Option.{Option, none, map-eq-none_iff}
use Prim.Native.Nat.{ℕ, zero, suc, ◌+◌}
use native.Mathlib.Omega.{arith}
use lib.ListN.{length, take, drop}
use borrow.Table.Steps.{cases}
use Rattle.text.specs.Lines.{Line, size, body}
use Rattle.text.specs.Parts.{lines_in, line_in}
use Rattle.text.specs.Runs.{same}
use Rattle.text.specs.declared.line.LineSpan.{LineSpan}
use Rattle.text.proofs.Laws.Lines.{size-head_line}
use Rattle.text.proofs.Laws.LinesIn.{lines_in-drop}
use Rattle.rules.specs.Elements.{Found, lines_before}
use Rattle.rules.specs.Known.{NoLine, any_name, Knows}
use Rattle.rules.specs.Findings.{LineOf, spanned, rule_at}
use Rattle.rules.specs.declared.rule.Element.{Element}
use Rattle.std.specs.declared.option.Option.TheVariants.{Some}
use Rattle.rules.proofs.Laws.LineOf.{line_of-end}
use Rattle.rules.proofs.Laws.FirstOf.{rule_at-holds}
use Rattle.rules.proofs.Laws.Known.{has_name-any}

lines_before-drop : (x : List ℕ) (n : ℕ) (ls : List Line) → lines_before x ls ≡ none → lines_before x (drop n ls) ≡ none
unfolding lines_before
lines_before-drop x zero ls h = h
lines_before-drop x (suc n) [] h = h
lines_before-drop x (suc n) (l ∷ ls) h = cases (same (body l) x)
    (λ i. absurd (let g = rw (i, lines_before) at h in let z : ◌≡◌ {A = ℕ} 0 1 = cc in omega arith))
    (λ i. lines_before-drop x n ls ((map-eq-none_iff suc _).0 (rw (i, lines_before) at h)))

-- after n lines
no_line-more : (x s : List ℕ) (p e n : ℕ) → NoLine x s p e → NoLine x s (p + size (take n (lines_in s p e))) e
no_line-more x s p e n h = rw (lines_in-drop s p e n) (lines_before-drop x n (lines_in s p e) h)

module _ (s : List ℕ) (p e : ℕ) (b : Bool) (m : ℕ) (h : Knows s p e b m) where
  pub knows_more : (n : ℕ) → Knows s (p + size (take n (lines_in s p e))) e b m
  knows_more n = record { ends = λ g. no_line-more _ s p e n (h.ends g); names = λ x g. no_line-more _ s p e n (h.names x g) }

  pub knows_line : Knows s (p + length (line_in s p e)) e b m
  unfolding line_in
  knows_line = rw (size-head_line (lines_in s p e)) (knows_more 1)

  -- after an element's own lines
  pub knows-element : (f : Found) (x : Element) → x ≡ spanned p (lines_in s p e) f → Knows s x.end e b m
  unfolding spanned
  knows-element f x i = rw (ap (λ (y : Element). y.end) i) (knows_more f.own)

  pub knows-rule : (o : Option Found) (x : Element) → Some x ≡ rule_at p (lines_in s p e) o → Knows s x.end e b m
  knows-rule o x i = let (f, j, k) = rule_at-holds p (lines_in s p e) o x i in knows-element f x k

-- after a line of the text
pub knows-next : (s : List ℕ) (l : LineSpan) (e : ℕ) (b : Bool) (m : ℕ) → LineOf s l e → Knows s l.start e b m → Knows s l.end e b m
knows-next s l e b m h n = rw (line_of-end s l e h) (knows_line s l.start e b m n)

-- nothing is known
pub knows-nothing : (s : List ℕ) (p e : ℕ) → Knows s p e true any_name
knows-nothing s p e = record { ends = λ h. absurd (true≢false h); names = λ x h. absurd (true≢false (sym (has_name-any x) ∙ h)) }
