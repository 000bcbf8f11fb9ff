-- Laws of the lines that stand or fall with the first: how many they are, and where they end in a text.
-- Assumes nothing.
use mathlib.Core.Path.{◌≡◌, refl, ap, ◌∙◌}
use mathlib.Core.List.{List, [], ◌∷◌}
use mathlib.Core.Option.{Option, none, some, get_or}
use Prim.Native.Nat.{ℕ, suc, ◌+◌, ◌≤◌, ◌<◌}
use native.Mathlib.Omega.{arith}
use lib.ListN.{length}
use Rattle.text.specs.Bytes.{lower, is_letter}
use Rattle.text.specs.Runs.{word}
use Rattle.text.specs.Lines.{Line, tail_lines}
use Rattle.text.specs.Parts.{lines_in, line_in}
use Rattle.text.proofs.Laws.Lines.{size-head_line}
use Rattle.text.specs.declared.line.LineSpan.{LineSpan}
use Rattle.rules.specs.Kind
use Rattle.rules.specs.Elements.{Found, found, LineRule, first_of, rules3to9, rules3to5}
use Rattle.rules.specs.Lists.{together}
use Rattle.rules.specs.Findings.{LineOf, spanned, is_in, wanting}
use Rattle.rules.specs.Scans.{run_by, together_run}
use Rattle.rules.specs.declared.rule.Element.{Element}
use Rattle.rules.proofs.Basics.{all_map, all_take}
use Rattle.rules.proofs.Laws.LineOf.{line_of-end}
use Rattle.rules.proofs.Laws.FirstByte.{first_at, mark-other}
use Rattle.rules.proofs.Laws.FirstOf.{first_of-one, first_of-three}
use Rattle.rules.proofs.Laws.LineRules.{if-first, if-default, lawful-found, lawful3to9}
use Rattle.rules.proofs.Laws.Paragraphs.{line_run, line_run-same}

module _ (ls : List Line) where
  together-by : (o : Option Found) → first_of rules3to5 ls ≡ o → together ls ≡ (get_or o (found Kind.paragraph 1 0)).own
  unfolding together
  together-by o h = ap (λ (u : Option Found). (get_or u (found Kind.paragraph 1 0)).own) h

  pub together-one : first_of rules3to5 ls ≡ none → together ls ≡ 1
  together-one h = together-by none h

  pub together-some : (f : Found) → first_of rules3to5 ls ≡ some f → together ls ≡ f.own
  together-some f h = together-by (some f) h

  -- one line at least, and no more than there are
  pub together-least : 1 ≤ together ls
  unfolding together rules3to5
  together-least =
      if-default (λ f. 1 ≤ f.own) ls (first_of rules3to5 ls) (found Kind.paragraph 1 0)
      (if-first (λ f. 1 ≤ f.own) ls (all_take 3 (all_map (λ r. lawful-found (λ f. 1 ≤ f.own) ls r (λ f h. h.fine.own)) (lawful3to9 ls))))
      (omega arith)

  pub together-most : together ls ≤ suc (length (tail_lines ls))
  unfolding together rules3to5
  together-most =
      let P : Found → Type 0 = λ f. f.own ≤ suc (length (tail_lines ls)) in
      if-default P ls (first_of rules3to5 ls) (found Kind.paragraph 1 0)
      (if-first P ls (all_take 3 (all_map (λ r. lawful-found P ls r (λ f h. h.fine.many)) (lawful3to9 ls))))
      (omega arith)

-- ---- the first byte

-- none of rules 3 to 5 wants a byte but `#`, `:` and `|`
pub three-unwanted : (b : ℕ) → (b ≡ 35 → ⊥) → (b ≡ 58 → ⊥) → (b ≡ 124 → ⊥) → wanting (lower b) rules3to5 ≡ []
unfolding wanting is_in rules3to5 rules3to9 word is_letter
three-unwanted b hash colon bar =
    rw (mark-other b 35 refl hash, mark-other b 58 refl colon, mark-other b 124 refl bar, wanting)

pub three-none : (ls : List Line) (b : ℕ) → first_at ls ≡ b → wanting b rules3to5 ≡ [] → first_of rules3to5 ls ≡ none
unfolding first_of
three-none ls b h i = first_of-three ls b h ∙ rw i

pub three-only : (ls : List Line) (b : ℕ) (r : LineRule) → wanting b rules3to5 ≡ r ∷ [] → first_at ls ≡ b → first_of rules3to5 ls ≡ r.finds ls
three-only ls b r h i = first_of-three ls b i ∙ rw h (first_of-one ls r)

-- ---- in a text

-- an element with those lines
pub together-element : (s : List ℕ) (p e : ℕ) (x : Element) (f : Found) → let ls = lines_in s p e in
    together ls ≡ f.own → x ≡ spanned p ls f → line_run x.end x.own ≡ together_run s p e
unfolding together_run run_by spanned
together-element s p e x f h i =
    rw h (line_run-same (ap (λ (y : Element). y.end) i) (omega (arith, ap (λ (y : Element). y.own) i)))

-- a line by itself
pub together-alone : (s : List ℕ) (p e q : ℕ) → p < e → e ≤ length s → q ≡ p + length (line_in s p e) → first_of rules3to5 (lines_in s p e) ≡ none
    → line_run q 1 ≡ together_run s p e
unfolding together_run run_by line_in
together-alone s p e q h k i n =
    rw (together-one (lines_in s p e) n) (line_run-same (omega (arith, size-head_line (lines_in s p e))) refl)

pub together-line : (s : List ℕ) (l : LineSpan) (e : ℕ) → LineOf s l e → first_of rules3to5 (lines_in s l.start e) ≡ none
    → line_run l.end 1 ≡ together_run s l.start e
together-line s l e h = together-alone s l.start e l.end h.some h.end (line_of-end s l e h)
