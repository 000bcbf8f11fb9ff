-- Laws of the children of a table, and of its heading records beside the text's heading lines.
-- Assumes nothing.
use mathlib.Core.Path.{◌≡◌, refl, ap, ◌∙◌}
use mathlib.Core.Bool.{true, not}
use mathlib.Core.List.{List, [], ◌∷◌, ◌++◌}
use Prim.Native.Nat.{ℕ, ◌+◌, ◌≤◌, ◌<◌}
use native.Mathlib.Omega.{arith}
use native.Mathlib.Nat.{add-zero, add_assoc}
use lib.Dec.{eqb}
use lib.ListN.{length, take, drop}
use lib.Seq.{take-length}
use borrow.Table.Steps.{cases}
use borrow.Author.Tests.{eq-eqb, ne_eqb}
use Rattle.text.specs.Lines.{Line, size, leading}
use Rattle.text.specs.Parts.{part, lines_in, next_line}
use Rattle.text.proofs.Laws.LinesIn.{lines_in-nil, lines_in-drop, lines_in-step}
use Rattle.rules.specs.Headings.{is_heading}
use Rattle.rules.specs.Kind
use Rattle.rules.proofs.Basics.{All, all_nil, all_cons, all_map}
use Rattle.table.specs.Proper.{keep_if, with_parent, heading_lines_in, heading_lines, heading_starts}
use Rattle.table.specs.Sections.{line_at}
use Rattle.table.specs.declared.record.Record.{Record}

-- ---- children

module _ (i : ℕ) where
  pub with_parent-append : (X Y : List Record) → with_parent i (X ++ Y) ≡ with_parent i X ++ with_parent i Y
  unfolding with_parent keep_if
  with_parent-append [] Y = refl
  with_parent-append (r ∷ X) Y = cases (eqb r.parent i) (λ e. rw (e, with_parent-append X Y)) (λ e. rw (e, with_parent-append X Y))

  module _ (r : Record) (X : List Record) where
    pub with_parent-yes : r.parent ≡ i → with_parent i (r ∷ X) ≡ r ∷ with_parent i X
    unfolding with_parent keep_if
    with_parent-yes h = rw (eq-eqb r.parent i h)

    pub with_parent-no : (r.parent ≡ i → ⊥) → with_parent i (r ∷ X) ≡ with_parent i X
    unfolding with_parent keep_if
    with_parent-no h = rw (ne_eqb r.parent i h)

  pub with_parent-none : {X : List Record} → All (λ r. r.parent ≡ i → ⊥) X → with_parent i X ≡ []
  unfolding with_parent
  with_parent-none all_nil = refl
  with_parent-none (all_cons {a = r} {x = X} p h) = with_parent-no r X p ∙ with_parent-none h

  pub with_parent-from : {X : List Record} {k : ℕ} → i < k → All (λ r. k ≤ r.parent) X → with_parent i X ≡ []
  with_parent-from l x = with_parent-none (all_map (λ r h e. omega arith) x)

-- ---- heading records

pub heading_starts-append : (X Y : List Record) → heading_starts (X ++ Y) ≡ heading_starts X ++ heading_starts Y
unfolding heading_starts
heading_starts-append [] Y = refl
heading_starts-append (r ∷ X) Y = cases (eqb r.kind Kind.heading)
    (λ e. rw (e, heading_starts) (ap (λ (Z : List ℕ). r.start ∷ Z) (heading_starts-append X Y)))
    (λ e. rw (e, heading_starts) (heading_starts-append X Y))

pub heading_starts-none : {X : List Record} → All (λ r. r.kind ≡ Kind.heading → ⊥) X → heading_starts X ≡ []
unfolding heading_starts
heading_starts-none all_nil = refl
heading_starts-none (all_cons {a = r} p h) = rw (ne_eqb r.kind Kind.heading p, heading_starts) (heading_starts-none h)

-- ---- heading lines from byte p on

abbrev pub heading_lines_from : List ℕ → ℕ → List ℕ
heading_lines_from s p = heading_lines_in p (lines_in s p (length s))

heading_lines_in-skip : (p : ℕ) (ls : List Line)
    → let n = leading (λ l. not (is_heading l)) ls in heading_lines_in p ls ≡ heading_lines_in (p + size (take n ls)) (drop n ls)
unfolding heading_lines_in leading size
heading_lines_in-skip p [] = refl
heading_lines_in-skip p (l ∷ ls) = cases (is_heading l)
    (λ e. rw (e, leading) (rw add-zero))
    (λ e. rw (e, leading) (rw (e, heading_lines_in, ← add_assoc) (heading_lines_in-skip (p + length l) ls)))

module _ (s : List ℕ) where
  pub heading_lines_from-zero : heading_lines_from s 0 ≡ heading_lines s
  unfolding heading_lines lines_in part
  heading_lines_from-zero = rw take-length

  pub heading_lines_from-end : heading_lines_from s (length s) ≡ []
  unfolding heading_lines_in
  heading_lines_from-end = rw (lines_in-nil s (length s) (length s) (omega arith))

  pub heading_lines_from-here : (p : ℕ) → p < length s → is_heading (line_at s p) ≡ true
      → heading_lines_from s p ≡ p ∷ heading_lines_from s (p + length (line_at s p))
  unfolding heading_lines_in
  heading_lines_from-here p h e = rw (lines_in-step s p (length s) h (omega arith)) (rw (e, heading_lines_in))

  pub heading_lines_from-next : (p : ℕ) → heading_lines_from s p ≡ heading_lines_from s (next_line is_heading s p)
  unfolding next_line
  heading_lines_from-next p =
      let ls = lines_in s p (length s) in
      rw (lines_in-drop s p (length s) (leading (λ l. not (is_heading l)) ls)) (heading_lines_in-skip p ls)
