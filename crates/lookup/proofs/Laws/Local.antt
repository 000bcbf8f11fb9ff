-- A lookup by lines: the answer at a heading line is told by that line and the lines after it up to the next heading line, and by where they
-- stand. So wherever they stand it is the same, but for the shift in place.
-- Assumes nothing.
use mathlib.Core.Path.{◌≡◌, refl, sym, ap, ◌∙◌}
use mathlib.Core.Bool.{false, not, true≢false}
use mathlib.Core.List.{List, [], ◌∷◌, ◌++◌}
use mathlib.Core.Option.{some}
use Prim.Native.Nat.{ℕ, suc, ◌+◌, ◌-◌, ◌≤◌}
use native.Mathlib.Omega.{arith}
use native.Mathlib.Nat.{add_assoc}
use lib.ListN.{length, take, drop}
use lib.Seq.{take-nil, take-length, drop-append-add}
use borrow.Table.Steps.{cases}
use Rattle.text.specs.Limits.{text_limit}
use Rattle.text.specs.Runs.{same}
use Rattle.text.specs.Lines.{Line, lines, size, body, body_end, first_run, value_start, head_line, tail_lines, leading, blanks}
use Rattle.text.specs.Parts.{part, lines_in, line_in, next_line, line_starts, LineStart}
use Rattle.text.proofs.Laws.Lines.{head_line-take}
use Rattle.text.proofs.Laws.LinesIn.{lines_in-next, lines_in-take, line_in-to, next_line-from, next_line-to}
use Rattle.rules.specs.Kind
use Rattle.rules.specs.Headings.{is_heading}
use Rattle.rules.specs.LineTests.{is_planning, is_properties_line, is_end_line, property_name, is_node_property}
use Rattle.rules.specs.Elements.{found, properties_before}
use Rattle.rules.proofs.Basics.{options}
use Rattle.rules.proofs.Laws.PropertyDrawers.{line_after}
use Rattle.dates.specs.Reads.{pick}
use Rattle.std.specs.declared.result.Result.{Result}
use Rattle.std.specs.declared.result.Result.TheVariants.{Ok, Err}
use Rattle.lookup.specs.declared.span.Span.{Span}
use Rattle.lookup.specs.declared.drawer.NoDrawer.{NoDrawer as Undrawn}
use Rattle.lookup.specs.declared.lookup.Refusal.TheVariants.{TooLong, NoHeading, BlankFirst, NotClosed, NotProperty, NoDrawer, NoKey, BadKey}
use Rattle.lookup.specs.Drawers.{drawer_after, drawer_in, has_end, before_end, has_other, first_other, first_other_in}
use Rattle.lookup.specs.Stages.{is_bad_key, value_in}
use Rattle.lookup.specs.Lookup.{Answer, lookup, with_drawer, with_value, number, part_of}
use Rattle.lookup.specs.Joined.{shift}
use Rattle.lookup.specs.Promises.{Tried}
use Rattle.lookup.proofs.Laws.Drawers.{before-some, before-none, other-blank, opened-drawer, drawer_in-some, drawer_in-opened}
use Rattle.lookup.proofs.Laws.Drawers.{drawer_in-blank_first, drawer_in-other, after-heading, after-planning}
use Rattle.lookup.proofs.Laws.Stages.{heading_at-true, heading_at-false, heading_at-no, heading_at-to, value_in-nil, value_in-here, value_in-skip}
use Rattle.lookup.proofs.Laws.Finding.{heading-end, heading-inside}
use Rattle.lookup.proofs.Laws.Lookup.{lookup-no_heading, lookup-drawer}

-- ---- the answer by lines

-- in a drawer whose opener is the first of some lines, at byte p
unfoldable pub look_opened : List ℕ → ℕ → List Line → Answer
look_opened k p ls =
    let inner = before_end (tail_lines ls) in
    pick (has_end (tail_lines ls))
    (pick (has_other inner) (Err (NotProperty (first_other_in p ls))) (with_value (value_in k (p + length (head_line ls)) inner))) (Err NotClosed)

-- where no opener stands in the place: a later one may, after blank lines
unfoldable pub look_other : List Line → Answer
look_other ls = pick (is_properties_line (head_line (drop (blanks ls) ls))) (Err BlankFirst) (Err NoDrawer)

-- in the place for a drawer, at byte p
unfoldable pub look_in : List ℕ → ℕ → List Line → Answer
look_in k p ls = pick (is_properties_line (head_line ls)) (look_opened k p ls) (look_other ls)

-- after a heading line, which ends at byte p, of the lines up to the next
unfoldable pub look_after : List ℕ → ℕ → List Line → Answer
look_after k p ls = let l = head_line ls in pick (is_planning l) (look_in k (p + length l) (tail_lines ls)) (look_in k p ls)

-- the leading lines before the next heading line
unfoldable pub section_lines : List Line → List Line
section_lines ls = take (leading (λ l. not (is_heading l)) ls) ls

-- at the first of some lines, at byte p
unfoldable pub look : List ℕ → ℕ → List Line → Answer
look k p ls = let l = head_line ls in pick (is_heading l) (look_after k (p + length l) (section_lines (tail_lines ls))) (Err NoHeading)

-- the same, and nothing where no line starts
unfoldable pub look_at : List ℕ → List ℕ → ℕ → Answer
look_at k s p = pick (line_starts s p) (look k p (lines (drop p s))) (Err NoHeading)

-- ---- it is the lookup's

-- what is done with a drawer's lines
abbrev value_at : List ℕ → List ℕ → Result Span Undrawn → Answer
value_at k s d = with_drawer d (λ l. with_value (value_in k l.start (lines_in s l.start l.end)))

-- rule 2's lines are those before the closer
before-take : (ls : List Line) (n : ℕ) → properties_before ls ≡ some n → take n ls ≡ before_end ls
unfolding properties_before before_end
before-take [] n h = cc
before-take (l ∷ ls) n h = cases (is_end_line l)
    (λ e. let g = rw (e, properties_before) at h in let z : n ≡ 0 = cc in rw (e, before_end, z))
    (λ e. cases (is_node_property l)
    (λ i. options (properties_before ls)
    (λ j. let g = rw (e, i, j, properties_before) at h in cc)
    (λ m j. let g = rw (e, i, j, properties_before) at h in let z : n ≡ suc m = cc in rw (e, before_end, z) (ap (λ (x : List Line). l ∷ x) (before-take ls m j))))
    (λ i. let g = rw (e, i, properties_before) at h in cc))

tail-take : (n : ℕ) (ls : List Line) → tail_lines (take (suc n) ls) ≡ take n (tail_lines ls)
unfolding tail_lines
tail-take n [] = sym (take-nil n)
tail-take n (l ∷ ls) = refl

module _ (k s : List ℕ) (p e : ℕ) (h : p ≤ e) (i : e ≤ length s) where
  abbrev ls : List Line
  ls = lines_in s p e

  -- from the opener's end to the closer
  between-lines : (n : ℕ) → lines_in s (p + length (head_line ls)) (p + size (take (suc n) ls)) ≡ tail_lines (take (suc n) ls)
  unfolding line_in
  between-lines n =
      let z = p + size (take (suc n) ls) in
      let t = lines_in-take s p e (suc n) h i in
      let m : length (head_line (lines_in s p z)) ≡ length (head_line ls) = ap length (ap head_line t ∙ head_line-take (suc n) ls (omega arith)) in
      ap (λ (j : ℕ). lines_in s (p + j) z) (sym m) ∙ lines_in-next s p z ∙ ap tail_lines t

  drawer-look : value_at k s (drawer_in p ls) ≡ look_in k p ls
  unfolding look_in look_opened look_other
  drawer-look = cases (is_properties_line (head_line ls))
      (λ o. options (properties_before (tail_lines ls))
      (λ j. cases (has_end (tail_lines ls))
      (λ g. rw (drawer_in-opened p ls o j, o, g, before-none (tail_lines ls) j g))
      (λ g. rw (drawer_in-opened p ls o j, o, g)))
      (λ n j. let b = before-some (tail_lines ls) n j in
      let m : n + 2 - 1 ≡ suc n = omega arith in
      rw (drawer_in-some p ls (found Kind.property_drawer (n + 2) 0) (opened-drawer ls o n j), o, b.0, b.1, m, between-lines n)
      (rw (tail-take n ls, before-take (tail_lines ls) n j))))
      (λ o. cases (is_properties_line (head_line (drop (blanks ls) ls)))
      (λ j. rw (drawer_in-blank_first p ls (other-blank ls o ∙ j), o, j))
      (λ j. rw (drawer_in-other p ls o (other-blank ls o ∙ j), o, j)))

module _ (k s : List ℕ) (p : ℕ) (h : p ≤ length s) where
  section-lines : lines_in s p (next_line is_heading s p) ≡ section_lines (lines_in s p (length s))
  unfolding next_line section_lines
  section-lines = lines_in-take s p (length s) (leading (λ l. not (is_heading l)) (lines_in s p (length s))) h (omega arith)

  section-look : value_at k s (drawer_after s p) ≡ look_after k p (section_lines (lines_in s p (length s)))
  unfolding look_after line_in
  section-look =
      let e = next_line is_heading s p in
      let from = next_line-from s is_heading p in
      let to = next_line-to s is_heading p h in
      rw (← section-lines)
      (cases (is_planning (line_after s p))
      (λ j. rw (after-planning s p j, j, drawer-look k s (p + length (line_after s p)) e (line_in-to s p e from to) to, lines_in-next s p e))
      (λ j. rw (after-heading s p j, j, drawer-look k s p e from to)))

pub whole-lines : (s : List ℕ) (p : ℕ) → lines_in s p (length s) ≡ lines (drop p s)
unfolding lines_in part
whole-lines s p = rw (take-length s)

-- the text is not too long, and the key is good
module _ (s : List ℕ) (p : ℕ) (k : List ℕ) (long : length s ≤ text_limit) (good : is_bad_key k ≡ false) where
  abbrev tried : Tried s k
  tried = record { text = long; key = good }

  abbrev line : Line
  line = line_in s p (length s)

  -- nothing is found where no heading line starts, nor inside a line, nor past the text
  pub lookup-nothing : (LineStart s p → is_heading line ≡ false) → lookup s p k ≡ Err NoHeading
  lookup-nothing h = lookup-no_heading s p k tried (heading_at-no s p (λ l. true≢false (sym l.heading ∙ h l.start)))

  pub lookup-inside-line : line_starts s p ≡ false → lookup s p k ≡ Err NoHeading
  lookup-inside-line h = lookup-no_heading s p k tried (sym (heading-inside s p h))

  pub lookup-past : length s ≤ p → lookup s p k ≡ Err NoHeading
  lookup-past h = lookup-no_heading s p k tried (sym (heading-end s p h))

  pub lookup-look_at : lookup s p k ≡ look_at k s p
  unfolding look_at look line_in
  lookup-look_at = cases (line_starts s p)
      (λ h. rw (h, ← whole-lines s p) (cases (is_heading line)
      (λ i. let b = heading_at-true s p (rw (h, i)) in
      let a = p + length line in
      rw i (lookup-drawer s p k tried a b (drawer_after s a) refl ∙ section-look k s a (heading_at-to s p a b) ∙ rw (lines_in-next s p (length s))))
      (λ i. rw i (lookup-no_heading s p k tried (heading_at-false s p (rw (h, i)))))))
      (λ h. rw h (lookup-inside-line h))

-- ---- moved by n bytes

module _ (k : List ℕ) (n : ℕ) where
  value-shift : (p : ℕ) (ls : List Line) → with_value (value_in k (n + p) ls) ≡ shift n (with_value (value_in k p ls))
  unfolding shift
  value-shift p [] = rw (value_in-nil k (n + p), value_in-nil k p)
  value-shift p (l ∷ ls) = cases (same (property_name l) k)
      (λ h. rw (value_in-here k (n + p) l ls h, value_in-here k p l ls h, add_assoc n p (value_start (length (first_run (body l))) l), add_assoc n p (body_end l)))
      (λ h. rw (value_in-skip k (n + p) l ls h, value_in-skip k p l ls h, add_assoc n p (length l)) (value-shift (p + length l) ls))

  opened-shift : (p : ℕ) (ls : List Line) → look_opened k (n + p) ls ≡ shift n (look_opened k p ls)
  unfolding look_opened shift first_other_in first_other
  opened-shift p ls =
      let inner = before_end (tail_lines ls) in
      cases (has_end (tail_lines ls))
      (λ h. cases (has_other inner)
      (λ i. rw (h, i) (ap (λ (q : ℕ). Err (NotProperty q)) (omega arith)))
      (λ i. rw (h, i, add_assoc n p (length (head_line ls))) (value-shift (p + length (head_line ls)) inner)))
      (λ h. rw h)

  in_shift : (p : ℕ) (ls : List Line) → look_in k (n + p) ls ≡ shift n (look_in k p ls)
  unfolding look_in look_other shift
  in_shift p ls = cases (is_properties_line (head_line ls))
      (λ h. rw h (opened-shift p ls))
      (λ h. rw h (cases (is_properties_line (head_line (drop (blanks ls) ls))) (λ i. rw i) (λ i. rw i)))

  after-shift : (p : ℕ) (ls : List Line) → look_after k (n + p) ls ≡ shift n (look_after k p ls)
  unfolding look_after
  after-shift p ls = cases (is_planning (head_line ls))
      (λ h. rw (h, add_assoc n p (length (head_line ls))) (in_shift (p + length (head_line ls)) (tail_lines ls)))
      (λ h. rw h (in_shift p ls))

  pub look-shift : (p : ℕ) (ls : List Line) → look k (n + p) ls ≡ shift n (look k p ls)
  unfolding look shift
  look-shift p ls = cases (is_heading (head_line ls))
      (λ h. rw (h, add_assoc n p (length (head_line ls))) (after-shift (p + length (head_line ls)) (section_lines (tail_lines ls))))
      (λ h. rw h)

-- the number, and the part that it gives
pub number-shift : (n : ℕ) (r : Answer) → number (shift n r) ≡ number r
unfolding shift
number-shift n (Ok v) = refl
number-shift n (Err TooLong) = refl
number-shift n (Err NoHeading) = refl
number-shift n (Err BlankFirst) = refl
number-shift n (Err NotClosed) = refl
number-shift n (Err (NotProperty q)) = refl
number-shift n (Err NoDrawer) = refl
number-shift n (Err NoKey) = refl
number-shift n (Err BadKey) = refl

pub part_of-shift : (s t : List ℕ) (r : Answer) → part_of (shift (length s) r) (s ++ t) ≡ part_of r t
unfolding shift
part_of-shift s t (Ok v) = let m : length s + v.end - (length s + v.start) ≡ v.end - v.start = omega arith in rw (m, drop-append-add s t v.start)
part_of-shift s t (Err TooLong) = refl
part_of-shift s t (Err NoHeading) = refl
part_of-shift s t (Err BlankFirst) = refl
part_of-shift s t (Err NotClosed) = refl
part_of-shift s t (Err (NotProperty q)) = refl
part_of-shift s t (Err NoDrawer) = refl
part_of-shift s t (Err NoKey) = refl
part_of-shift s t (Err BadKey) = refl
