-- A heading's property drawer, told by what the code finds in the text.
-- Assumes nothing.
use mathlib.Core.Path.{◌≡◌, refl, sym, ap, ◌∙◌}
use mathlib.Core.Bool.{true, false}
use mathlib.Core.List.{List, [], ◌∷◌}
use mathlib.Core.Option.{none, some}
use Prim.Native.Nat.{ℕ, suc, ◌+◌, ◌≤◌, ◌<◌}
use native.Mathlib.Omega.{arith}
use lib.ListN.{length, take, drop}
use borrow.Table.Steps.{cases}
use Rattle.text.specs.Runs.{word, after_run, trim_end, same}
use Rattle.text.specs.Lines.{Line, size, body, head_line, blanks}
use Rattle.text.specs.Parts.{part, lines_in, line_in, first_line, next_line}
use Rattle.text.specs.Spans.{line_span}
use Rattle.text.specs.declared.line.LineSpan.{LineSpan}
use Rattle.text.proofs.Laws.LinesIn.{line_in-nil, lines_in-nil, lines_in-drop, lines_in-take, within-lines_in}
use Rattle.text.proofs.Laws.LinesIn.{past, past-here, past_skip, next_line-from, next_line-to}
use Rattle.rules.specs.Kind
use Rattle.rules.specs.Headings.{is_heading, is_heading_up_to}
use Rattle.rules.specs.LineTests.{is_planning, is_properties_line, is_end_line, is_node_property}
use Rattle.rules.specs.Places.{allows_properties}
use Rattle.rules.specs.Elements.{found, lines_before, properties_before, property_drawer}
use Rattle.rules.specs.Kind.{inner_of}
use Rattle.rules.specs.Spans.{inner_from, inner_to}
use Rattle.rules.specs.Findings.{LineOf, closer_at, spanned, rule_at}
use Rattle.rules.specs.declared.place.Place.TheVariants.{AfterHeading}
use Rattle.rules.specs.declared.closer.Closer.{Closer}
use Rattle.std.specs.Option.{unwrap_or}
use Rattle.std.specs.declared.option.Option.{Option as Maybe}
use Rattle.std.specs.declared.option.Option.TheVariants.{None, Some}
use Rattle.rules.specs.declared.rule.Element.{Element}
use Rattle.rules.proofs.Basics.{options}
use Rattle.rules.proofs.Laws.Closers.{closer_in}
use Rattle.rules.proofs.Laws.Headings.{next_line-up_to}
use Rattle.rules.proofs.Laws.LineOf.{line_of, line_of-end, line_of-tail}
use Rattle.rules.proofs.Laws.LineTests.{is_properties_line-part}
use Rattle.rules.proofs.Laws.Findings.{closing, between}
use Rattle.rules.proofs.Laws.Properties.{properties_end, property_drawer-closer}
use Rattle.rules.proofs.Laws.PropertyDrawers.{line_after}
use Rattle.dates.specs.Reads.{pick}
use Rattle.std.specs.declared.result.Result.{Result}
use Rattle.std.specs.declared.result.Result.TheVariants.{Ok, Err}
use Rattle.lookup.specs.declared.span.Span.{Span}
use Rattle.lookup.specs.declared.drawer.NoDrawer.{NoDrawer}
use Rattle.lookup.specs.declared.drawer.NoDrawer.TheVariants.{BlankFirst, NotClosed, NotProperty, Missing}
use Rattle.lookup.specs.Spans.{span}
use Rattle.lookup.specs.Drawers.{is_blank_first, has_end, before_end, first_other, first_other_in, why_none, drawer_in, drawer_after}
use Rattle.lookup.proofs.Laws.Drawers.{other-blank, property_drawer-cases, drawer_in-some, drawer_in-none, drawer_in-opened, drawer_in-blank_first}
use Rattle.lookup.proofs.Laws.Drawers.{drawer_in-other, drawer_in-nil, after-heading, after-planning}

-- ---- the closer that is sought after an opener

lines_before-none : (ls : List Line) → lines_before (word ":end:") ls ≡ none → has_end ls ≡ false
unfolding lines_before has_end is_end_line
lines_before-none [] h = refl
lines_before-none (l ∷ ls) h = cases (same (body l) (word ":end:"))
    (λ e. let g = rw (e, lines_before) at h in cc)
    (λ e. options (lines_before (word ":end:") ls)
    (λ i. rw e (lines_before-none ls i)) (λ n i. let g = rw (e, i, lines_before) at h in cc))

lines_before-some : (ls : List Line) (n : ℕ) → lines_before (word ":end:") ls ≡ some n → (has_end ls ≡ true) × (before_end ls ≡ take n ls)
unfolding lines_before has_end before_end is_end_line
lines_before-some [] n h = (cc, cc)
lines_before-some (l ∷ ls) n h = cases (same (body l) (word ":end:"))
    (λ e. let g = rw (e, lines_before) at h in let z : n ≡ 0 = cc in (rw e, rw (e, before_end, z)))
    (λ e. options (lines_before (word ":end:") ls)
    (λ i. let g = rw (e, i, lines_before) at h in (cc, cc))
    (λ m i. let g = rw (e, i, lines_before) at h in let z : n ≡ suc m = cc in
    let r = lines_before-some ls m i in (rw e r.0, rw (e, before_end, z, r.1))))

module _ (s : List ℕ) (p e : ℕ) where
  abbrev after : List Line
  after = lines_in s p e

  -- why those lines are no property drawer's
  abbrev why : NoDrawer
  why = pick (has_end after) (NotProperty (first_other p (before_end after))) NotClosed

  pub why-open : None ≡ closer_in (word ":end:") s p e → NotClosed ≡ why
  unfolding closer_at
  why-open h = options (lines_before (word ":end:") after)
      (λ i. rw (lines_before-none after i))
      (λ n i. let g = rw i at h in cc)

  module _ (h : p ≤ e) (k : e ≤ length s) (a z n : ℕ) (c : Some (closing a z n) ≡ closer_in (word ":end:") s p e) where
    pub closer-lines : (has_end after ≡ true) × (lines_in s p a ≡ before_end after) × (p ≤ a) × (a ≤ e)
    unfolding closer_at
    closer-lines = options (lines_before (word ":end:") after)
        (λ i. let g = rw i at c in let z : ◌≡◌ {A = ℕ} 0 1 = cc in absurd (omega arith))
        (λ m i. let g = rw i at c in
        let from : a ≡ p + size (take m after) = ap (λ (x : Maybe Closer). (unwrap_or x (closing 0 0 0)).start) g in
        let r = lines_before-some after m i in
        (r.0, rw from (lines_in-take s p e m h k ∙ sym r.1), omega arith, omega (arith, within-lines_in s p e h k m)))

    pub why-other : (x : ℕ) → x ≡ first_other p (lines_in s p a) → NotProperty x ≡ why
    why-other x i = rw (closer-lines.0, i, closer-lines.1)

-- ---- the first line that is no node property

-- the line l that `line_at` answers at byte p
module _ (s : List ℕ) (l : LineSpan) (p e : ℕ) (g : l ≡ line_span s p e) where
  pub other-here : is_node_property (line_in s l.start e) ≡ false → p ≡ past is_node_property s p e
  unfolding line_span
  other-here = rw g (λ i. sym (past-here is_node_property s p e i))

  pub other-next : is_node_property (line_in s l.start e) ≡ true → past is_node_property s l.end e ≡ past is_node_property s p e
  unfolding line_span
  other-next = rw g (λ i. sym (past_skip is_node_property s p e i))

-- ---- the next non-blank line

-- it starts at byte q
module _ (s : List ℕ) (p e q : ℕ) (i : q ≡ first_line s p e) where
  pub after_none : e ≤ q → false ≡ is_properties_line (line_in s (first_line s p e) e)
  unfolding is_properties_line same body word after_run trim_end
  after_none h = rw (← i, line_in-nil s q e h)

  -- the line l that `line_at` answers there
  pub after-opener : (l : LineSpan) → l ≡ line_span s q e → q < e → e ≤ length s
      → same (part s l.from l.to) (word ":properties:") ≡ is_properties_line (line_in s (first_line s p e) e)
  unfolding line_span
  after-opener l g h k =
      sym (is_properties_line-part s l e (line_of s l q e h k g)) ∙ ap (λ (x : ℕ). is_properties_line (line_in s x e)) (ap (λ (x : LineSpan). x.start) g ∙ i)

-- ---- the property drawer in its place

-- the lines of what a rule finds, or why it fails
abbrev pub lines_of : Maybe Element → NoDrawer → Result Span NoDrawer
lines_of (Some x) w = Ok (span x.from x.to)
lines_of None w = Err w

module _ (s : List ℕ) (p e : ℕ) where
  abbrev ls : List Line
  ls = lines_in s p e

  drawer_in-rule : lines_of (rule_at p ls (property_drawer AfterHeading ls)) (why_none p ls) ≡ drawer_in p ls
  unfolding rule_at spanned inner_of inner_from inner_to
  drawer_in-rule =
      property_drawer-cases ls
      (λ h. rw h (sym (drawer_in-none p ls h)))
      (λ n h. rw h (sym (drawer_in-some p ls (found Kind.property_drawer (n + 2) 0) h)))

  pub drawer-end : e ≤ p → Err Missing ≡ drawer_in p ls
  drawer-end h = rw (lines_in-nil s p e h) (sym (drawer_in-nil p))

  first-nonblank : head_line (drop (blanks ls) ls) ≡ line_in s (first_line s p e) e
  unfolding first_line line_in
  first-nonblank = ap head_line (sym (lines_in-drop s p e (blanks ls)))

  -- the line l that `line_at` answers there
  module _ (l : LineSpan) (g : l ≡ line_span s p e) (h : p < e) (i : e ≤ length s) where
    abbrev opener : LineOf s l e
    opener = line_of s l p e h i g

    abbrev text : List ℕ
    text = part s l.from l.to

    from_start : l.start ≡ p
    unfolding line_span
    from_start = ap (λ (x : LineSpan). x.start) g

    opens : is_properties_line (head_line ls) ≡ same text (word ":properties:")
    unfolding line_in
    opens = rw from_start at (is_properties_line-part s l e opener)

    module _ (j : same text (word ":properties:") ≡ false) where
      blank-first : is_blank_first ls ≡ is_properties_line (line_in s (first_line s p e) e)
      blank-first = other-blank ls (opens ∙ j) ∙ ap is_properties_line first-nonblank

      pub drawer-blank_first : is_properties_line (line_in s (first_line s p e) e) ≡ true → Err BlankFirst ≡ drawer_in p ls
      drawer-blank_first k = sym (drawer_in-blank_first p ls (blank-first ∙ k))

      pub drawer-missing : is_properties_line (line_in s (first_line s p e) e) ≡ false → Err Missing ≡ drawer_in p ls
      drawer-missing k = sym (drawer_in-other p ls (opens ∙ j) (blank-first ∙ k))

    module _ (j : same text (word ":properties:") ≡ true) where
      pub drawer-closer : (c : Maybe Closer) → c ≡ properties_end s l.end e
          → lines_of (between Kind.property_drawer 0 l.end c) (why_none p ls) ≡ drawer_in p ls
      unfolding allows_properties
      drawer-closer c k =
          ap (λ (r : Maybe Element). lines_of r (why_none p ls))
          (rw from_start at (property_drawer-closer s l e opener AfterHeading (is_properties_line-part s l e opener ∙ j) c k))
          ∙ drawer_in-rule

      pub drawer-open : None ≡ properties_end s l.end e → (d : NoDrawer) → d ≡ why s l.end e → Err d ≡ drawer_in p ls
      unfolding closer_at first_other_in line_in
      drawer-open k d m = options (properties_before (lines_in s l.end e))
          (λ n. ap Err m ∙ sym (drawer_in-opened p ls (opens ∙ j) (rw (rw from_start at (line_of-tail s l e opener)) n)
          ∙ rw (rw from_start at (line_of-tail s l e opener), line_of-end s l e opener, from_start)))
          (λ n x. let y = rw x at k in absurd (let z : ◌≡◌ {A = ℕ} 0 1 = cc in omega arith))

-- ---- and after a heading line

-- the section of the heading whose line ends at byte p ends at byte e, where `next_heading` finds its end
module _ (s : List ℕ) (p : ℕ) (h : p ≤ length s) (e : ℕ) (i : e ≡ next_line (is_heading_up_to (length s)) s p) where
  pub section-end : e ≡ next_line is_heading s p
  section-end = i ∙ next_line-up_to s (length s) p h (omega arith)

  pub section-order : (p ≤ e) × (e ≤ length s)
  section-order = rw section-end (next_line-from s is_heading p, next_line-to s is_heading p h)

  pub drawer_after-end : e ≤ p → Err Missing ≡ drawer_after s p
  drawer_after-end = rw section-end (λ j. cases (is_planning (line_after s p))
      (λ k. drawer-end s (p + length (line_after s p)) (next_line is_heading s p) (omega arith) ∙ sym (after-planning s p k))
      (λ k. drawer-end s p (next_line is_heading s p) j ∙ sym (after-heading s p k)))

  -- the line l that `line_at` answers there
  module _ (l : LineSpan) (g : l ≡ line_span s p e) where
    pub drawer_after-planning : is_planning (line_in s l.start e) ≡ true → drawer_in l.end (lines_in s l.end e) ≡ drawer_after s p
    unfolding line_span
    drawer_after-planning = rw (g, section-end) (λ j. sym (after-planning s p j))

    pub drawer_after-heading : is_planning (line_in s l.start e) ≡ false → drawer_in p (lines_in s p e) ≡ drawer_after s p
    unfolding line_span
    drawer_after-heading = rw (g, section-end) (λ j. sym (after-heading s p j))
