-- Laws of a heading's property drawer, and of the reasons why it has none: which of them holds follows from the opener, the closer and the
-- lines between.
-- Assumes nothing.
use mathlib.Core.Path.{◌≡◌, refl, sym, ap, ◌∙◌}
use mathlib.Core.Bool.{Bool, true, false, not, ◌&&◌, true≢false, false≢true}
use mathlib.Core.List.{List, [], ◌∷◌}
use mathlib.Core.Option.{none, some}
use Prim.Native.Nat.{ℕ, ◌+◌, ◌-◌, ◌≤◌}
use native.Mathlib.Omega.{arith}
use lib.ListN.{length, take, drop}
use borrow.Author.Tests.{not-true}
use borrow.Table.Steps.{cases}
use Rattle.text.specs.Runs.{word, all, after_run, trim_end, same}
use Rattle.text.specs.Lines.{Line, size, blank_line, body, head_line, tail_lines, leading, blanks}
use Rattle.text.specs.Parts.{lines_in, next_line}
use Rattle.text.proofs.Basics.{and_first}
use Rattle.text.proofs.Laws.Lines.{size-head_line, size-take-mono, leading-zero}
use Rattle.text.proofs.Laws.LinesIn.{line_in-to, within-lines_in, next_line-from, next_line-to}
use Rattle.rules.specs.Headings.{is_heading}
use Rattle.rules.specs.Kind
use Rattle.rules.specs.Elements.{Found, found, properties_before, property_drawer}
use Rattle.rules.specs.Items.{is_some}
use Rattle.rules.specs.LineTests.{is_planning, is_properties_line, is_end_line, is_node_property}
use Rattle.rules.specs.declared.place.Place.TheVariants.{AfterHeading, AfterPlanning}
use Rattle.rules.specs.Places.{place_at, allows_properties}
use Rattle.rules.proofs.Basics.{options}
use Rattle.rules.proofs.Laws.PropertyDrawers.{properties-nonblank, line_after, DrawerPlace, under-heading, under-planning}
use Rattle.dates.specs.Reads.{pick}
use Rattle.std.specs.declared.result.Result.{Result}
use Rattle.std.specs.declared.result.Result.TheVariants.{Ok, Err}
use Rattle.lookup.specs.declared.span.Span.{Span}
use Rattle.lookup.specs.declared.drawer.NoDrawer.{NoDrawer}
use Rattle.lookup.specs.declared.drawer.NoDrawer.TheVariants.{BlankFirst, NotClosed, NotProperty, Missing}
use Rattle.lookup.specs.Spans.{span}
use Rattle.lookup.specs.Drawers.{drawer_place, drawer_lines, is_blank_first, has_end, before_end, has_other, is_not_closed, is_not_properties}
use Rattle.lookup.specs.Drawers.{first_other_in, why_none, drawer_in, drawer_after}
use Rattle.lookup.specs.Promises.{NoReason, outcomes, how_many, at_most_one, Exclusive}

-- ---- the lines before the closer

-- rule 2's lines are all there are before the closer, and properties
pub before-some : (ls : List Line) (n : ℕ) → properties_before ls ≡ some n → (has_end ls ≡ true) × (has_other (before_end ls) ≡ false)
unfolding properties_before has_end before_end has_other
before-some [] n h = (cc, cc)
before-some (l ∷ ls) n h = cases (is_end_line l)
    (λ e. (rw e, rw (e, before_end)))
    (λ e. cases (is_node_property l)
    (λ i. options (properties_before ls)
    (λ j. let g = rw (e, i, j, properties_before) at h in (cc, cc))
    (λ m j. let r = before-some ls m j in (rw e r.0, rw (e, before_end, i) r.1)))
    (λ i. let g = rw (e, i, properties_before) at h in (cc, cc)))

-- without them a closed drawer holds another line
pub before-none : (ls : List Line) → properties_before ls ≡ none → has_end ls ≡ true → has_other (before_end ls) ≡ true
unfolding properties_before has_end before_end has_other
before-none [] h k = cc
before-none (l ∷ ls) h k = cases (is_end_line l)
    (λ e. let g = rw (e, properties_before) at h in cc)
    (λ e. cases (is_node_property l)
    (λ i. options (properties_before ls)
    (λ j. rw (e, before_end, i) (before-none ls j (rw e at k)))
    (λ m j. let g = rw (e, i, j, properties_before) at h in cc))
    (λ i. rw (e, before_end, i)))

-- ---- the reasons

module _ (ls : List Line) where
  abbrev opened : Bool
  opened = is_properties_line (head_line ls)

  abbrev rest : List Line
  rest = tail_lines ls

  -- an opener in the place
  module _ (o : opened ≡ true) where
    opened-blank : is_blank_first ls ≡ false
    unfolding is_blank_first
    opened-blank = rw (properties-nonblank (head_line ls) o)

    opened-closed : is_not_closed ls ≡ not (has_end rest)
    unfolding is_not_closed
    opened-closed = rw o

    opened-properties : is_not_properties ls ≡ (has_end rest && has_other (before_end rest))
    unfolding is_not_properties
    opened-properties = rw o

    pub opened-drawer : (n : ℕ) → properties_before rest ≡ some n → property_drawer AfterHeading ls ≡ some (found Kind.property_drawer (n + 2) 0)
    unfolding property_drawer allows_properties
    opened-drawer n h = rw (o, property_drawer, h)

    opened-none : properties_before rest ≡ none → property_drawer AfterHeading ls ≡ none
    unfolding property_drawer allows_properties
    opened-none h = rw (o, property_drawer, h)

  -- none there
  module _ (o : opened ≡ false) where
    other-drawer : property_drawer AfterHeading ls ≡ none
    unfolding property_drawer allows_properties
    other-drawer = rw (o, property_drawer)

    other-closed : is_not_closed ls ≡ false
    unfolding is_not_closed
    other-closed = rw o

    other-properties : is_not_properties ls ≡ false
    unfolding is_not_properties
    other-properties = rw o

    -- the next non-blank line is another, after blank lines
    pub other-blank : is_blank_first ls ≡ is_properties_line (head_line (drop (blanks ls) ls))
    unfolding is_blank_first blanks
    other-blank = cases (blank_line (head_line ls)) (λ b. rw b) (λ b. rw (b, leading-zero blank_line ls b) (sym o))

  pub exclusive : Exclusive ls
  unfolding outcomes at_most_one how_many is_some
  exclusive = cases opened
      (λ o. options (properties_before rest)
      (λ h. cases (has_end rest)
      (λ e. rw (opened-none o h, opened-blank o, opened-closed o, opened-properties o, e, before-none rest h e))
      (λ e. rw (opened-none o h, opened-blank o, opened-closed o, opened-properties o, e)))
      (λ n h. let b = before-some rest n h in
      rw (opened-drawer o n h, opened-blank o, opened-closed o, opened-properties o, b.0, b.1)))
      (λ o. cases (is_blank_first ls)
      (λ b. rw (other-drawer o, b, other-closed o, other-properties o))
      (λ b. rw (other-drawer o, b, other-closed o, other-properties o)))

  -- one of them holds, or none
  pub reason-cases {χ} : {A : Type χ} → (is_blank_first ls ≡ true → A) → (is_not_closed ls ≡ true → A) → (is_not_properties ls ≡ true → A) → (NoReason ls → A) → A
  reason-cases x y z w = cases (is_blank_first ls) x (λ a. cases (is_not_closed ls) y (λ b. cases (is_not_properties ls) z (λ c.
      w (record { blank_first = a; not_closed = b; not_properties = c }))))

  -- rule 2 fails at an opener
  module _ (p : ℕ) (o : opened ≡ true) (h : properties_before rest ≡ none) where
    pub opened-why : why_none p ls ≡ pick (has_end rest) (NotProperty (first_other_in p ls)) NotClosed
    unfolding why_none
    opened-why = cases (has_end rest)
        (λ e. rw (opened-blank o, opened-closed o, opened-properties o, e, before-none rest h e))
        (λ e. rw (opened-blank o, opened-closed o, e))

  not-closed : is_not_closed ls ≡ true → (opened ≡ true) × (has_end rest ≡ false) × (properties_before rest ≡ none)
  not-closed h = cases opened
      (λ o. let e : has_end rest ≡ false = not-true (has_end rest) (sym (opened-closed o) ∙ h) in
      (o, e, options (properties_before rest) (λ n. n) (λ n i. absurd (true≢false (sym (before-some rest n i).0 ∙ e)))))
      (λ o. absurd (false≢true (sym (other-closed o) ∙ h)))

  not-properties : is_not_properties ls ≡ true → (opened ≡ true) × (has_end rest ≡ true) × (properties_before rest ≡ none)
  not-properties h = cases opened
      (λ o. let both = sym (opened-properties o) ∙ h in
      let e = and_first (has_end rest) (has_other (before_end rest)) both in
      (o, e, options (properties_before rest) (λ n. n) (λ n i. absurd (false≢true (sym (before-some rest n i).1 ∙ (rw e at both))))))
      (λ o. absurd (false≢true (sym (other-properties o) ∙ h)))

-- ---- rule 2's drawer

-- either place allows it
either-place : (ls : List Line) → property_drawer AfterPlanning ls ≡ property_drawer AfterHeading ls
unfolding property_drawer allows_properties
either-place ls = refl

-- there is none, or one with n node properties
pub property_drawer-cases {χ} : {A : Type χ} (ls : List Line) → (property_drawer AfterHeading ls ≡ none → A)
    → ((n : ℕ) → property_drawer AfterHeading ls ≡ some (found Kind.property_drawer (n + 2) 0) → A) → A
property_drawer-cases ls f g = cases (is_properties_line (head_line ls))
    (λ o. options (properties_before (tail_lines ls)) (λ h. f (opened-none ls o h)) (λ n h. g n (opened-drawer ls o n h)))
    (λ o. f (other-drawer ls o))

-- ---- what stands in the place

module _ (p : ℕ) (ls : List Line) where
  pub drawer_in-some : (f : Found) → property_drawer AfterHeading ls ≡ some f → drawer_in p ls ≡ Ok (span (p + length (head_line ls)) (p + size (take (f.own - 1) ls)))
  unfolding drawer_in
  drawer_in-some f h = rw (h, drawer_in)

  pub drawer_in-none : property_drawer AfterHeading ls ≡ none → drawer_in p ls ≡ Err (why_none p ls)
  unfolding drawer_in
  drawer_in-none h = rw (h, drawer_in)

  pub drawer_in-opened : is_properties_line (head_line ls) ≡ true → properties_before (tail_lines ls) ≡ none
      → drawer_in p ls ≡ Err (pick (has_end (tail_lines ls)) (NotProperty (first_other_in p ls)) NotClosed)
  drawer_in-opened o h = drawer_in-none (opened-none ls o h) ∙ ap Err (opened-why ls p o h)

  -- each reason settles it
  pub drawer_in-blank_first : is_blank_first ls ≡ true → drawer_in p ls ≡ Err BlankFirst
  unfolding why_none
  drawer_in-blank_first h = cases (is_properties_line (head_line ls))
      (λ o. absurd (false≢true (sym (opened-blank ls o) ∙ h)))
      (λ o. drawer_in-none (other-drawer ls o) ∙ rw h)

  pub drawer_in-not_closed : is_not_closed ls ≡ true → drawer_in p ls ≡ Err NotClosed
  drawer_in-not_closed h = let n = not-closed ls h in drawer_in-opened n.0 n.2 ∙ rw n.1

  pub drawer_in-not_properties : is_not_properties ls ≡ true → drawer_in p ls ≡ Err (NotProperty (first_other_in p ls))
  drawer_in-not_properties h = let n = not-properties ls h in drawer_in-opened n.0 n.2 ∙ rw n.1

  pub drawer_in-missing : property_drawer AfterHeading ls ≡ none → NoReason ls → drawer_in p ls ≡ Err Missing
  unfolding why_none
  drawer_in-missing h n = drawer_in-none h ∙ rw (n.blank_first, n.not_closed, n.not_properties)

  pub drawer_in-other : is_properties_line (head_line ls) ≡ false → is_blank_first ls ≡ false → drawer_in p ls ≡ Err Missing
  drawer_in-other o h =
      drawer_in-missing (other-drawer ls o) (record { blank_first = h; not_closed = other-closed ls o; not_properties = other-properties ls o })

pub drawer_in-nil : (p : ℕ) → drawer_in p [] ≡ Err Missing
unfolding is_properties_line is_blank_first blank_line blanks leading head_line all same body word after_run trim_end
drawer_in-nil p = drawer_in-other p [] refl refl

module _ (s : List ℕ) (p e : ℕ) where
  abbrev ls : List Line
  ls = lines_in s p e

  drawer_in-order : p ≤ e → e ≤ length s → (d : Span) → drawer_in p ls ≡ Ok d → (d.start ≤ d.end) × (d.end ≤ e)
  drawer_in-order h i d j =
      property_drawer-cases ls
      (λ k. let n = drawer_in-none p ls k in absurd (let z : ◌≡◌ {A = ℕ} 0 1 = cc in omega arith))
      (λ n k. let w = drawer_in-some p ls (found Kind.property_drawer (n + 2) 0) k in
      let is : d ≡ span (p + length (head_line ls)) (p + size (take (n + 2 - 1) ls)) = cc in
      rw is (omega (arith, size-head_line ls, size-take-mono 1 (n + 2 - 1) ls (omega arith), within-lines_in s p e h i (n + 2 - 1))))

-- ---- after a heading line

module _ (s : List ℕ) (p : ℕ) where
  abbrev end : ℕ
  end = next_line is_heading s p

  module _ (h : is_planning (line_after s p) ≡ false) where
    place-heading : drawer_place s p ≡ p
    unfolding drawer_place
    place-heading = rw h

    lines-heading : drawer_lines s p ≡ lines_in s p end
    unfolding drawer_lines
    lines-heading = rw place-heading

    pub after-heading : drawer_after s p ≡ drawer_in p (lines_in s p end)
    unfolding drawer_after
    after-heading = rw (place-heading, lines-heading)

  module _ (h : is_planning (line_after s p) ≡ true) where
    abbrev next : ℕ
    next = p + length (line_after s p)

    place-planning : drawer_place s p ≡ next
    unfolding drawer_place
    place-planning = rw h

    lines-planning : drawer_lines s p ≡ lines_in s next end
    unfolding drawer_lines
    lines-planning = rw place-planning

    pub after-planning : drawer_after s p ≡ drawer_in next (lines_in s next end)
    unfolding drawer_after
    after-planning = rw (place-planning, lines-planning)

  -- what stands in the place
  pub drawer_after-is : (x : Result Span NoDrawer) → drawer_in (drawer_place s p) (drawer_lines s p) ≡ x → drawer_after s p ≡ x
  unfolding drawer_after
  drawer_after-is x h = h

  -- in its place b
  pub drawer_after-some : (b : ℕ) (f : Found) → DrawerPlace s p b → property_drawer (place_at s b) (lines_in s b end) ≡ some f
      → drawer_after s p ≡ Ok (span (b + length (head_line (lines_in s b end))) (b + size (take (f.own - 1) (lines_in s b end))))
  drawer_after-some b f (under-heading h i j) k = rw i (after-heading h ∙ drawer_in-some p (lines_in s p end) f (rw (j, i) at k))
  drawer_after-some b f (under-planning h i j) k =
      rw i (after-planning h ∙ drawer_in-some (next h) (lines_in s (next h) end) f (sym (either-place (lines_in s (next h) end)) ∙ rw (j, i) at k))

  -- rule 2 finds none among the lines, or it finds one
  pub drawer_after-cases {χ} : {A : Type χ} → (property_drawer AfterHeading (drawer_lines s p) ≡ none → A)
      → ((f : Found) → is_planning (line_after s p) ≡ false → property_drawer AfterHeading (lines_in s p end) ≡ some f → A)
      → ((f : Found) → is_planning (line_after s p) ≡ true → property_drawer AfterPlanning (lines_in s (p + length (line_after s p)) end) ≡ some f → A) → A
  drawer_after-cases x y z = cases (is_planning (line_after s p))
      (λ h. options (property_drawer AfterHeading (lines_in s (next h) end))
      (λ i. x (rw (lines-planning h) i)) (λ f i. z f h (either-place (lines_in s (next h) end) ∙ i)))
      (λ h. options (property_drawer AfterHeading (lines_in s p end)) (λ i. x (rw (lines-heading h) i)) (λ f i. y f h i))

  pub drawer_after-order : p ≤ length s → (d : Span) → drawer_after s p ≡ Ok d → (d.start ≤ d.end) × (d.end ≤ length s)
  drawer_after-order h d i =
      let from = next_line-from s is_heading p in
      let to = next_line-to s is_heading p h in
      let o : (d.start ≤ d.end) × (d.end ≤ end) = cases (is_planning (line_after s p))
      (λ j. drawer_in-order s (next j) end (line_in-to s p end from to) to d (sym (after-planning j) ∙ i))
      (λ j. drawer_in-order s p end from to d (sym (after-heading j) ∙ i)) in
      omega arith
