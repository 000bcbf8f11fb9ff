-- Rules 1 to 5, and those after them. What one of the first five finds has the lines that stand or fall with the first; where they fail, the first
-- line stands by itself. The kind of what is found tells which of the two it is.
-- Assumes nothing.
use mathlib.Core.Path.{◌≡◌, refl, sym, ap, ◌∙◌}
use mathlib.Core.Bool.{◌&&◌}
use mathlib.Core.List.{List, ◌++◌}
use mathlib.Core.Option.{Option, none, some, map}
use Prim.Native.Nat.{ℕ, ◌+◌, ◌≤◌, ◌<◌}
use native.Mathlib.Omega.{arith}
use lib.Dec.{eqb}
use lib.ListN.{take, drop}
use borrow.Table.Steps.{cases}
use Rattle.text.specs.Runs.{word, is_empty}
use Rattle.text.specs.Lines.{Line, head_line, tail_lines}
use Rattle.text.specs.Parts.{lines_in}
use Rattle.rules.specs.Kind
use Rattle.rules.specs.Names.{number_in}
use Rattle.rules.specs.LineTests.{is_planning, block_name, is_drawer_line}
use Rattle.rules.specs.declared.place.Place.{Place}
use Rattle.rules.specs.declared.rule.Element.{Element}
use Rattle.std.specs.declared.option.Option.TheVariants.{None, Some}
use Rattle.rules.specs.Places.{allows_planning}
use Rattle.rules.specs.Elements.{Found, found, LineRule, rule, planning, property_drawer, lines_before, verbatim_names, block_of, block, drawer, table}
use Rattle.rules.specs.Elements.{comment, fixed_width, horizontal_rule, keyword, first_of, rules3to9, rules1to9, rules3to5}
use Rattle.rules.specs.FirstRule.{or_else}
use Rattle.rules.specs.Lists.{together}
use Rattle.rules.specs.Findings.{rule_at, spanned}
use Rattle.rules.specs.Scans.{together_run}
use Rattle.rules.proofs.Basics.{and_yes, some-none, options, All, all_nil, all_cons}
use Rattle.rules.proofs.Laws.Alone.{Alone, planning-alone, together-block, together-drawer, together-table, together-properties}
use Rattle.rules.proofs.Laws.FirstOf.{or_else-none, first_of-split, rule_at-holds, rule_at-fails}
use Rattle.rules.proofs.Laws.LineRules.{If, if-when, if-first, if-properties}
use Rattle.rules.proofs.Laws.Paragraphs.{line_run}
use Rattle.rules.proofs.Laws.Together.{together-one, together-element}

-- what holds of whatever is found
if_some : (P : Found → Type 0) (o : Option Found) → ((f : Found) → o ≡ some f → P f) → If P o
if_some P none h = tt
if_some P (some f) h = h f refl

if-any : (P : Found → Type 0) (g : ℕ → Found) (o : Option ℕ) → ((n : ℕ) → P (g n)) → If P (map g o)
if-any P g none h = tt
if-any P g (some n) h = h n

found-if : (P : Found → Type 0) (o : Option Found) (f : Found) → o ≡ some f → If P o → P f
found-if P none f h k = absurd (some-none f (sym h))
found-if P (some g) f h k = let i : g ≡ f = cc in rw i at k

module _ (pl : Place) (ls : List Line) where
  abbrev early : List LineRule
  early = take 5 (rules1to9 pl)

  abbrev late : List LineRule
  late = drop 5 (rules1to9 pl)

  -- ---- the lines

  pub early-together : All (λ r. If (λ f. together ls ≡ f.own) (r.finds ls)) early
  unfolding rules1to9 rules3to9 planning
  early-together =
      let P : Found → Type 0 = λ f. together ls ≡ f.own in
      let l = head_line ls in
      all_cons {a = rule (word "cds") (planning pl)} (if-when P (allows_planning pl && is_planning l) (found Kind.planning 1 0)
      (λ h. together-one ls (planning-alone ls (and_yes (allows_planning pl) (is_planning l) h).1)))
      (all_cons {a = rule (word ":") (property_drawer pl)} (if_some P (property_drawer pl ls) (together-properties pl ls))
      (all_cons {a = rule (word "#") block} (if_some P (block ls) (together-block ls))
      (all_cons {a = rule (word ":") drawer} (if_some P (drawer ls) (together-drawer ls))
      (all_cons {a = rule (word "|") table} (if_some P (table ls) (together-table ls)) all_nil))))

  pub early-alone : first_of early ls ≡ none → Alone ls
  unfolding rules1to9 rules3to9 rules3to5 or_else
  early-alone h = (or_else-none (first_of (take 2 early) ls) (first_of (drop 2 early) ls) (sym (first_of-split ls 2 early) ∙ h)).1

  -- ---- the kinds

  abbrev Low : Found → Type 0
  Low f = f.kind ≤ Kind.table

  abbrev High : Found → Type 0
  High f = Kind.table < f.kind

  block_of-low : (x : List ℕ) (n : ℕ) → Low (block_of x n)
  unfolding block_of
  block_of-low x n = cases (eqb (number_in verbatim_names 1 x) 0) (λ e. rw (e, block_of) (omega arith)) (λ e. rw (e, block_of) (omega arith))

  block-low : If Low (block ls)
  unfolding block
  block-low =
      let x = block_name (head_line ls) in
      cases (is_empty x) (λ e. rw (e, block) tt) (λ e. rw (e, block)
      (if-any Low (λ n. block_of x (n + 2)) (lines_before (word "#+end_" ++ x) (tail_lines ls)) (λ n. block_of-low x (n + 2))))

  drawer-low : If Low (drawer ls)
  unfolding drawer
  drawer-low = cases (is_drawer_line (head_line ls)) (λ e. rw (e, drawer)
      (if-any Low (λ n. found Kind.drawer (n + 2) 0) (lines_before (word ":end:") (tail_lines ls)) (λ n. omega arith))) (λ e. rw (e, drawer) tt)

  early-low : All (λ r. If Low (r.finds ls)) early
  unfolding rules1to9 rules3to9 planning table
  early-low =
      all_cons {a = rule (word "cds") (planning pl)} (if-when Low _ _ (λ h. omega arith))
      (all_cons {a = rule (word ":") (property_drawer pl)} (if-properties ls pl Low (λ n h. omega arith))
      (all_cons {a = rule (word "#") block} block-low
      (all_cons {a = rule (word ":") drawer} drawer-low
      (all_cons {a = rule (word "|") table} (if-when Low _ _ (λ h. omega arith)) all_nil))))

  late-high : All (λ r. If High (r.finds ls)) late
  unfolding rules1to9 rules3to9 comment fixed_width horizontal_rule keyword
  late-high =
      all_cons {a = rule (word "#") comment} (if-when High _ _ (λ h. omega arith))
      (all_cons {a = rule (word ":") fixed_width} (if-when High _ _ (λ h. omega arith))
      (all_cons {a = rule (word "-") horizontal_rule} (if-when High _ _ (λ h. omega arith))
      (all_cons {a = rule (word "#") keyword} (if-when High _ _ (λ h. omega arith)) all_nil)))

  -- ---- what the first rule that holds finds

  module _ (f : Found) (h : first_of (rules1to9 pl) ls ≡ some f) where
    split_at : or_else (first_of early ls) (first_of late ls) ≡ some f
    split_at = sym (first_of-split ls 5 (rules1to9 pl)) ∙ h

    first-together : Low f → together ls ≡ f.own
    unfolding or_else
    first-together k = options (first_of early ls)
        (λ n. absurd (let i = found-if High (first_of late ls) f (rw n at split_at) (if-first High ls late-high) in omega arith))
        (λ g i. let j : g ≡ f = (let e = rw i at split_at in cc) in
        rw j at (found-if (λ y. together ls ≡ y.own) (first_of early ls) g i (if-first (λ y. together ls ≡ y.own) ls early-together)))

    first_alone : High f → Alone ls
    unfolding or_else
    first_alone k = options (first_of early ls)
        early-alone
        (λ g i. absurd (let j : g ≡ f = (let e = rw i at split_at in cc) in
        let m = found-if Low (first_of early ls) g i (if-first Low ls early-low) in omega (arith, ap (λ (y : Found). y.kind) j)))

  fails-alone : first_of (rules1to9 pl) ls ≡ none → Alone ls
  fails-alone h = early-alone (or_else-none (first_of early ls) (first_of late ls) (sym (first_of-split ls 5 (rules1to9 pl)) ∙ h)).0

-- ---- in a text

module _ (s : List ℕ) (p e : ℕ) (pl : Place) where
  abbrev here : List Line
  here = lines_in s p e

  module _ (x : Element) (h : Some x ≡ rule_at p here (first_of (rules1to9 pl) here)) where
    pub rule-together : x.kind ≤ Kind.table → line_run x.end x.own ≡ together_run s p e
    unfolding spanned
    rule-together k =
        let (f, i, j) = rule_at-holds p here (first_of (rules1to9 pl) here) x h in
        together-element s p e x f (first-together pl here f i (omega (arith, ap (λ (y : Element). y.kind) j))) j

    pub rule-alone : Kind.table < x.kind → Alone here
    unfolding spanned
    rule-alone k =
        let (f, i, j) = rule_at-holds p here (first_of (rules1to9 pl) here) x h in
        first_alone pl here f i (omega (arith, ap (λ (y : Element). y.kind) j))

  pub no-rule-alone : None ≡ rule_at p here (first_of (rules1to9 pl) here) → Alone here
  no-rule-alone h = fails-alone pl here (rule_at-fails p here _ h)
