-- Rules given an item's end: at each line of an item, among the item's lines alone, they find what they find among all the lines up to the end of
-- the section, drawer or greater block around, cut to the item's lines. So do the scans for lists and items within it.
-- Assumes nothing.
use mathlib.Core.Path.{◌≡◌, refl, sym, ap, ◌∙◌}
use mathlib.Core.Bool.{true, false, ◌&&◌, ◌||◌}
use mathlib.Core.List.{List, [], ◌∷◌}
use mathlib.Core.Option.{none}
use Prim.Native.Nat.{ℕ, zero, suc, ◌-◌, ◌≤◌, min}
use native.Mathlib.Omega.{arith}
use lib.Dec.{eqb}
use lib.ListN.{take}
use lib.Seq.{take-nil}
use borrow.Table.Steps.{cases}
use borrow.Author.Tests.{eq-eqb}
use Rattle.text.specs.Lines.{Line, blank_line, head_line, tail_lines}
use Rattle.text.proofs.Laws.Lines.{blank_line-nil, head_line-take}
use Rattle.rules.specs.Items.{is_some, width, is_item}
use Rattle.rules.specs.Places.{allows_rules}
use Rattle.rules.specs.Elements.{when, first_of, rules3to9, rules1to9}
use Rattle.rules.specs.Lists.{together, with_blank, item_lines, list_lines, list_of, list}
use Rattle.rules.specs.FirstRule.{or_else, by_rules, paragraph_lines, paragraph, element}
use Rattle.rules.specs.declared.place.Place.{Place}
use Rattle.rules.proofs.Laws.Alone.{none-alone}
use Rattle.rules.proofs.Laws.FirstOf.{or_else-none, first_of-split}
use Rattle.rules.proofs.Laws.Passing.{list_lines-passes}
use Rattle.rules.proofs.Laws.Scans.{split, with_blank-none, with_blank-some, item_lines-nil, item_lines-skip, item_lines-out, item_lines-in, item_lines-le}
use Rattle.rules.proofs.Laws.Scans.{item_lines-pass, list_lines-nil, list_lines-skip, list_lines-out, list_lines-in, list_lines-pass}
use Rattle.rules.proofs.Laws.Scans.{Gapped, item-gapped, list-gapped}
use Rattle.rules.proofs.Laws.Steps.{item_lines-first, together-few, paragraph-goes}
use Rattle.rules.proofs.Laws.Together.{together-most}
use Rattle.rules.proofs.Laws.Prefixes.{SameFound, Agree, neither, both, agree-is_some, agree-default, agree-else, agree-first, rules-agree, nine-agree}
use Rattle.rules.proofs.Laws.Prefixes.{together-take}

-- ---- the scans among the first g lines, where they end before those do

blank-head : (g : ℕ) (z : List Line) → blank_line (head_line z) ≡ true → blank_line (head_line (take g z)) ≡ true
unfolding head_line
blank-head zero z h = blank_line-nil
blank-head (suc g) [] h = blank_line-nil
blank-head (suc g) (l ∷ z) h = h

with_blank-not-one : (n : ℕ) → with_blank n ≤ 1 → n ≡ 0
unfolding with_blank
with_blank-not-one zero h = refl
with_blank-not-one (suc n) h = absurd (omega arith)

-- past a blank line
gap-cut : (F : List Line → ℕ) → Gapped F → (l : Line) (z : List Line) (g : ℕ) → blank_line l ≡ true → blank_line (head_line z) ≡ false
    → F (l ∷ z) ≤ suc g → (F z ≤ g → F (take g z) ≡ F z) → F (l ∷ take g z) ≡ F (l ∷ z)
unfolding head_line
gap-cut F G l z zero e d h i =
    let a = F z in
    let none = with_blank-not-one a (omega (arith, G.gap l z e d)) in
    G.two l [] e blank_line-nil ∙ sym (G.gap l z e d ∙ with_blank-none a none)
gap-cut F G l z (suc g) e d h i =
    let a = F z in
    let head : blank_line (head_line (take (suc g) z)) ≡ false = rw (head_line-take (suc g) z (omega arith)) d in
    let bound : a ≤ suc g = split 0 a (λ k. omega (arith, G.gap l z e d, with_blank-some a k)) (λ k. omega arith) in
    G.gap l (take (suc g) z) e head ∙ ap with_blank (i bound) ∙ sym (G.gap l z e d)

-- a scan; its first number is that of the lines that stand with the line before them
record Scan (F : ℕ → List Line → ℕ) : Type 0 where
  nil : (m : ℕ) → F m [] ≡ 0
  skip : (l : Line) (z : List Line) (m : ℕ) → F (suc m) (l ∷ z) ≡ suc (F m z)
  gapped : Gapped (F 0)
  -- at a line that is not blank
  line : (l : Line) (z : List Line) (g : ℕ) → blank_line l ≡ false → ((m : ℕ) → F m z ≤ g → F m (take g z) ≡ F m z) → F 0 (l ∷ z) ≤ suc g
      → F 0 (l ∷ take g z) ≡ F 0 (l ∷ z)

scan-cut : {F : ℕ → List Line → ℕ} → Scan F → (g : ℕ) (z : List Line) (m : ℕ) → F m z ≤ g → F m (take g z) ≡ F m z
scan-cut {F} scan g [] m h = ap (F m) (take-nil g)
scan-cut {F} scan zero (l ∷ z) m h = omega (arith, scan.nil m)
scan-cut {F} scan (suc g) (l ∷ z) (suc m) h =
    let s = scan.skip l z m in
    omega (arith, s, scan.skip l (take g z) m, scan-cut scan g z m (omega arith))
scan-cut {F} scan (suc g) (l ∷ z) zero h =
    let G = scan.gapped in
    cases (blank_line l)
    (λ e. cases (blank_line (head_line z))
    (λ d. G.two l (take g z) e (blank-head g z d) ∙ sym (G.two l z e d))
    (λ d. gap-cut (F 0) G l z g e d h (scan-cut scan g z 0)))
    (λ e. scan.line l z g e (scan-cut scan g z) h)

item-scan : (v : ℕ) → Scan (item_lines v)
unfolding tail_lines
item-scan v = record {
  nil = item_lines-nil v;
  skip = item_lines-skip v;
  gapped = item-gapped v;
  line = λ l z g e later h. split v (width l)
      (λ d.
      let t = together (l ∷ z) in
      let full = item_lines-in v l z e d in
      let pass = item_lines-pass v (t - 1) z (omega (arith, together-most (l ∷ z))) in
      let same : together (l ∷ take g z) ≡ t = together-take l z g (omega arith) in
      item_lines-in v l (take g z) e d ∙ ap (λ (n : ℕ). suc (item_lines v (n - 1) (take g z))) same ∙ ap suc (later (t - 1) (omega arith)) ∙ sym full)
      (λ d. item_lines-out v l (take g z) e d ∙ sym (item_lines-out v l z e d));
}

pub item_lines-cut : (v g : ℕ) (z : List Line) (m : ℕ) → item_lines v m z ≤ g → item_lines v m (take g z) ≡ item_lines v m z
item_lines-cut v = scan-cut (item-scan v)

list-scan : (v : ℕ) → Scan (list_lines v)
list-scan v = record {
  nil = list_lines-nil v;
  skip = list_lines-skip v;
  gapped = list-gapped v;
  line = λ l z g e later h. cases (is_item l && eqb (width l) v)
      (λ d.
      let a = item_lines v 0 z in
      let full = list_lines-in v l z e d in
      let pass = list_lines-pass v a z (item_lines-le v 0 z) in
      let same = item_lines-cut v g z 0 (omega arith) in
      list_lines-in v l (take g z) e d ∙ ap (λ (n : ℕ). suc (list_lines v n (take g z))) same ∙ ap suc (later a (omega arith)) ∙ sym full)
      (λ d. list_lines-out v l (take g z) e d ∙ sym (list_lines-out v l z e d));
}

list_lines-cut : (v g : ℕ) (z : List Line) (m : ℕ) → list_lines v m z ≤ g → list_lines v m (take g z) ≡ list_lines v m z
list_lines-cut v = scan-cut (list-scan v)

-- ---- at a line l of an item of indentation w, of which the lines z follow: the item has j of them

module _ (w : ℕ) (l : Line) (z : List Line) (j : ℕ) (e : blank_line l ≡ false) (many : item_lines w 0 (l ∷ z) ≡ suc j) where
  abbrev all : List Line
  all = l ∷ z

  abbrev given : List Line
  given = l ∷ take j z

  few : together all ≤ suc j
  few = omega (arith, many, together-few w l z e (omega (arith, many)))

  list_same : is_item l ≡ true → SameFound (suc j) (list_of all) (list_of given)
  unfolding list_of head_line tail_lines
  list_same i =
      let v = width l in
      let a = item_lines v 0 z in
      let item = list_lines-in v l z e (rw i (eq-eqb v v refl)) in
      split w v
      (λ d.
      let inside = list_lines-passes w v d all in
      let pass = list_lines-pass v a z (item_lines-le v 0 z) in
      let bound : list_lines v a z ≤ j = omega (arith, many, item, inside) in
      let same : list_lines v (item_lines v 0 (take j z)) (take j z) ≡ list_lines v a z =
      ap (λ (n : ℕ). list_lines v n (take j z)) (item_lines-cut v j z 0 (omega arith)) ∙ list_lines-cut v j z a bound in
      record { kind = refl; detail = refl; own = omega arith })
      (λ d. absurd (omega (arith, many, item_lines-out w l z e d)))

  list-agree : Agree (suc j) (list all) (list given)
  unfolding list when head_line
  list-agree = cases (is_item l) (λ i. rw i (both (list_same i))) (λ i. rw i neither)

-- ---- the lines that a paragraph goes on with

module _ (w : ℕ) where
  paragraph-cut : (z : List Line) (j : ℕ) → item_lines w 0 z ≡ j → paragraph_lines (take j z) ≡ min (paragraph_lines z) j
  unfolding paragraph_lines
  paragraph-cut [] j h = rw (take-nil j) (omega arith)
  paragraph-cut (l ∷ z) zero h = omega arith
  paragraph-cut (l ∷ z) (suc j) h =
      cases (blank_line l)
      (λ e. rw (e, paragraph_lines) (omega arith))
      (λ e.
      let same = agree-is_some (nine-agree l z j (few w l z j e h)) in
      cases (is_some (first_of rules3to9 (l ∷ z)) || is_item l)
      (λ i. rw (same, e, i, paragraph_lines) (omega arith))
      (λ i.
      let rest = item_lines-first w l z e (paragraph-goes l z (rw (e, i))).1 (omega (arith, h)) in
      rw (same, e, i, paragraph_lines) (omega (arith, paragraph-cut z j (omega (arith, h, rest))))))

  -- a paragraph at a line before them, which stands by itself
  pub paragraph-same : (l : Line) (z : List Line) (j : ℕ) → item_lines w 0 z ≡ j → SameFound (suc j) (paragraph (l ∷ z)) (paragraph (l ∷ take j z))
  unfolding paragraph tail_lines
  paragraph-same l z j h = record { kind = refl; detail = refl; own = omega (arith, paragraph-cut z j h) }

-- ---- the first rule that holds

module _ (w : ℕ) (l : Line) (z : List Line) (j : ℕ) (e : blank_line l ≡ false) (many : item_lines w 0 (l ∷ z) ≡ suc j) (pl : Place) where
  later-none : by_rules pl (l ∷ z) ≡ none → item_lines w 0 z ≡ j
  unfolding by_rules rules1to9 or_else
  later-none h =
      let (n, i) = or_else-none (first_of (rules1to9 pl) (l ∷ z)) (list (l ∷ z)) h in
      let rules = (or_else-none (first_of (take 2 (rules1to9 pl)) (l ∷ z)) (first_of rules3to9 (l ∷ z)) (sym (first_of-split (l ∷ z) 2 (rules1to9 pl)) ∙ n)).1 in
      omega (arith, many, item_lines-first w l z e (none-alone (l ∷ z) rules) (omega (arith, many)))

  pub element-same : allows_rules pl ≡ true → SameFound (suc j) (element pl (l ∷ z)) (element pl (l ∷ take j z))
  unfolding element by_rules
  element-same h =
      rw (h, element)
      (agree-default (paragraph (l ∷ z)) (paragraph (l ∷ take j z))
      (agree-else (agree-first (rules-agree l z j (few w l z j e many) pl)) (list-agree w l z j e many))
      (λ n. paragraph-same w l z j (later-none n)))
