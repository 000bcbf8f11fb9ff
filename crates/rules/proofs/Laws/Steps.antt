-- What an element is to the item that it stands in: the scan for the item's lines passes the element's own lines, as many of them as the item has,
-- and goes on after them. Where the element does not go on line by line, the item has all of them.
-- Assumes nothing.
use mathlib.Core.Path.{◌≡◌, refl, sym, ap, ◌∙◌, subst}
use mathlib.Core.Bool.{Bool, true, false, ◌||◌, true≢false}
use mathlib.Core.List.{List, [], ◌∷◌}
use mathlib.Core.Option.{Option, none, some, get_or}
use Prim.Native.Nat.{ℕ, zero, suc, ◌≤◌, ◌<◌, min}
use native.Mathlib.Omega.{arith}
use lib.ListN.{take, drop}
use borrow.Table.Steps.{cases}
use borrow.Author.Tests.{eq-eqb}
use Rattle.text.specs.Runs.{word}
use Rattle.text.specs.Lines.{Line, blank_line, head_line, tail_lines, leading}
use Rattle.rules.specs.Kind
use Rattle.rules.specs.Kind.{is_run}
use Rattle.rules.specs.Items.{is_some, width, is_item}
use Rattle.rules.specs.LineTests.{is_marked, is_comment, is_fixed_width}
use Rattle.rules.specs.Places.{allows_rules}
use Rattle.rules.specs.Elements.{Found, found, rule, line_and, comment, fixed_width}
use Rattle.rules.specs.Elements.{horizontal_rule, keyword, first_of, rules3to9, rules1to9}
use Rattle.rules.specs.Lists.{together, item_lines, list_lines, list_of, list}
use Rattle.rules.specs.FirstRule.{or_else, by_rules, paragraph_lines, paragraph, element}
use Rattle.rules.specs.declared.place.Place.{Place}
use Rattle.rules.proofs.Basics.{or_no, All, all_nil, all_cons, all_map}
use Rattle.rules.proofs.Laws.Alone.{Alone, comment-alone, fixed_width-alone, none-alone}
use Rattle.rules.proofs.Laws.EarlyRules.{early-together, early-alone}
use Rattle.rules.proofs.Laws.Elements.{if-else, if-list}
use Rattle.rules.proofs.Laws.FirstOf.{first_of-split}
use Rattle.rules.proofs.Laws.LineRules.{If, if-when, if-first, if-default}
use Rattle.rules.proofs.Laws.Named.{comment-nonblank}
use Rattle.rules.proofs.Laws.Passing.{Passes, passes_none, item_lines-one, list_lines-passes}
use Rattle.rules.proofs.Laws.PropertyDrawers.{nonblank}
use Rattle.rules.proofs.Laws.Scans.{split, item_lines-out, item_lines-together, list_lines-in}

-- ---- lines that stand by themselves

pub data Singles : ℕ → List Line → Type 0 where
  no_more : {ls : List Line} → Singles 0 ls
  one_more : {n : ℕ} {l : Line} {ls : List Line} → blank_line l ≡ false → Alone (l ∷ ls) → Singles n ls → Singles (suc n) (l ∷ ls)

pub singles-less : {n : ℕ} {ls : List Line} (m : ℕ) → m ≤ n → Singles n ls → Singles m ls
singles-less zero h x = no_more
singles-less (suc m) h no_more = absurd (omega arith)
singles-less (suc m) h (one_more e a x) = one_more e a (singles-less m (omega arith) x)

module _ (w : ℕ) where
  -- the item's next line, where it is not blank and stands by itself
  pub item_lines-first : (l : Line) (ls : List Line) → blank_line l ≡ false → Alone (l ∷ ls) → 0 < item_lines w 0 (l ∷ ls)
      → item_lines w 0 (l ∷ ls) ≡ suc (item_lines w 0 ls)
  item_lines-first l ls e a h = split w (width l) (item_lines-one w l ls e a) (λ d. absurd (omega (arith, item_lines-out w l ls e d)))

  pub singles-pass : {n : ℕ} {ls : List Line} → Singles n ls → n ≤ item_lines w 0 ls → Passes w ls n
  singles-pass {ls = ls} no_more h = passes_none w ls 0 refl
  singles-pass (one_more {l = l} {ls = ls} e a x) h =
      let one = item_lines-first l ls e a (omega arith) in
      omega (arith, one, singles-pass x (omega arith))

-- ---- what an element passes

pub record Steps (w : ℕ) (ls : List Line) (f : Found) : Type 0 where
  pub passes : Passes w ls (min f.own (item_lines w 0 ls))
  pub whole : is_run f.kind ≡ false → 0 < item_lines w 0 ls → f.own ≤ item_lines w 0 ls

module _ (w : ℕ) where
  steps-none : (ls : List Line) (f : Found) → item_lines w 0 ls ≡ 0 → Steps w ls f
  steps-none ls f h = record { passes = passes_none w ls (min f.own (item_lines w 0 ls)) (omega arith); whole = λ n i. absurd (omega arith) }

  -- all its lines are passed
  steps_all : (ls : List Line) (f : Found) → Passes w ls f.own → Steps w ls f
  steps_all ls f h =
      let m : min f.own (item_lines w 0 ls) ≡ f.own = omega arith in
      record { passes = rw m h; whole = λ n i. omega arith }

  steps-singles : (ls : List Line) (f : Found) → Singles f.own ls → (is_run f.kind ≡ false → f.own ≡ 1) → Steps w ls f
  steps-singles ls f x h =
      let m = min f.own (item_lines w 0 ls) in
      record { passes = singles-pass w (singles-less m (omega arith) x) (omega arith); whole = λ n i. omega (arith, h n) }

  module _ (l : Line) (ls : List Line) (e : blank_line l ≡ false) where
    steps-one : (f : Found) → Alone (l ∷ ls) → f.own ≡ 1 → Steps w (l ∷ ls) f
    steps-one f a h = steps-singles (l ∷ ls) f (rw h (one_more e a no_more)) (λ n. h)

    steps-run : (f : Found) → is_run f.kind ≡ true → Singles f.own (l ∷ ls) → Steps w (l ∷ ls) f
    steps-run f h x = steps-singles (l ∷ ls) f x (λ n. absurd (true≢false (sym h ∙ n)))

    -- lines that stand or fall with the first are the item's together
    pub together-few : 0 < item_lines w 0 (l ∷ ls) → together (l ∷ ls) ≤ item_lines w 0 (l ∷ ls)
    together-few h = split w (width l)
        (λ d. omega (arith, item_lines-together w l ls e d))
        (λ d. absurd (omega (arith, item_lines-out w l ls e d)))

    steps-together : (f : Found) → together (l ∷ ls) ≡ f.own → Steps w (l ∷ ls) f
    steps-together f h = split w (width l)
        (λ d. steps_all (l ∷ ls) f (rw h at (item_lines-together w l ls e d)))
        (λ d. steps-none (l ∷ ls) f (item_lines-out w l ls e d))

    steps-list : is_item l ≡ true → Steps w (l ∷ ls) (list_of (l ∷ ls))
    unfolding list_of head_line tail_lines
    steps-list i =
        let v = width l in
        let own : list_lines v 0 (l ∷ ls) ≡ (list_of (l ∷ ls)).own = list_lines-in v l ls e (rw i (eq-eqb v v refl)) in
        split w v
        (λ d. steps_all (l ∷ ls) (list_of (l ∷ ls)) (rw own at (list_lines-passes w v d (l ∷ ls))))
        (λ d. steps-none (l ∷ ls) (list_of (l ∷ ls)) (item_lines-out w l ls e d))

-- ---- the lines of comments, fixed-width areas and paragraphs

module _ (f : Line → Bool) (alone : (ls : List Line) → f (head_line ls) ≡ true → Alone ls) (some : (l : Line) → f l ≡ true → blank_line l ≡ false) where
  singles-leading : (ls : List Line) → Singles (leading f ls) ls
  unfolding leading head_line
  singles-leading [] = no_more
  singles-leading (l ∷ ls) = cases (f l)
      (λ e. rw (e, leading) (one_more (some l e) (alone (l ∷ ls) e) (singles-leading ls)))
      (λ e. rw (e, leading) no_more)

fixed_width-nonblank : (l : Line) → is_fixed_width l ≡ true → blank_line l ≡ false
unfolding is_fixed_width is_marked
fixed_width-nonblank l = nonblank l (is_marked 58) refl

is_some-none : (o : Option Found) → is_some o ≡ false → o ≡ none
unfolding is_some
is_some-none none h = refl
is_some-none (some f) h = absurd (true≢false h)

-- a line that a paragraph goes on with
pub paragraph-goes : (l : Line) (ls : List Line) → (blank_line l || is_some (first_of rules3to9 (l ∷ ls)) || is_item l) ≡ false
    → (blank_line l ≡ false) × Alone (l ∷ ls)
paragraph-goes l ls h =
    let o = is_some (first_of rules3to9 (l ∷ ls)) in
    let (n, s) = or_no (blank_line l) o (or_no (blank_line l || o) (is_item l) h).0 in
    (n, none-alone (l ∷ ls) (is_some-none (first_of rules3to9 (l ∷ ls)) s))

pub singles-paragraph : (ls : List Line) → Singles (paragraph_lines ls) ls
unfolding paragraph_lines
singles-paragraph [] = no_more
singles-paragraph (l ∷ ls) = cases (blank_line l || is_some (first_of rules3to9 (l ∷ ls)) || is_item l)
    (λ e. rw (e, paragraph_lines) no_more)
    (λ e. let (n, a) = paragraph-goes l ls e in rw (e, paragraph_lines) (one_more n a (singles-paragraph ls)))

-- ---- rule by rule

if-more : {P Q : Found → Type 0} → ((f : Found) → P f → Q f) → (o : Option Found) → If P o → If Q o
if-more h none k = tt
if-more h (some f) k = h f k

-- what the first option has, or where it has nothing the second, or a default
or-default : (P : Found → Type 0) (o u : Option Found) (d : Found) → If P o → (o ≡ none → P (get_or u d)) → P (get_or (or_else o u) d)
unfolding or_else
or-default P none u d h k = k refl
or-default P (some f) u d h k = h

or_else-twice : (o u v : Option Found) → or_else (or_else o u) v ≡ or_else o (or_else u v)
unfolding or_else
or_else-twice none u v = refl
or_else-twice (some f) u v = refl

module _ (w : ℕ) (l : Line) (ls : List Line) (e : blank_line l ≡ false) where
  abbrev all : List Line
  all = l ∷ ls

  abbrev P : Found → Type 0
  P = Steps w all

  -- rules 1 to 5
  early-steps : (pl : Place) → All (λ r. If P (r.finds all)) (take 5 (rules1to9 pl))
  early-steps pl = all_map (λ r. if-more (λ f. steps-together w l ls e f) (r.finds all)) (early-together pl all)

  -- rules 6 to 9, where those before them fail
  late-steps : (pl : Place) → Alone all → All (λ r. If P (r.finds all)) (drop 5 (rules1to9 pl))
  unfolding rules1to9 rules3to9 comment fixed_width horizontal_rule keyword line_and head_line tail_lines is_run
  late-steps pl a =
      all_cons {a = rule (word "#") comment} (if-when P (is_comment l) (found Kind.comment (line_and is_comment all) 0)
      (λ h. steps-run w l ls e _ refl (one_more e a (singles-leading is_comment comment-alone comment-nonblank ls))))
      (all_cons {a = rule (word ":") fixed_width} (if-when P (is_fixed_width l) (found Kind.fixed_width (line_and is_fixed_width all) 0)
      (λ h. steps-run w l ls e _ refl (one_more e a (singles-leading is_fixed_width fixed_width-alone fixed_width-nonblank ls))))
      (all_cons {a = rule (word "-") horizontal_rule} (if-when P _ (found Kind.horizontal_rule 1 0) (λ h. steps-one w l ls e _ a refl))
      (all_cons {a = rule (word "#") keyword} (if-when P _ (found Kind.keyword 1 0) (λ h. steps-one w l ls e _ a refl)) all_nil)))

  -- rule 10
  paragraph-steps : Alone all → P (paragraph all)
  unfolding paragraph tail_lines is_run
  paragraph-steps a = steps-run w l ls e (paragraph all) refl (one_more e a (singles-paragraph ls))

  pub element-steps : (pl : Place) → allows_rules pl ≡ true → P (element pl all)
  unfolding element by_rules head_line
  element-steps pl h =
      let early = first_of (take 5 (rules1to9 pl)) all in
      let late = first_of (drop 5 (rules1to9 pl)) all in
      let split_at = ap (λ (o : Option Found). or_else o (list all)) (first_of-split all 5 (rules1to9 pl)) ∙ or_else-twice early late (list all) in
      rw (h, element)
      (subst (λ o. P (get_or o (paragraph all))) (sym split_at)
      (or-default P early (or_else late (list all)) (paragraph all) (if-first P all (early-steps pl))
      (λ n. let a = early-alone pl all n in
      if-default P all (or_else late (list all)) (paragraph all)
      (if-else P all late (list all) (if-first P all (late-steps pl a)) (if-list P all (steps-list w l ls e)))
      (paragraph-steps a))))
