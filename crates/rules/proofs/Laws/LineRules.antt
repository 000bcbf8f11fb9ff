-- The laws of each of rules 1 to 9, one row a rule: it fails where the body's first byte is none that it wants, and what it finds is right.
-- Assumes nothing.
use mathlib.Core.Path.{◌≡◌, refl, ap}
use mathlib.Core.Bool.{Bool, true, false, ◌&&◌, and-false}
use mathlib.Core.List.{List, [], ◌∷◌, ◌++◌}
use mathlib.Core.Option.{Option, none, some, map, get_or}
use Prim.Native.Nat.{ℕ, suc, ◌+◌, ◌≤◌, ◌<◌}
use native.Mathlib.Omega.{arith}
use lib.Dec.{eqb}
use lib.ListN.{length, drop, length-drop}
use borrow.Table.Steps.{cases}
use Rattle.text.specs.Bytes.{lower}
use Rattle.text.specs.Runs.{word, is_empty, same}
use Rattle.text.proofs.Laws.Lines.{leading_le}
use Rattle.text.specs.Lines.{Line, body, head_line, tail_lines, leading}
use Rattle.dates.proofs.Laws.Planning.{planning-off}
use Rattle.rules.specs.Kind
use Rattle.rules.specs.Names.{number_in}
use Rattle.rules.specs.LineTests.{is_planning, is_properties_line, is_end_line, is_node_property, block_name, is_drawer_line}
use Rattle.rules.specs.LineTests.{is_row, is_formula, is_comment, is_fixed_width, is_hyphens, is_keyword}
use Rattle.rules.specs.declared.place.Place.{Place}
use Rattle.rules.specs.Places.{allows_properties}
use Rattle.rules.specs.Elements.{Found, found, LineRule, rule, when, planning, properties_before, property_drawer, lines_before}
use Rattle.rules.specs.Elements.{verbatim_names, greater_detail, block_of, block, drawer, line_and, row_lines, table, comment, fixed_width, horizontal_rule, keyword}
use Rattle.rules.specs.Elements.{first_of, rules3to9, rules1to9}
use Rattle.rules.specs.Kind.{Inner, wholeSpan, afterLine, lineBody, lines_between, propertyValue, keywordValue, rowsOnly, ownLines, itemLeft, inner_of}
use Rattle.std.specs.declared.option.Option as Options
use Rattle.std.specs.declared.option.Option.TheVariants.{None, Some}
use Rattle.rules.specs.declared.closer.Closer.{Closer}
use Rattle.rules.specs.Findings.{closer_at, is_in}
use Rattle.rules.proofs.Basics.{or_no, All, all_nil, all_cons, all_map}
use Rattle.rules.proofs.Laws.FirstByte.{first_at, begins-other, same-other, is_marked-other, between_colons-other, hyphens-other}

-- ---- what holds of something, if there is something

abbrev pub If : {A : Type 0} → (A → Type 0) → Option A → Type 0
If P none = Unit {0}
If P (some a) = P a

pub if-when : (P : Found → Type 0) (b : Bool) (f : Found) → (b ≡ true → P f) → If P (when b f)
unfolding when
if-when P true f h = h refl
if-when P false f h = tt

pub when-no : (b : Bool) (f : Found) → b ≡ false → when b f ≡ none
unfolding when
when-no b f h = rw (h, when)

module _ (P : Found → Type 0) (ls : List Line) where
  -- the first rule that holds is one of them
  pub if-first : {rs : List LineRule} → All (λ r. If P (r.finds ls)) rs → If P (first_of rs ls)
  unfolding first_of
  if-first all_nil = tt
  if-first (all_cons {a = r} {x = rs} h hs) = go (r.finds ls) h (if-first hs)
    where
      go : (o : Option Found) → If P o → If P (first_of rs ls) → If P (elim o [ none ↦ first_of rs ls | some f ↦ some f ])
      go none h k = k
      go (some f) h k = h

  pub if-default : (o : Option Found) (f : Found) → If P o → P f → P (get_or o f)
  if-default none f x y = y
  if-default (some g) f x y = x

-- ---- closers

-- a closer stands among n lines
abbrev pub Below : ℕ → Option ℕ → Type 0
Below n = If (λ m. m < n)

if-map : {A : Type 0} (P : A → Type 0) (n : ℕ) (g : ℕ → A) (o : Option ℕ) → Below n o → ((m : ℕ) → m < n → P (g m))
    → If P (map g o)
if-map P n g none k h = tt
if-map P n g (some m) k h = h m k

below_suc : (n : ℕ) (o : Option ℕ) → Below n o → Below (suc n) (map suc o)
below_suc n o k = if-map (λ m. m < suc n) n suc o k (λ m h. omega arith)

pub lines_before-below : (x : List ℕ) (ls : List Line) → Below (length ls) (lines_before x ls)
unfolding lines_before
lines_before-below x [] = tt
lines_before-below x (l ∷ ls) = cases (same (body l) x)
    (λ h. rw (h, lines_before) (omega arith))
    (λ h. rw (h, lines_before) (below_suc (length ls) (lines_before x ls) (lines_before-below x ls)))

pub properties_before-below : (ls : List Line) → Below (length ls) (properties_before ls)
unfolding properties_before
properties_before-below [] = tt
properties_before-below (l ∷ ls) = cases (is_end_line l)
    (λ h. rw (h, properties_before) (omega arith))
    (λ h. cases (is_node_property l)
    (λ i. rw (h, i, properties_before) (below_suc (length ls) (properties_before ls) (properties_before-below ls)))
    (λ i. rw (h, i, properties_before) tt))

-- so many lines stand before it
pub closer-count : (p : ℕ) (ls : List Line) (o : Option ℕ) → Below (length ls) o → (c : Closer) → Some c ≡ closer_at p ls o → c.before < length ls
unfolding closer_at
closer-count p ls none k c h = absurd (let z : ◌≡◌ {A = ℕ} 0 1 = cc in omega arith)
closer-count p ls (some m) k c h = let i : c.before ≡ m = ap (λ (o : Options.Option Closer). elim o [ Some d ↦ d.before | None ↦ 0 ]) h in omega arith

-- the first line and those after it
all-length : (ls : List Line) → length ls ≤ suc (length (tail_lines ls))
unfolding tail_lines
all-length [] = omega arith
all-length (l ∷ ls) = omega arith

tail-length : (ls : List Line) (n : ℕ) → n < length (tail_lines ls) → n + 2 ≤ length ls
unfolding tail_lines
tail-length [] n b = absurd (omega arith)
tail-length (l ∷ ls) n b = omega arith

-- an opener, some lines and a closer; the closer a line whose body is y
if-closed : (P : Found → Type 0) (ls : List Line) (g : ℕ → Found) (o : Option ℕ) → Below (length (tail_lines ls)) o
    → ((n : ℕ) → n + 2 ≤ length ls → P (g n)) → If P (map g o)
if-closed P ls g o k h = if-map P _ g o k (λ n b. h n (tail-length ls n b))

if-lines : (P : Found → Type 0) (ls : List Line) (g : ℕ → Found) (y : List ℕ) → ((n : ℕ) → n + 2 ≤ length ls → P (g n))
    → If P (map g (lines_before y (tail_lines ls)))
if-lines P ls g y = if-closed P ls g (lines_before y (tail_lines ls)) (lines_before-below y (tail_lines ls))

-- ---- what a rule finds

-- how many own lines an element has at least, by its inner span: an opener and a closer, the rows of a table
abbrev pub least_lines : Inner → List Line → ℕ
least_lines wholeSpan ls = 1
least_lines afterLine ls = 1
least_lines lineBody ls = 1
least_lines lines_between ls = 2
least_lines propertyValue ls = 1
least_lines keywordValue ls = 1
least_lines rowsOnly ls = row_lines ls
least_lines ownLines ls = 1
least_lines itemLeft ls = 1

-- a closer is one of the lines
abbrev pub Closed : Inner → List Line → ℕ → Type 0
Closed wholeSpan ls n = Unit {0}
Closed afterLine ls n = Unit {0}
Closed lineBody ls n = Unit {0}
Closed lines_between ls n = n ≤ length ls
Closed propertyValue ls n = Unit {0}
Closed keywordValue ls n = Unit {0}
Closed rowsOnly ls n = Unit {0}
Closed ownLines ls n = Unit {0}
Closed itemLeft ls n = Unit {0}

-- of every rule: an element of kind 4 to the last, with as many lines as its inner span asks, and no more than there are
pub record Fine (ls : List Line) (f : Found) : Type 0 where
  pub own : 1 ≤ f.own
  pub many : f.own ≤ suc (length (tail_lines ls))
  pub low : Kind.planning ≤ f.kind
  pub high : f.kind ≤ Kind.last_kind
  pub detail : f.detail ≤ 5
  pub least : least_lines (inner_of f.kind) ls ≤ f.own
  pub closed : Closed (inner_of f.kind) ls f.own

-- of rules 3 to 9: no planning line, no property drawer, no list, and a comment only where a comment line stands
pub record Later (ls : List Line) (f : Found) : Type 0 where
  pub fine : Fine ls f
  pub later : Kind.drawer ≤ f.kind
  pub earlier : f.kind ≤ Kind.keyword
  pub comment : f.kind ≡ Kind.comment → is_comment (head_line ls) ≡ true

number_in-le : (ws : List (List ℕ)) (n : ℕ) (x : List ℕ) → number_in ws (suc n) x ≤ n + length ws
unfolding number_in
number_in-le [] n x = omega arith
number_in-le (w ∷ ws) n x = cases (same x w)
    (λ h. rw (h, number_in) (omega arith))
    (λ h. rw (h, number_in) (omega (arith, number_in-le ws (suc n) x)))

greater_detail-le : (x : List ℕ) → greater_detail x ≤ 3
unfolding greater_detail
greater_detail-le x = cases (same x (word "quote"))
    (λ h. rw (h, greater_detail) (omega arith))
    (λ h. cases (same x (word "center")) (λ i. rw (h, i, greater_detail) (omega arith)) (λ i. rw (h, i, greater_detail) (omega arith)))

-- ---- the rules

-- a body that does not start with the one byte that a rule wants
one-other : (b c : ℕ) → is_in b (c ∷ []) ≡ false → eqb b c ≡ false
unfolding is_in
one-other b c h = (or_no _ _ h).0

pub record Lawful (ls : List Line) (r : LineRule) : Type 0 where
  pub other : is_in (first_at ls) r.wants ≡ false → r.finds ls ≡ none
  pub found : If (Later ls) (r.finds ls)

-- what holds of all that rules 3 to 9 find
pub lawful-found : (P : Found → Type 0) (ls : List Line) (r : LineRule) → ((f : Found) → Later ls f → P f) → Lawful ls r → If P (r.finds ls)
lawful-found P ls r h l = go (r.finds ls) l.found
  where
    go : (o : Option Found) → If (Later ls) o → If P o
    go none k = tt
    go (some f) k = h f k

module _ (ls : List Line) where
  abbrev x : List ℕ
  x = body (head_line ls)

  -- a planning line begins with a keyword
  pub is_planning-other : is_in (first_at ls) (word "cds") ≡ false → is_planning (head_line ls) ≡ false
  unfolding is_planning word is_empty lower is_in
  is_planning-other h =
      let c = or_no _ _ h in
      let d = or_no _ _ c.1 in
      let s = or_no _ _ d.1 in
      planning-off x (rw (
        begins-other (word "closed:") x refl c.0,
        begins-other (word "deadline:") x refl d.0,
        begins-other (word "scheduled:") x refl s.0,
      ))

  -- rules 1 and 2, by their place

  module _ (pl : Place) where
    planning-other : is_in (first_at ls) (word "cds") ≡ false → planning pl ls ≡ none
    unfolding planning
    planning-other h = when-no _ _ (rw (is_planning-other h, and-false))

    planning-fine : If (Fine ls) (planning pl ls)
    unfolding planning inner_of
    planning-fine = if-when (Fine ls) _ _ (λ e. omega arith)

    property_drawer-other : is_in (first_at ls) (word ":") ≡ false → property_drawer pl ls ≡ none
    unfolding property_drawer is_properties_line word is_empty lower
    property_drawer-other h =
        let n : (allows_properties pl && is_properties_line (head_line ls)) ≡ false =
        rw (same-other (word ":properties:") x refl (one-other _ 58 h), and-false) in
        rw (n, property_drawer)

    -- what holds of each property drawer holds of what rule 2 finds
    pub if-properties : (P : Found → Type 0) → ((n : ℕ) → n + 2 ≤ length ls → P (found Kind.property_drawer (n + 2) 0))
        → If P (property_drawer pl ls)
    unfolding property_drawer
    if-properties P h =
        let rest = tail_lines ls in
        let found_at : ℕ → Found = λ n. found Kind.property_drawer (n + 2) 0 in
        cases (allows_properties pl && is_properties_line (head_line ls))
        (λ e. rw (e, property_drawer) (if-closed P ls found_at (properties_before rest) (properties_before-below rest) h))
        (λ e. rw (e, property_drawer) tt)

  -- what a rule with a test finds
  when-found : (b : Bool) (k n : ℕ) → Fine ls (found k n 0) → (Kind.drawer ≤ k) × (k ≤ Kind.keyword)
      → (b ≡ true → k ≡ Kind.comment → is_comment (head_line ls) ≡ true) → If (Later ls) (when b (found k n 0))
  when-found b k n h i j = if-when (Later ls) b (found k n 0) (λ e. record { fine = h; later = i.0; earlier = i.1; comment = j e })

  -- rule 3

  -- a drawer or a block
  closed-later : (f : Found) → Fine ls f → (Kind.drawer ≤ f.kind) × (f.kind ≤ Kind.verbatim_block) → Later ls f
  closed-later f h i = record { fine = h; later = i.0; earlier = omega arith; comment = λ c. absurd (omega arith) }

  block_of-later : (name : List ℕ) (n : ℕ) → n + 2 ≤ length ls → Later ls (block_of name (n + 2))
  unfolding block_of inner_of verbatim_names
  block_of-later name n h = cases (eqb (number_in verbatim_names 1 name) 0)
      (λ e. rw (e, block_of) (closed-later _ (omega (arith, all-length ls, greater_detail-le name)) (omega arith)))
      (λ e. rw (e, block_of) (closed-later _ (omega (arith, all-length ls, number_in-le verbatim_names 0 name)) (omega arith)))

  pub block-lawful : Lawful ls (rule (word "#") block)
  unfolding block block_name word is_empty lower
  block-lawful =
      let name = block_name (head_line ls) in
      record {
        other = λ h. rw (begins-other (word "#+begin_") x refl (one-other _ 35 h), block_name, block);
        found = cases (is_empty name)
            (λ e. rw (e, block) tt)
            (λ e. rw (e, block) (if-lines (Later ls) ls (λ n. block_of name (n + 2)) (word "#+end_" ++ name) (block_of-later name)));
      }

  -- rule 4

  pub drawer-lawful : Lawful ls (rule (word ":") drawer)
  unfolding drawer is_drawer_line is_empty word inner_of
  drawer-lawful = record {
    other = λ h. rw (between_colons-other x (one-other _ 58 h), drawer);
    found = cases (is_drawer_line (head_line ls))
        (λ e. rw (e, drawer) (if-lines (Later ls) ls (λ n. found Kind.drawer (n + 2) 0) (word ":end:")
        (λ n h. closed-later _ (omega (arith, all-length ls)) (omega arith))))
        (λ e. rw (e, drawer) tt);
  }

  -- rules 5 to 9

  table-fine : Fine ls (found Kind.table (row_lines ls + leading is_formula (drop (row_lines ls) ls)) 0)
  unfolding row_lines line_and inner_of
  table-fine = omega (
    arith,
    all-length ls,
    leading_le is_row (tail_lines ls),
    leading_le is_formula (drop (row_lines ls) ls),
    length-drop (row_lines ls) ls,
  )

  pub table-lawful : Lawful ls (rule (word "|") table)
  unfolding table is_row row_lines line_and word is_empty lower inner_of
  table-lawful = record {
    other = λ h. when-no _ _ (begins-other (word "|") x refl (one-other _ 124 h));
    found = when-found (is_row (head_line ls)) Kind.table (row_lines ls + leading is_formula (drop (row_lines ls) ls)) table-fine (omega arith)
        (λ e c. absurd (omega arith));
  }

  comment-lawful : Lawful ls (rule (word "#") comment)
  unfolding comment is_comment line_and word lower inner_of
  comment-lawful = record {
    other = λ h. when-no _ _ (is_marked-other 35 x (one-other _ 35 h));
    found = when-found (is_comment (head_line ls)) Kind.comment (line_and is_comment ls) (omega (arith, leading_le is_comment (tail_lines ls))) (omega arith) (λ e c. e);
  }

  fixed_width-lawful : Lawful ls (rule (word ":") fixed_width)
  unfolding fixed_width is_fixed_width line_and word lower inner_of
  fixed_width-lawful = record {
    other = λ h. when-no _ _ (is_marked-other 58 x (one-other _ 58 h));
    found = when-found (is_fixed_width (head_line ls)) Kind.fixed_width (line_and is_fixed_width ls) (omega (arith, leading_le is_fixed_width (tail_lines ls))) (omega arith) (λ e c. absurd (omega arith));
  }

  horizontal_rule-lawful : Lawful ls (rule (word "-") horizontal_rule)
  unfolding horizontal_rule is_hyphens word inner_of
  horizontal_rule-lawful = record {
    other = λ h. when-no _ _ (hyphens-other x (one-other _ 45 h));
    found = when-found (is_hyphens (head_line ls)) Kind.horizontal_rule 1 (omega arith) (omega arith) (λ e c. absurd (omega arith));
  }

  keyword-lawful : Lawful ls (rule (word "#") keyword)
  unfolding keyword is_keyword word is_empty lower inner_of
  keyword-lawful = record {
    other = λ h. when-no (is_keyword (head_line ls)) _ (rw (begins-other (word "#+") x refl (one-other _ 35 h)));
    found = when-found (is_keyword (head_line ls)) Kind.keyword 1 (omega arith) (omega arith) (λ e c. absurd (omega arith));
  }

  pub lawful3to9 : All (Lawful ls) rules3to9
  unfolding rules3to9
  lawful3to9 =
      all_cons block-lawful
      (all_cons drawer-lawful
      (all_cons table-lawful
      (all_cons comment-lawful
      (all_cons fixed_width-lawful
      (all_cons horizontal_rule-lawful
      (all_cons keyword-lawful all_nil))))))

  -- a law of rules 1 and 2 and of each later one
  pub all1to9 : (P : LineRule → Type 0) (pl : Place) → P (rule (word "cds") (planning pl)) → P (rule (word ":") (property_drawer pl))
      → ((r : LineRule) → Lawful ls r → P r) → All P (rules1to9 pl)
  unfolding rules1to9
  all1to9 P pl h k f = all_cons h (all_cons k (all_map f lawful3to9))

  pub other1to9 : (pl : Place) → All (λ r. is_in (first_at ls) r.wants ≡ false → r.finds ls ≡ none) (rules1to9 pl)
  other1to9 pl = all1to9 _ pl (planning-other pl) (property_drawer-other pl) (λ r h. h.other)

  pub fine1to9 : (pl : Place) → All (λ r. If (Fine ls) (r.finds ls)) (rules1to9 pl)
  unfolding inner_of
  fine1to9 pl = all1to9 _ pl (planning-fine pl) (if-properties pl _ (λ n h. omega (arith, all-length ls))) (λ r. lawful-found (Fine ls) ls r (λ f h. h.fine))
