-- Rules given the first of some lines only: where the lines that stand or fall with the first are among them, each of rules 1 to 9 finds among them what
-- it finds among all, cut to them.
-- Assumes nothing.
use mathlib.Core.Path.{◌≡◌, refl, sym, ap, ◌∙◌}
use mathlib.Core.Bool.{Bool, true, false, ◌&&◌}
use mathlib.Core.List.{List, [], ◌∷◌, ◌++◌}
use mathlib.Core.Option.{Option, none, some, map, get_or, some-injective, map-eq-none_iff}
use Prim.Native.Nat.{ℕ, zero, suc, ◌+◌, ◌-◌, ◌≤◌, ◌<◌, min}
use native.Mathlib.Omega.{arith}
use lib.Dec.{eqb}
use lib.ListN.{take, drop}
use lib.Seq.{take-nil}
use borrow.Table.Steps.{cases}
use Rattle.text.specs.Runs.{word, is_empty, same}
use Rattle.text.specs.Lines.{Line, body, head_line, tail_lines, leading}
use Rattle.rules.specs.Kind
use Rattle.rules.specs.Items.{is_some}
use Rattle.rules.specs.LineTests.{is_properties_line, is_end_line, is_node_property, block_name, is_drawer_line, is_row, is_formula, is_comment, is_fixed_width}
use Rattle.rules.specs.Names.{number_in}
use Rattle.rules.specs.Places.{allows_properties}
use Rattle.rules.specs.Elements.{Found, found, LineRule, rule, when, planning, properties_before, property_drawer, lines_before, verbatim_names, block_of}
use Rattle.rules.specs.Elements.{block, drawer, line_and, row_lines, table, comment, fixed_width, horizontal_rule, keyword}
use Rattle.rules.specs.Elements.{first_of, rules3to9, rules1to9, rules3to5}
use Rattle.rules.specs.Lists.{together}
use Rattle.rules.specs.FirstRule.{or_else}
use Rattle.rules.specs.declared.place.Place.{Place}
use Rattle.rules.specs.declared.place.Place.TheVariants.{Elsewhere}
use Rattle.rules.proofs.Basics.{some-none, options, All, all_nil, all_cons, all_take, all_drop}
use Rattle.rules.proofs.Laws.Alone.{together-block, together-drawer, together-properties}
use Rattle.rules.proofs.Laws.Scans.{split}
use Rattle.rules.proofs.Laws.Together.{together-one, together-some}

-- ---- the first k lines

drop-take : (a k : ℕ) (z : List Line) → drop a (take k z) ≡ take (k - a) (drop a z)
drop-take zero k z = let e : k - 0 ≡ k = omega arith in rw e
drop-take (suc a) zero z = let e : 0 - suc a ≡ 0 = omega arith in rw e
drop-take (suc a) (suc k) [] = sym (take-nil (suc k - suc a))
drop-take (suc a) (suc k) (l ∷ z) = let e : suc k - suc a ≡ k - a = omega arith in rw e (drop-take a k z)

leading-take : (f : Line → Bool) (k : ℕ) (z : List Line) → leading f (take k z) ≡ min (leading f z) k
unfolding leading
leading-take f zero z = omega arith
leading-take f (suc k) [] = omega arith
leading-take f (suc k) (l ∷ z) = cases (f l)
    (λ e. rw (e, leading) (omega (arith, leading-take f k z)))
    (λ e. rw (e, leading) (omega arith))

-- ---- searches for a closer

-- what a line is to a search: the closer, one to pass, or one that ends it
data Sees (S : List Line → Option ℕ) (l : Line) : Type 0 where
  closes : ((ls : List Line) → S (l ∷ ls) ≡ some 0) → Sees S l
  passes : ((ls : List Line) → S (l ∷ ls) ≡ map suc (S ls)) → Sees S l
  fails : ((ls : List Line) → S (l ∷ ls) ≡ none) → Sees S l

record Search (S : List Line → Option ℕ) : Type 0 where
  nil : S [] ≡ none
  sees : (l : Line) → Sees S l

lines-search : (x : List ℕ) → Search (lines_before x)
unfolding lines_before
lines-search x = record {
  nil = refl;
  sees = λ l. cases (same (body l) x) (λ e. closes (λ ls. rw (e, lines_before))) (λ e. passes (λ ls. rw (e, lines_before)));
}

properties-search : Search properties_before
unfolding properties_before
properties-search = record {
  nil = refl;
  sees = λ l. cases (is_end_line l)
      (λ e. closes (λ ls. rw (e, properties_before)))
      (λ e. cases (is_node_property l) (λ d. passes (λ ls. rw (e, d, properties_before))) (λ d. fails (λ ls. rw (e, d, properties_before))));
}

module _ {S : List Line → Option ℕ} (search : Search S) where
  -- what stands among the first k lines is found there
  search-some : (k : ℕ) (z : List Line) (n : ℕ) → S z ≡ some n → n < k → S (take k z) ≡ some n
  search-some zero z n h i = absurd (omega arith)
  search-some (suc k) [] n h i = h
  search-some (suc k) (l ∷ z) n h i = go (search.sees l) (search-some k z)
    where
      go : Sees S l → ((m : ℕ) → S z ≡ some m → m < k → S (take k z) ≡ some m) → S (l ∷ take k z) ≡ some n
      go (closes c) later = c (take k z) ∙ sym (c z) ∙ h
      go (passes c) later = options (S z)
          (λ o. absurd (some-none n (sym h ∙ c z ∙ ap (map suc) o)))
          (λ m o. let j : suc m ≡ n = some-injective (suc m) n (sym (ap (map suc) o) ∙ sym (c z) ∙ h) in
          c (take k z) ∙ ap (map suc) (later m o (omega arith)) ∙ ap some j)
      go (fails c) later = absurd (some-none n (sym h ∙ c z))

  -- and nothing else is
  search-none : (k : ℕ) (z : List Line) → S z ≡ none → S (take k z) ≡ none
  search-none zero z h = search.nil
  search-none (suc k) [] h = h
  search-none (suc k) (l ∷ z) h = go (search.sees l) (search-none k z)
    where
      go : Sees S l → (S z ≡ none → S (take k z) ≡ none) → S (l ∷ take k z) ≡ none
      go (closes c) later = absurd (some-none 0 (sym (c z) ∙ h))
      go (passes c) later = c (take k z) ∙ ap (map suc) (later ((map-eq-none_iff suc (S z)).0 (sym (c z) ∙ h)))
      go (fails c) later = c (take k z)

-- ---- what a rule finds among all lines, and among the first k of them

pub record SameFound (k : ℕ) (f g : Found) : Type 0 where
  pub kind : g.kind ≡ f.kind
  pub detail : g.detail ≡ f.detail
  pub own : g.own ≡ min f.own k

pub data Agree (k : ℕ) : Option Found → Option Found → Type 0 where
  neither : Agree k none none
  both : {f g : Found} → SameFound k f g → Agree k (some f) (some g)

module _ {k : ℕ} where
  pub agree-is_some : {o u : Option Found} → Agree k o u → is_some u ≡ is_some o
  unfolding is_some
  agree-is_some neither = refl
  agree-is_some (both x) = refl

  pub agree-default : {o u : Option Found} (d d' : Found) → Agree k o u → (o ≡ none → SameFound k d d') → SameFound k (get_or o d) (get_or u d')
  agree-default d d' neither h = h refl
  agree-default d d' (both x) h = x

  pub agree-else : {o u o' u' : Option Found} → Agree k o u → Agree k o' u' → Agree k (or_else o o') (or_else u u')
  unfolding or_else
  agree-else neither h = h
  agree-else (both x) h = both x

  when-agree : (b : Bool) (f g : Found) → SameFound k f g → Agree k (when b f) (when b g)
  unfolding when
  when-agree true f g x = both x
  when-agree false f g x = neither

  -- the first rule that holds
  pub agree-first : {x y : List Line} {rs : List LineRule} → All (λ r. Agree k (r.finds x) (r.finds y)) rs → Agree k (first_of rs x) (first_of rs y)
  unfolding first_of
  agree-first all_nil = neither
  agree-first {x = x} {y = y} (all_cons {a = r} {x = rs} h hs) = go (r.finds x) (r.finds y) h (agree-first hs)
    where
      go : (o u : Option Found) → Agree k o u → Agree k (first_of rs x) (first_of rs y)
          → Agree k (elim o [ none ↦ first_of rs x | some f ↦ some f ]) (elim u [ none ↦ first_of rs y | some f ↦ some f ])
      go none none neither later = later
      go none (some g) a later = elim a [ ]
      go (some f) none a later = elim a [ ]
      go (some f) (some g) (both a) later = both a

-- ---- rule by rule, at a line l before the lines z, of which j are given

pub block_of-own : (x : List ℕ) (n : ℕ) → (block_of x n).own ≡ n
unfolding block_of
block_of-own x n = cases (eqb (number_in verbatim_names 1 x) 0) (λ e. rw (e, block_of)) (λ e. rw (e, block_of))

module _ (l : Line) (z : List Line) (j : ℕ) where
  abbrev x : List Line
  x = l ∷ z

  abbrev y : List Line
  y = l ∷ take j z

  abbrev k : ℕ
  k = suc j

  -- an opener, some lines and a closer, all given
  closed-agree : (g : ℕ → Found) → ((n : ℕ) → (g n).own ≡ n + 2) → {S : List Line → Option ℕ} → Search S
      → ((n : ℕ) → S z ≡ some n → n + 2 ≤ k) → Agree k (map g (S z)) (map g (S (take j z)))
  closed-agree g own {S} search h =
      options (S z)
      (λ o. rw (o, search-none search j z o) neither)
      (λ n o. rw (o, search-some search j z n o (omega (arith, h n o)))
      (both {f = g n} {g = g n} (record { kind = refl; detail = refl; own = omega (arith, own n, h n o) })))

  -- lines that stand or fall with the first, all given
  module _ (few : together x ≤ k) where
    block-agree : Agree k (block x) (block y)
    unfolding block head_line tail_lines
    block-agree =
        let name = block_name l in
        let g : ℕ → Found = λ n. block_of name (n + 2) in
        cases (is_empty name)
        (λ e. rw (e, block) neither)
        (λ e. rw (e, block)
        (closed-agree g (λ n. block_of-own name (n + 2)) (lines-search (word "#+end_" ++ name))
        (λ n o. omega (arith, together-block x (g n) (rw (e, block) (rw o)), block_of-own name (n + 2)))))

    drawer-agree : Agree k (drawer x) (drawer y)
    unfolding drawer head_line tail_lines
    drawer-agree =
        let g : ℕ → Found = λ n. found Kind.drawer (n + 2) 0 in
        cases (is_drawer_line l)
        (λ e. rw (e, drawer)
        (closed-agree g (λ n. refl) (lines-search (word ":end:")) (λ n o. omega (arith, together-drawer x (g n) (rw (e, drawer) (rw o))))))
        (λ e. rw (e, drawer) neither)

    properties-agree : (pl : Place) → Agree k (property_drawer pl x) (property_drawer pl y)
    unfolding property_drawer head_line tail_lines
    properties-agree pl =
        let g : ℕ → Found = λ n. found Kind.property_drawer (n + 2) 0 in
        cases (allows_properties pl && is_properties_line l)
        (λ e. rw (e, property_drawer)
        (closed-agree g (λ n. refl) properties-search (λ n o. omega (arith, together-properties pl x (g n) (rw (e, property_drawer) (rw o))))))
        (λ e. rw (e, property_drawer) neither)

  rows_same : row_lines y ≡ min (row_lines x) k
  unfolding row_lines line_and tail_lines
  rows_same = omega (arith, leading-take is_row j z)

  formulas-same : row_lines y + leading is_formula (drop (row_lines y) y) ≡ min (row_lines x + leading is_formula (drop (row_lines x) x)) k
  unfolding leading
  formulas-same =
      let a = row_lines x in
      split a k
      (λ i.
      let e : row_lines y ≡ a = omega (arith, rows_same) in
      rw (e, drop-take a k x) (omega (arith, leading-take is_formula (k - a) (drop a x))))
      (λ i.
      let e : row_lines y ≡ k = omega (arith, rows_same) in
      let none : k - k ≡ 0 = omega arith in
      rw (e, drop-take k k x, none) (omega arith))

  table-agree : Agree k (table x) (table y)
  unfolding table head_line
  table-agree = when-agree (is_row l) _ _ (record { kind = refl; detail = refl; own = formulas-same })

  run_agree : (f : Line → Bool) (n : ℕ) (b : Bool) → Agree k (when b (found n (line_and f x) 0)) (when b (found n (line_and f y) 0))
  unfolding line_and tail_lines
  run_agree f n b = when-agree b _ _ (record { kind = refl; detail = refl; own = omega (arith, leading-take f j z) })

  one-agree : (n : ℕ) (b : Bool) → Agree k (when b (found n 1 0)) (when b (found n 1 0))
  one-agree n b = when-agree b _ _ (record { kind = refl; detail = refl; own = omega arith })

  abbrev Agreeing : LineRule → Type 0
  Agreeing r = Agree k (r.finds x) (r.finds y)

  pub rules-agree : together x ≤ k → (pl : Place) → All Agreeing (rules1to9 pl)
  unfolding rules1to9 rules3to9 planning comment fixed_width horizontal_rule keyword head_line
  rules-agree few pl =
      all_cons {a = rule (word "cds") (planning pl)} (one-agree Kind.planning _)
      (all_cons {a = rule (word ":") (property_drawer pl)} (properties-agree few pl)
      (all_cons {a = rule (word "#") block} (block-agree few)
      (all_cons {a = rule (word ":") drawer} (drawer-agree few)
      (all_cons {a = rule (word "|") table} table-agree
      (all_cons {a = rule (word "#") comment} (run_agree is_comment Kind.comment (is_comment l))
      (all_cons {a = rule (word ":") fixed_width} (run_agree is_fixed_width Kind.fixed_width (is_fixed_width l))
      (all_cons {a = rule (word "-") horizontal_rule} (one-agree Kind.horizontal_rule _)
      (all_cons {a = rule (word "#") keyword} (one-agree Kind.keyword _) all_nil))))))))

  three-agree : together x ≤ k → Agree k (first_of rules3to5 x) (first_of rules3to5 y)
  unfolding rules1to9 rules3to5
  three-agree few = agree-first (all_take 3 (all_drop 2 (rules-agree few Elsewhere)))

  pub nine-agree : together x ≤ k → Agree k (first_of rules3to9 x) (first_of rules3to9 y)
  unfolding rules1to9
  nine-agree few = agree-first (all_drop 2 (rules-agree few Elsewhere))

  pub together-take : together x ≤ k → together y ≡ together x
  together-take few = go (first_of rules3to5 x) (first_of rules3to5 y) refl refl (three-agree few)
    where
      go : (o u : Option Found) → first_of rules3to5 x ≡ o → first_of rules3to5 y ≡ u → Agree k o u → together y ≡ together x
      go none none h i neither = together-one y i ∙ sym (together-one x h)
      go none (some g) h i a = elim a [ ]
      go (some f) none h i a = elim a [ ]
      go (some f) (some g) h i (both a) = omega (arith, together-some y g i, a.own, together-some x f h)
