-- Where none of rules 3 to 5 holds, so that a line stands or falls by itself: at a planning line, and at a line of a comment, a fixed-width area or
-- an item, by the first bytes of its body. Where one of them holds, or rule 2, its lines are those that stand or fall with the first.
-- Assumes nothing.
use mathlib.Core.Path.{◌≡◌, refl, sym, ap, ◌∙◌}
use mathlib.Core.Bool.{Bool, true, false, not, ◌&&◌, and-false, true≢false, false≢true}
use mathlib.Core.List.{List, [], ◌∷◌, ◌++◌}
use mathlib.Core.Option.{Option, none, some}
use Prim.Native.Nat.{ℕ, ◌+◌}
use native.Mathlib.Omega.{arith}
use lib.Dec.{eqb}
use lib.ListN.{get_or, take, drop}
use borrow.Table.Steps.{cases}
use borrow.Author.Tests.{eqb-true}
use Rattle.text.specs.Bytes.{is_blank, lower, is_letter, is_digit, is_name_byte}
use Rattle.text.specs.Runs.{word, all, is_empty, same}
use Rattle.text.specs.Lines.{Line, body, head_line, tail_lines}
use Rattle.text.proofs.Laws.Bytes.{is_name_byte-letter}
use Rattle.text.proofs.Laws.Runs.{same_length}
use Rattle.dates.proofs.Laws.Reads.{empty-no}
use Rattle.rules.specs.Kind
use Rattle.rules.specs.Names.{ends_in, all_but_last, between_colons}
use Rattle.rules.specs.LineTests.{is_planning, is_properties_line, is_end_line, is_node_property, is_drawer_line, is_marked, is_comment, is_fixed_width}
use Rattle.rules.specs.Items.{is_sign, is_item}
use Rattle.rules.specs.Elements.{Found, found, LineRule, rule, properties_before, property_drawer, lines_before, block, drawer, table}
use Rattle.rules.specs.Elements.{first_of, rules3to9, rules3to5}
use Rattle.rules.specs.Lists.{together}
use Rattle.rules.specs.Findings.{is_in, wanting}
use Rattle.rules.specs.declared.place.Place.{Place}
use Rattle.rules.proofs.Basics.{and_yes, some-none, options}
use Rattle.rules.proofs.Laws.Bodies.{lower-eqb}
use Rattle.rules.proofs.Laws.FirstByte.{first_at}
use Rattle.rules.proofs.Laws.FirstOf.{or_else-none, first_of-split, none_wanted, wanting-none}
use Rattle.rules.proofs.Laws.ItemFirst.{starts_bullet, item-first}
use Rattle.rules.proofs.Laws.LineRules.{block-lawful, drawer-lawful, table-lawful, is_planning-other}
use Rattle.rules.proofs.Laws.Named.{blank-other, comment-first, comment-no-block}
use Rattle.rules.proofs.Laws.PropertyDrawers.{property_drawer-opens, property_drawer-test}
use Rattle.rules.proofs.Laws.Together.{together-some, three-none, three-only}

-- none of rules 3 to 5 holds
abbrev pub Alone : List Line → Type 0
Alone ls = first_of rules3to5 ls ≡ none

module _ (ls : List Line) where
  -- a body that starts with a byte which they do not want
  alone-byte : (f : ℕ → Bool) → none_wanted f rules3to5 ≡ true → f (get_or (body (head_line ls)) 0 0) ≡ true → Alone ls
  alone-byte f n h = let b = get_or (body (head_line ls)) 0 0 in three-none ls (lower b) refl (wanting-none f b h rules3to5 n)

  pub planning-alone : is_planning (head_line ls) ≡ true → Alone ls
  unfolding rules3to5 rules3to9 word all is_letter is_in lower
  planning-alone h = cases (is_in (first_at ls) (word "cds"))
      (alone-byte (λ b. is_in (lower b) (word "cds")) refl)
      (λ i. absurd (true≢false (sym h ∙ is_planning-other ls i)))

  pub comment-alone : is_comment (head_line ls) ≡ true → Alone ls
  unfolding wanting is_in rules3to5 rules3to9 word
  comment-alone h = three-only ls 35 (rule (word "#") block) refl (comment-first (head_line ls) h).first ∙ comment-no-block ls h

-- ---- a fixed-width area's line

marked-byte : (c b : ℕ) (x : List ℕ) → is_marked c (b ∷ x) ≡ true → b ≡ c
unfolding is_marked
marked-byte c b [] h = eqb-true b c h
marked-byte c b (d ∷ x) h = eqb-true b c (and_yes (eqb b c) (is_blank d) h).0

marked-blank : (c b d : ℕ) (x : List ℕ) → is_marked c (b ∷ d ∷ x) ≡ true → is_blank d ≡ true
unfolding is_marked
marked-blank c b d x h = (and_yes (eqb b c) (is_blank d) h).1

marked-first : (c : ℕ) (x : List ℕ) → is_marked c x ≡ true → get_or x 0 0 ≡ c
unfolding is_marked
marked-first c [] h = absurd (false≢true h)
marked-first c (b ∷ x) h = marked-byte c b x h

-- no name stands between its colons
marked-name : (x : List ℕ) → is_marked 58 x ≡ true → let y = between_colons x in (not (is_empty y) && all is_name_byte y) ≡ false
unfolding is_marked between_colons ends_in all_but_last is_empty all is_name_byte
marked-name [] h = refl
marked-name (b ∷ []) h = rw (and-false (eqb b 58), between_colons)
marked-name (b ∷ d ∷ []) h = cases (eqb b 58 && eqb d 58) (λ e. rw (e, between_colons)) (λ e. rw (e, between_colons))
marked-name (b ∷ d ∷ c ∷ x) h =
    let n = blank-other is_name_byte d refl refl refl (marked-blank 58 b d (c ∷ x) h) in
    cases (eqb b 58 && ends_in 58 (c ∷ x)) (λ e. rw (e, between_colons) (rw n)) (λ e. rw (e, between_colons))

pub fixed_width-alone : (ls : List Line) → is_fixed_width (head_line ls) ≡ true → Alone ls
unfolding is_fixed_width drawer is_drawer_line lower wanting is_in rules3to5 rules3to9 word
fixed_width-alone ls h =
    let y = body (head_line ls) in
    three-only ls 58 (rule (word ":") drawer) refl (ap lower (marked-first 58 y h)) ∙ rw (marked-name y h, drawer)

-- ---- an item's line

pub item-alone : (ls : List Line) → is_item (head_line ls) ≡ true → Alone ls
unfolding rules3to5 rules3to9 word all is_sign is_letter is_digit lower
item-alone ls h = alone-byte ls starts_bullet refl (item-first (head_line ls) h)

-- ---- where one of them holds

-- the rule that wants the byte b alone
module _ (ls : List Line) where
  together-rule : (b : ℕ) (r : LineRule) → r.wants ≡ b ∷ [] → wanting b rules3to5 ≡ r ∷ [] → (is_in (first_at ls) r.wants ≡ false → r.finds ls ≡ none)
      → (f : Found) → r.finds ls ≡ some f → together ls ≡ f.own
  unfolding is_in
  together-rule b r w only other f h = cases (eqb (first_at ls) b)
      (λ e. together-some ls f (three-only ls b r only (eqb-true (first_at ls) b e) ∙ h))
      (λ e. absurd (some-none f (sym h ∙ other (rw (w, e)))))

  pub together-block : (f : Found) → block ls ≡ some f → together ls ≡ f.own
  unfolding wanting is_in rules3to5 rules3to9 word
  together-block = together-rule 35 (rule (word "#") block) refl refl (block-lawful ls).other

  pub together-drawer : (f : Found) → drawer ls ≡ some f → together ls ≡ f.own
  unfolding wanting is_in rules3to5 rules3to9 word
  together-drawer = together-rule 58 (rule (word ":") drawer) refl refl (drawer-lawful ls).other

  pub together-table : (f : Found) → table ls ≡ some f → together ls ≡ f.own
  unfolding wanting is_in rules3to5 rules3to9 word
  together-table = together-rule 124 (rule (word "|") table) refl refl (table-lawful ls).other

-- ---- a property drawer is a drawer

same-cons : (b c : ℕ) (x y : List ℕ) → same (b ∷ x) (c ∷ y) ≡ true → (eqb (lower b) (lower c) ≡ true) × (same x y ≡ true)
unfolding same
same-cons b c x y h = and_yes _ _ h

-- a word between colons: the last colon, and what stands before it
same_ends : (x w : List ℕ) → same x (w ++ (58 ∷ [])) ≡ true → (ends_in 58 x ≡ true) × (same (all_but_last x) w ≡ true)
unfolding same ends_in all_but_last lower is_letter
same_ends [] [] h = absurd (false≢true h)
same_ends [] (c ∷ w) h = absurd (false≢true h)
same_ends (b ∷ []) [] h = (sym (lower-eqb b 58 refl) ∙ (same-cons b 58 [] [] h).0, refl)
same_ends (b ∷ d ∷ x) [] h = absurd (false≢true (same-cons b 58 (d ∷ x) [] h).1)
same_ends (b ∷ []) (c ∷ []) h = absurd (false≢true (same-cons b c [] (58 ∷ []) h).1)
same_ends (b ∷ []) (c ∷ a ∷ w) h = absurd (false≢true (same-cons b c [] (a ∷ (w ++ (58 ∷ []))) h).1)
same_ends (b ∷ d ∷ x) (c ∷ w) h =
    let i = same-cons b c (d ∷ x) (w ++ (58 ∷ [])) h in
    let j = same_ends (d ∷ x) w i.1 in
    (j.0, rw i.0 j.1)

-- letters, case ignored
same-letters : (x w : List ℕ) → same x w ≡ true → all is_letter w ≡ true → all is_name_byte x ≡ true
unfolding same all is_letter
same-letters [] w h n = refl
same-letters (b ∷ x) [] h n = absurd (false≢true h)
same-letters (b ∷ x) (c ∷ w) h n =
    let i = same-cons b c x w h in
    let k = and_yes _ _ n in
    let m : is_letter b ≡ true = rw (eqb-true (lower b) (lower c) i.0) k.0 in
    rw (is_name_byte-letter b m, same-letters x w i.1 k.1)

properties-name : (x : List ℕ) → same x (word ":properties:") ≡ true → let y = between_colons x in
    (is_empty y ≡ false) × (all is_name_byte y ≡ true) × (same y (word "end") ≡ false)
unfolding word between_colons all is_letter lower same
properties-name [] h = absurd (false≢true h)
properties-name (b ∷ x) h =
    let i = same-cons b 58 x (word "properties:") h in
    let (ends, name) = same_ends x (word "properties") i.1 in
    let n = same_length (all_but_last x) (word "properties") name in
    let e : (eqb b 58 && ends_in 58 x) ≡ true = rw (sym (lower-eqb b 58 refl) ∙ i.0, ends) in
    rw (e, between_colons) (
      empty-no (all_but_last x) (omega arith),
      same-letters (all_but_last x) (word "properties") name refl,
      cases (same (all_but_last x) (word "end")) (λ k. absurd (let z = same_length (all_but_last x) (word "end") k in omega arith)) (λ k. k),
    )

properties-drawer : (l : Line) → is_properties_line l ≡ true → is_drawer_line l ≡ true
unfolding is_properties_line is_drawer_line
properties-drawer l h = let (a, b, c) = properties-name (body l) h in rw (a, b, c)

-- its lines are a drawer's
properties-closer : (ls : List Line) (n : ℕ) → properties_before ls ≡ some n → lines_before (word ":end:") ls ≡ some n
unfolding properties_before lines_before is_end_line
properties-closer [] n h = absurd (some-none n (sym h))
properties-closer (l ∷ ls) n h = cases (same (body l) (word ":end:"))
    (λ e. rw (e, lines_before) (rw (e, properties_before) at h))
    (λ e. cases (is_node_property l)
    (λ d. let g = rw (e, d, properties_before) at h in
    options (properties_before ls)
    (λ k. absurd (some-none n (sym (rw k at g))))
    (λ m k. rw (e, lines_before) (rw (properties-closer ls m k) (rw k at g))))
    (λ d. absurd (some-none n (sym (rw (e, d, properties_before) at h)))))

pub together-properties : (pl : Place) (ls : List Line) (f : Found) → property_drawer pl ls ≡ some f → together ls ≡ f.own
unfolding property_drawer drawer
together-properties pl ls f h =
    let opens = properties-drawer (head_line ls) (property_drawer-opens pl ls f h) in
    let g = rw (property_drawer-test pl ls f h, property_drawer) at h in
    options (properties_before (tail_lines ls))
    (λ k. absurd (some-none f (sym (rw k at g))))
    (λ n k.
    let i : ◌≡◌ {A = Option Found} (some (found Kind.property_drawer (n + 2) 0)) (some f) = rw k at g in
    let own : n + 2 ≡ f.own = cc in
    together-drawer ls (found Kind.drawer (n + 2) 0) (rw (opens, drawer) (rw (properties-closer (tail_lines ls) n k))) ∙ own)

-- ---- where rules 3 to 9 fail

pub none-alone : (ls : List Line) → first_of rules3to9 ls ≡ none → Alone ls
unfolding rules3to5
none-alone ls h = (or_else-none (first_of (take 3 rules3to9) ls) (first_of (drop 3 rules3to9) ls) (sym (first_of-split ls 3 rules3to9) ∙ h)).0
