-- How an item's line starts: with a sign, a digit and a digit or mark, or a letter and a mark. So its body does, and the line is not blank.
-- Assumes nothing.
use mathlib.Core.Path.{◌≡◌, refl, sym, ap, ◌∙◌}
use mathlib.Core.Bool.{Bool, true, false, ◌||◌, or-true, true≢false, false≢true}
use mathlib.Core.List.{List, [], ◌∷◌}
use mathlib.Core.Logic.{◌⊎◌, inl, inr}
use mathlib.Core.Option.{Option, none, some}
use Prim.Native.Nat.{ℕ, ◌+◌, ◌≤◌, ◌<◌}
use lib.Dec.{ltb, eqb}
use lib.ListN.{length, get_or}
use native.Mathlib.Omega.{arith}
use borrow.Table.Steps.{cases}
use borrow.Author.Tests.{eqb-true, eqb-false}
use Rattle.text.specs.Bytes.{is_indent, is_non_blank, lower, is_letter, is_digit}
use Rattle.text.specs.Runs.{after_run, trim_end}
use Rattle.text.specs.Lines.{Line, indent, blank_line, body}
use Rattle.text.specs.Parts.{line_in}
use Rattle.text.proofs.Basics.{on}
use Rattle.text.proofs.Laws.Bytes.{is_non_blank-yes, is_digit-below, is_digit-above}
use Rattle.text.proofs.Laws.LinesIn.{line_in-nil, line_in-one, line_in-cons, line_in-after_run, indent-part}
use Rattle.text.proofs.Laws.Lines.{blank_line-body}
use Rattle.text.proofs.Laws.Runs.{is_empty-nil}
use Rattle.rules.specs.Items.{Part, is_some, after_byte, after_counter, ended, and_then, after_all, is_sign, after_sign, is_mark, after_number, or_then}
use Rattle.rules.specs.Items.{after_bullet, is_item}
use Rattle.rules.proofs.Laws.Bodies.{cons_unless_end-cons, line_in-first}
use Rattle.rules.proofs.Laws.Bullets.{is_sign-no, is_mark-no}

pub data Shape : List ℕ → Type 0 where
  by_sign : {b : ℕ} {x : List ℕ} → is_sign true b ≡ true → Shape (b ∷ x)
  by-digit : {b c : ℕ} {x : List ℕ} → is_digit b ≡ true → is_digit c || is_mark c ≡ true → Shape (b ∷ c ∷ x)
  by-letter : {b c : ℕ} {x : List ℕ} → is_letter b ≡ true → is_mark c ≡ true → Shape (b ∷ c ∷ x)

-- ---- part by part

-- where parts one after another stand, the first does
then-none : (f : Part) (o : Option (List ℕ)) → is_some (and_then o f) ≡ true → o ≡ none → ⊥
unfolding is_some and_then
then-none f o h e = true≢false (sym (rw e at h))

either : {P : Type 0} (o u : Option (List ℕ)) → is_some (or_then o u) ≡ true → (is_some o ≡ true → P) → (is_some u ≡ true → P) → P
unfolding is_some or_then
either none u h f g = g h
either (some x) u h f g = f refl

sign-any : (i : Bool) (b : ℕ) → is_sign i b ≡ true → is_sign true b ≡ true
unfolding is_sign
sign-any true b h = h
sign-any false b h = cases (eqb b 45) (λ e. rw e) (λ e. cases (eqb b 43) (λ d. rw (e, d)) (λ d. absurd (false≢true (rw (e, d) at h))))

byte-none : (f : ℕ → Bool) (b : ℕ) (x : List ℕ) → f b ≡ false → after_byte f (b ∷ x) ≡ none
unfolding after_byte
byte-none f b x h = rw (h, after_byte)

sign-shape : (i : Bool) (x : List ℕ) → is_some (after_sign i x) ≡ true → Shape x
unfolding after_sign after_all after_byte
sign-shape i [] h = absurd (then-none (after_all (ended ∷ [])) none h refl)
sign-shape i (b ∷ x) h = cases (is_sign i b)
    (λ e. by_sign (sign-any i b e))
    (λ e. absurd (then-none (after_all (ended ∷ [])) (after_byte (is_sign i) (b ∷ x)) h (byte-none (is_sign i) b x e)))

-- a mark, and what ends a bullet
abbrev marked : List ℕ → Bool
marked x = is_some (after_all (after_byte is_mark ∷ ended ∷ []) x)

marked-nil : marked [] ≡ true → ⊥
unfolding after_all after_byte
marked-nil h = then-none (after_all (ended ∷ [])) none h refl

marked-first : (c : ℕ) (x : List ℕ) → marked (c ∷ x) ≡ true → is_mark c ≡ true
unfolding after_all
marked-first c x h = cases (is_mark c)
    (λ e. e)
    (λ e. absurd (then-none (after_all (ended ∷ [])) (after_byte is_mark (c ∷ x)) h (byte-none is_mark c x e)))

letter-shape : (b : ℕ) (x : List ℕ) → is_letter b ≡ true → marked x ≡ true → Shape (b ∷ x)
letter-shape b [] e h = absurd (marked-nil h)
letter-shape b (c ∷ x) e h = by-letter e (marked-first c x h)

digit-shape : (b : ℕ) (x : List ℕ) → is_digit b ≡ true → marked (after_run is_digit x) ≡ true → Shape (b ∷ x)
unfolding after_run
digit-shape b [] e h = absurd (marked-nil h)
digit-shape b (c ∷ x) e h = cases (is_digit c) (λ d. by-digit e (rw d)) (λ d. by-digit e (rw d (marked-first c x (rw (d, after_run) at h))))

number-shape : (x : List ℕ) → is_some (after_number x) ≡ true → Shape x
unfolding after_number after_all after_counter and_then
number-shape [] h = absurd (then-none (after_all (after_byte is_mark ∷ ended ∷ [])) none h refl)
number-shape (b ∷ x) h = cases (is_letter b)
    (λ e. letter-shape b x e (rw (e, after_counter) at h))
    (λ e. cases (is_digit b)
    (λ d. digit-shape b x d (rw (e, d, after_counter) at h))
    (λ d. absurd (then-none (after_all (after_byte is_mark ∷ ended ∷ [])) (after_counter (b ∷ x)) h (rw (e, d, after_counter)))))

pub item-shape : (l : Line) → is_item l ≡ true → Shape (after_run is_indent l)
unfolding is_item after_bullet
item-shape l h =
    let x = after_run is_indent l in
    either (after_sign (ltb 0 (indent l)) x) (after_number x) h (sign-shape (ltb 0 (indent l)) x) (number-shape x)

-- ---- the first byte

-- a byte that a bullet may start with
abbrev pub starts_bullet : ℕ → Bool
starts_bullet b = is_sign true b || is_letter b || is_digit b

pub starts-not : (b c : ℕ) → starts_bullet b ≡ true → starts_bullet c ≡ false → b ≡ c → ⊥
starts-not b c h n e = true≢false (sym h ∙ ap starts_bullet e ∙ n)

starts-nonblank : (b : ℕ) → starts_bullet b ≡ true → is_non_blank b ≡ true
unfolding is_sign is_letter is_digit lower
starts-nonblank b h = is_non_blank-yes b (starts-not b 9 h refl) (starts-not b 10 h refl) (starts-not b 13 h refl) (starts-not b 32 h refl)

trimmed-first : (b : ℕ) (x : List ℕ) → starts_bullet b ≡ true → starts_bullet (get_or (trim_end (b ∷ x)) 0 0) ≡ true
unfolding trim_end
trimmed-first b x h = rw (cons_unless_end-cons b (trim_end x) (starts-nonblank b h)) h

shape-first : (x : List ℕ) → Shape x → starts_bullet (get_or (trim_end x) 0 0) ≡ true
shape-first [] h = elim h [ ]
shape-first (b ∷ x) (by_sign h) = trimmed-first b x (rw h)
shape-first (b ∷ c ∷ x) (by-digit h i) = trimmed-first b (c ∷ x) (rw (h, or-true (is_sign true b || is_letter b)))
shape-first (b ∷ c ∷ x) (by-letter h i) = trimmed-first b (c ∷ x) (rw (h, or-true (is_sign true b)))

module _ (l : Line) (h : is_item l ≡ true) where
  pub item-first : starts_bullet (get_or (body l) 0 0) ≡ true
  unfolding body
  item-first = shape-first (after_run is_indent l) (item-shape l h)

  pub item-nonblank : blank_line l ≡ false
  unfolding is_sign is_letter is_digit lower
  item-nonblank = cases (blank_line l)
      (λ e. absurd (true≢false (sym item-first ∙ ap (λ (x : List ℕ). starts_bullet (get_or x 0 0)) (is_empty-nil (body l) (sym (blank_line-body l) ∙ e)))))
      (λ e. e)

-- ---- lines that are none, by the first two bytes after the indentation

-- a byte outside a range
abbrev pub Outside : ℕ → ℕ → ℕ → Type 0
Outside from to b = (to < b) ⊎ (b < from)

outside-not : (from to b c : ℕ) → Outside from to b → from ≤ c → c ≤ to → b ≡ c → ⊥
outside-not from to b c (inl h) i j e = omega arith
outside-not from to b c (inr h) i j e = omega arith

-- signs are in `*` to `-`
no_sign : (b : ℕ) → Outside 42 45 b → is_sign true b ≡ false
no_sign b h =
    let no = outside-not 42 45 b in
    is_sign-no b true (λ w. on w (no 43 h (omega arith) (omega arith)) (no 45 h (omega arith) (omega arith))) (no 42 h (omega arith) (omega arith))

-- digits and marks are in `)` to `9`
no-mark : (c : ℕ) → Outside 41 57 c → is_mark c ≡ false
no-mark c h =
    let no = outside-not 41 57 c in
    is_mark-no c (λ w. on w (no 41 h (omega arith) (omega arith)) (no 46 h (omega arith) (omega arith)))

no_digit : (c : ℕ) → Outside 41 57 c → is_digit c ≡ false
no_digit c (inl h) = is_digit-above c h
no_digit c (inr h) = is_digit-below c (omega arith)

no-shape : (x : List ℕ) → Outside 42 45 (get_or x 0 0) → Outside 41 57 (get_or x 1 0) → Shape x → ⊥
no-shape [] f n h = elim h [ ]
no-shape (b ∷ x) f n (by_sign h) = true≢false (sym h ∙ no_sign b f)
no-shape (b ∷ c ∷ x) f n (by-digit h i) = true≢false (sym i ∙ rw (no_digit c n) (no-mark c n))
no-shape (b ∷ c ∷ x) f n (by-letter h i) = true≢false (sym i ∙ no-mark c n)

no_item : (l : Line) → let x = after_run is_indent l in Outside 42 45 (get_or x 0 0) → Outside 41 57 (get_or x 1 0) → is_item l ≡ false
no_item l f n = cases (is_item l) (λ h. absurd (no-shape (after_run is_indent l) f n (item-shape l h))) (λ h. h)

-- ---- in a text, the line at byte p, whose body starts at byte b

module _ (s : List ℕ) (p e b : ℕ) (h : b ≡ p + indent (line_in s p e)) where
  after_is : after_run is_indent (line_in s p e) ≡ line_in s b e
  unfolding is_indent
  after_is = line_in-after_run is_indent refl s p e ∙ ap (λ (q : ℕ). line_in s q e) (sym (h ∙ ap (λ (n : ℕ). p + n) (indent-part s p e)))

  by-body : (x : List ℕ) → line_in s b e ≡ x → Outside 42 45 (get_or x 0 0) → Outside 41 57 (get_or x 1 0) → is_item (line_in s p e) ≡ false
  by-body x g f n = no_item (line_in s p e) (rw (after_is ∙ g) f) (rw (after_is ∙ g) n)

  pub item-no-body : e ≤ b → is_item (line_in s p e) ≡ false
  item-no-body i = by-body [] (line_in-nil s b e i) (inr (omega arith)) (inr (omega arith))

  module _ (i : b < e) (k : e ≤ length s) (f : Outside 42 45 (get_or s b 0)) where
    by-second : Outside 41 57 (get_or (line_in s (b + 1) e) 0 0) → is_item (line_in s p e) ≡ false
    by-second n = cases (eqb (get_or s b 0) 10)
        (λ g. by-body (10 ∷ []) (line_in-one s b e i k (eqb-true (get_or s b 0) 10 g)) (inr (omega arith)) (inr (omega arith)))
        (λ g. by-body (get_or s b 0 ∷ line_in s (b + 1) e) (line_in-cons s b e i k (eqb-false (get_or s b 0) 10 g)) f n)

    pub item-one-byte : e ≤ b + 1 → is_item (line_in s p e) ≡ false
    item-one-byte j = by-second (rw (line_in-nil s (b + 1) e j) (inr (omega arith)))

    pub item-two-bytes : b + 1 < e → Outside 41 57 (get_or s (b + 1) 0) → is_item (line_in s p e) ≡ false
    item-two-bytes j n = by-second (rw (line_in-first s (b + 1) e j k) n)
