-- Laws of bytes and lines that say nothing of orders: bytes that pass a test, whole lines put one after another, lines in a part of a text, and a
-- value's bytes in its line.
use mathlib.Core.Path.{◌≡◌, refl, sym, ap, ◌∙◌}
use mathlib.Core.Bool.{Bool, true, false, not}
use mathlib.Core.List.{List, [], ◌∷◌, ◌++◌, append_assoc}
use Prim.Native.Nat.{ℕ, ◌+◌, ◌-◌, ◌≤◌}
use native.Mathlib.Omega.{arith}
use lib.Dec.{leb}
use lib.ListN.{length, take, drop, length-append, length-drop}
use lib.Seq.{drop-drop}
use borrow.Author.Tests.{not-true, leb-true, leb-false}
use borrow.Table.Steps.{cases}
use Rattle.text.specs.Bytes.{is_newline, is_blank}
use Rattle.text.specs.Runs.{all, run, after_run, cons_unless_end, trim_end}
use Rattle.text.specs.Lines.{Line, lines, size, head_line, leading, indent, body, body_end, value_start}
use Rattle.text.specs.Parts.{part, lines_in, line_in, next_line}
use Rattle.text.proofs.Laws.Runs.{after_run-drop}
use Rattle.text.proofs.Laws.Lines.{body_end-from, body_end-le}
use Rattle.text.proofs.Laws.LinesIn.{lines_in-drop, size-lines_in, line_in-to, body-part}
use Rattle.text.proofs.Laws.Parts.{part-nil, part-drop, part_length}
use Rattle.rules.proofs.Basics.{and_yes, All, all_cons}
use Rattle.sheet.specs.Sheet.{join}

-- ---- bytes that pass a test

module _ (f : ℕ → Bool) where
  pub all_append : (x y : List ℕ) → all f x ≡ true → all f y ≡ true → all f (x ++ y) ≡ true
  unfolding all
  all_append [] y h i = i
  all_append (b ∷ x) y h i = let (h0, h1) = and_yes (f b) (all f x) h in rw h0 (all_append x y h1 i)

  pub all-wider : (g : ℕ → Bool) → ((b : ℕ) → f b ≡ true → g b ≡ true) → (x : List ℕ) → all f x ≡ true → all g x ≡ true
  unfolding all
  all-wider g w [] h = refl
  all-wider g w (b ∷ x) h = let (h0, h1) = and_yes (f b) (all f x) h in rw (w b h0) (all-wider g w x h1)

  pub run-append : (x y : List ℕ) → all f x ≡ true → run f (x ++ y) ≡ x ++ run f y
  unfolding run all
  run-append [] y h = refl
  run-append (b ∷ x) y h = let (h0, h1) = and_yes (f b) (all f x) h in rw (h0, run) (ap (λ (z : List ℕ). b ∷ z) (run-append x y h1))

-- ---- bytes with nothing to trim at their end

pub trim_end-append : (x : List ℕ) (b : ℕ) (y : List ℕ) → trim_end (b ∷ y) ≡ b ∷ y → trim_end (x ++ (b ∷ y)) ≡ x ++ (b ∷ y)
unfolding trim_end
trim_end-append [] b y h = h
trim_end-append (a ∷ []) b y h = ap (cons_unless_end a) h
trim_end-append (a ∷ c ∷ x) b y h = ap (cons_unless_end a) (trim_end-append (c ∷ x) b y h)

-- ---- whole lines: a byte 10 at the end, and none before

abbrev pub NoNewline : List ℕ → Type 0
NoNewline x = all (λ b. not (is_newline b)) x ≡ true

pub record Whole (l : Line) : Type 0 where
  pub before : List ℕ
  pub plain : NoNewline before
  pub is : l ≡ before ++ (10 ∷ [])

lines-newline : (x t : List ℕ) → NoNewline x → lines (x ++ (10 ∷ t)) ≡ (x ++ (10 ∷ [])) ∷ lines t
unfolding lines is_newline all
lines-newline [] t h = refl
lines-newline (b ∷ x) t h =
    let (h0, h1) = and_yes (not (is_newline b)) _ h in
    rw (not-true (is_newline b) h0, lines) (rw (lines-newline x t h1))

lines_cons : (l : Line) (t : List ℕ) → Whole l → lines (l ++ t) ≡ l ∷ lines t
lines_cons l t w = rw (w.is, append_assoc w.before (10 ∷ []) t) (lines-newline w.before t w.plain)

pub lines_join : (ls : List Line) → All Whole ls → lines (join ls) ≡ ls
unfolding join lines
lines_join [] h = refl
lines_join (l ∷ ls) (all_cons w h) = lines_cons l (join ls) w ∙ ap (λ (x : List Line). l ∷ x) (lines_join ls h)

pub length-join : (ls : List Line) → length (join ls) ≡ size ls
unfolding join size
length-join [] = refl
length-join (l ∷ ls) = omega (arith, length-append l (join ls), length-join ls)

pub size-append : (ls ms : List Line) → size (ls ++ ms) ≡ size ls + size ms
unfolding size
size-append [] ms = omega arith
size-append (l ∷ ls) ms = omega (arith, size-append ls ms)

-- ---- lines in a part of a text

module _ (s : List ℕ) (p e : ℕ) (l : Line) (ls : List Line) (h : lines_in s p e ≡ l ∷ ls) where
  pub line_in-head : line_in s p e ≡ l
  unfolding line_in head_line
  line_in-head = rw h

  pub lines_in-tail : lines_in s (p + length l) e ≡ ls
  unfolding size
  lines_in-tail = let n : p + (length l + 0) ≡ p + length l = omega arith in rw (h, n) at (lines_in-drop s p e 1)

size-leading : (f : Line → Bool) (ls : List Line) → All (λ l. f l ≡ false) ls → size (take (leading (λ l. not (f l)) ls) ls) ≡ size ls
unfolding size leading
size-leading f [] h = refl
size-leading f (l ∷ ls) (all_cons n h) = rw (n, leading) (omega (arith, size-leading f ls h))

-- no line passes a test
pub next_line-end : (f : Line → Bool) (s : List ℕ) (p : ℕ) → p ≤ length s → All (λ l. f l ≡ false) (lines_in s p (length s)) → next_line f s p ≡ length s
unfolding next_line
next_line-end f s p h a = omega (arith, size-leading f (lines_in s p (length s)) a, size-lines_in s p (length s) h (omega arith))

-- the last bytes of a part
part-suffix : (s : List ℕ) (p e n : ℕ) → p ≤ e → e ≤ length s → let y = drop n (part s p e) in part s (e - length y) e ≡ y
part-suffix s p e n h k =
    let size = ap length (part-drop s n p e) ∙ part_length s (p + n) e k in
    cases (leb (p + n) e)
    (λ i. let q : e - length (drop n (part s p e)) ≡ p + n = omega (arith, leb-true (p + n) e i) in rw q (sym (part-drop s n p e)))
    (λ i. let j = leb-false (p + n) e i in
    part-nil s (e - length (drop n (part s p e))) e (omega arith) ∙ sym (part-drop s n p e ∙ part-nil s (p + n) e (omega arith)))

-- the bytes of a value, after a marker of m bytes
pub value-part : (s : List ℕ) (p e m : ℕ) → p ≤ e → e ≤ length s → let l = line_in s p e in
    part s (p + value_start m l) (p + body_end l) ≡ after_run is_blank (drop m (body l))
unfolding value_start
value-part s p e m h k =
    let l = line_in s p e in
    let x = drop m (body l) in
    let j = length (run is_blank x) in
    let y = drop (m + j) (part s (p + indent l) (p + body_end l)) in
    let value : after_run is_blank x ≡ y = after_run-drop is_blank x ∙ drop-drop j m (body l) ∙ ap (drop (m + j)) (body-part s p e) in
    let from : indent l ≤ body_end l = body_end-from l in
    let to : p + body_end l ≤ length s = omega (arith, body_end-le l, line_in-to s p e h k) in
    let short = length-drop (m + j) (part s (p + indent l) (p + body_end l)) in
    let q : p + (body_end l - length y) ≡ p + body_end l - length y = omega (arith, part_length s (p + indent l) (p + body_end l) to) in
    rw (value, q) (part-suffix s (p + indent l) (p + body_end l) (m + j) (omega arith) to)
