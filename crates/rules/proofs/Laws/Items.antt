-- Laws of item lines: how wide their indentation is, and that what is left on one is shorter than the line.
-- Assumes nothing.
use mathlib.Core.Path.{◌≡◌, sym, ap, ◌∙◌}
use mathlib.Core.Bool.{Bool}
use mathlib.Core.List.{List, [], ◌∷◌}
use mathlib.Core.Option
use mathlib.Core.Option.{Option, none, some}
use Prim.Native.Nat.{ℕ, suc, ◌+◌, ◌-◌, ◌≤◌, ◌<◌}
use native.Mathlib.Omega.{arith}
use lib.Dec.{ltb}
use native.Mathlib.Numerals.{add-one}
use lib.ListN.{length, get_or, take, drop, drop_of_length-le}
use lib.Seq.{drop-cons}
use borrow.Table.Steps.{cases}
use borrow.Author.Tests.{eq-eqb, ne_eqb}
use Rattle.text.specs.Bytes.{is_blank, is_indent, is_letter, is_digit}
use Rattle.text.specs.Runs.{run, after_run}
use Rattle.text.specs.Lines.{Line, indent}
use Rattle.text.specs.Parts.{part, line_in}
use Rattle.text.proofs.Laws.Runs.{run_take}
use Rattle.text.proofs.Laws.Parts.{part-take}
use Rattle.text.proofs.Laws.Lines.{indent-le}
use Rattle.text.proofs.Laws.LinesIn.{line_in-part}
use Rattle.rules.specs.Items.{width_of, width, Part, after_byte, after_counter, is_ended, ended, and_then, after_all, is_sign, after_sign, is_mark}
use Rattle.rules.specs.Items.{after_number, or_then, after_bullet, is_byte, after_set, is_box_byte, after_box, past, item_text, item_start}
use Rattle.rules.specs.Bullets.{after_marks}
use Rattle.rules.proofs.Basics.{options, All, all_nil, all_cons}

-- ---- the width of indentation, byte by byte

module _ (x : List ℕ) (i : ℕ) where
  pub width_of-nil : length x ≤ i → width_of (drop i x) ≡ 0
  unfolding width_of
  width_of-nil h = rw (drop_of_length-le x {i = i} h)

  module _ (h : i < length x) where
    pub width_of-tab : get_or x i 0 ≡ 9 → width_of (drop i x) ≡ 8 + width_of (drop (i + 1) x)
    unfolding width_of
    width_of-tab t = rw (drop-cons x i 0 h, add-one) (rw (eq-eqb (get_or x i 0) 9 t, width_of))

    pub width_of-other : (get_or x i 0 ≡ 9 → ⊥) → width_of (drop i x) ≡ 1 + width_of (drop (i + 1) x)
    unfolding width_of
    width_of-other t = rw (drop-cons x i 0 h, add-one) (rw (ne_eqb (get_or x i 0) 9 t, width_of))

module _ (s : List ℕ) (p e : ℕ) where
  -- that of a line of the text, whose body starts at byte b
  pub width-part : (b : ℕ) → b ≡ p + indent (line_in s p e) → width (line_in s p e) ≡ width_of (part s p b)
  unfolding width indent
  width-part b h =
      let l = line_in s p e in
      let n = length (run is_indent l) in
      ap width_of (run_take is_indent l ∙ ap (take n) (line_in-part s p e)
      ∙ part-take s n p (p + length l) (omega (arith, indent-le l)) ∙ ap (part s p) (sym h))

-- ---- what is left, where something is, is no longer than n

abbrev Left : ℕ → Option (List ℕ) → Type 0
Left n none = Unit {0}
Left n (some x) = length x ≤ n

-- a part of a line leaves no more than it is given, and a part of a byte or more leaves less
abbrev Keeps : Part → Type 0
Keeps f = (n : ℕ) (x : List ℕ) → length x ≤ n → Left n (f x)

abbrev Takes : Part → Type 0
Takes f = (n : ℕ) (x : List ℕ) → length x ≤ suc n → Left n (f x)

left-then : (n : ℕ) (o : Option (List ℕ)) (g : Part) → Left n o → Keeps g → Left n (and_then o g)
unfolding and_then
left-then n none g h k = tt
left-then n (some x) g h k = k n x h

keeps-all : {fs : List Part} → All Keeps fs → Keeps (after_all fs)
unfolding after_all
keeps-all all_nil n x h = h
keeps-all (all_cons {a = f} {x = fs} k ks) n x h = left-then n (f x) (after_all fs) (k n x h) (keeps-all ks)

takes_all : (f : Part) (fs : List Part) → Takes f → All Keeps fs → Takes (after_all (f ∷ fs))
unfolding after_all
takes_all f fs t ks n x h = left-then n (f x) (after_all fs) (t n x h) (keeps-all ks)

after_run-le : (f : ℕ → Bool) (x : List ℕ) → length (after_run f x) ≤ length x
unfolding after_run
after_run-le f [] = omega arith
after_run-le f (b ∷ x) = cases (f b) (λ e. rw (e, after_run) (omega (arith, after_run-le f x))) (λ e. rw (e, after_run) (omega arith))

takes-byte : (f : ℕ → Bool) → Takes (after_byte f)
unfolding after_byte
takes-byte f n [] h = tt
takes-byte f n (b ∷ x) h = cases (f b) (λ e. rw (e, after_byte) (omega arith)) (λ e. rw (e, after_byte) tt)

takes-counter : Takes after_counter
unfolding after_counter
takes-counter n [] h = tt
takes-counter n (b ∷ x) h = cases (is_letter b)
    (λ e. rw (e, after_counter) (omega arith))
    (λ e. cases (is_digit b) (λ d. rw (e, d, after_counter) (omega (arith, after_run-le is_digit x))) (λ d. rw (e, d, after_counter) tt))

keeps-ended : Keeps ended
unfolding ended
keeps-ended n x h = cases (is_ended x) (λ e. rw (e, ended) h) (λ e. rw (e, ended) tt)

takes-sign : (i : Bool) → Takes (after_sign i)
unfolding after_sign
takes-sign i = takes_all (after_byte (is_sign i)) (ended ∷ []) (takes-byte (is_sign i)) (all_cons {a = ended} keeps-ended all_nil)

keeps-byte : (f : ℕ → Bool) {fs : List Part} → All Keeps fs → All Keeps (after_byte f ∷ fs)
keeps-byte f ks = all_cons {a = after_byte f} (λ n x h. takes-byte f n x (omega arith)) ks

keeps-last : All Keeps (ended ∷ [])
keeps-last = all_cons {a = ended} keeps-ended all_nil

takes-number : Takes after_number
unfolding after_number
takes-number = takes_all after_counter (after_byte is_mark ∷ ended ∷ []) takes-counter (keeps-byte is_mark keeps-last)

keeps-set : Keeps after_set
unfolding after_set
keeps-set =
    keeps-all (keeps-byte (is_byte 91) (keeps-byte (is_byte 64)
    (all_cons {a = after_counter} (λ n x h. takes-counter n x (omega arith)) (keeps-byte (is_byte 93) keeps-last))))

keeps-box : Keeps after_box
unfolding after_box
keeps-box = keeps-all (keeps-byte (is_byte 91) (keeps-byte is_box_byte (keeps-byte (is_byte 93) keeps-last)))

get_d_le : (n : ℕ) (o : Option (List ℕ)) (x : List ℕ) → Left n o → length x ≤ n → length (Option.get_or o x) ≤ n
get_d_le n none x h k = k
get_d_le n (some y) x h k = h

past-le : (f : Part) (n : ℕ) (x : List ℕ) → Keeps f → length x ≤ n → length (past f x) ≤ n
unfolding past
past-le f n x k h = omega (arith, after_run-le is_blank (Option.get_or (f x) x), get_d_le n (f x) x (k n x h) h)

pub after_marks-le : (x : List ℕ) → length (after_marks x) ≤ length x
unfolding after_marks
after_marks-le x =
    let y = after_run is_blank x in
    past-le after_box (length x) (past after_set y) keeps-box (past-le after_set (length x) y keeps-set (omega (arith, after_run-le is_blank x)))

left_or : (n : ℕ) (o u : Option (List ℕ)) → Left n o → Left n u → Left n (or_then o u)
unfolding or_then
left_or n none u h k = k
left_or n (some x) u h k = h

module _ (l : Line) where
  left-bullet : (n : ℕ) → length l ≤ suc n → Left n (after_bullet l)
  unfolding after_bullet
  left-bullet n h =
      let x = after_run is_indent l in
      let k : length x ≤ suc n = omega (arith, after_run-le is_indent l) in
      left_or n (after_sign (ltb 0 (indent l)) x) (after_number x) (takes-sign (ltb 0 (indent l)) n x k) (takes-number n x k)

  pub after_bullet-less : (x : List ℕ) → after_bullet l ≡ some x → 0 < length l → length x < length l
  after_bullet-less x e h = let k = rw e at (left-bullet (length l - 1) (omega arith)) in omega arith

  text-le : (n : ℕ) → length l ≤ suc n → length (item_text l) ≤ n
  unfolding item_text after_marks
  text-le n h =
      let k = left-bullet n h in
      options (after_bullet l)
      (λ e. rw (e, item_text) (omega arith))
      (λ x e. let i = rw e at k in rw (e, item_text) (omega (arith, after_marks-le x)))

  pub item_start-le : item_start l ≤ length l
  unfolding item_start
  item_start-le = omega arith

  pub item_start-some : 0 < length l → 0 < item_start l
  unfolding item_start
  item_start-some h = omega (arith, text-le (length l - 1) (omega arith))
