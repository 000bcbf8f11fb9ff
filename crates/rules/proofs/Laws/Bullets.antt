-- Laws of what the code finds on an item line, from byte p up to byte e: each part by its first byte, and what follows it on the line.
-- Assumes nothing.
use mathlib.Core.Path.{◌≡◌, refl, sym, ap, ◌∙◌}
use mathlib.Core.Bool.{Bool, true, false, not, false≢true}
use mathlib.Core.List.{List, [], ◌∷◌}
use mathlib.Core.Logic.{◌⊎◌, inl, inr, ⊎_elim}
use mathlib.Core.Option
use mathlib.Core.Option.{Option, none, some}
use Prim.Native.Nat.{ℕ, zero, suc, ◌+◌, ◌-◌, ◌≤◌, ◌<◌}
use native.Mathlib.Omega.{arith}
use lib.Dec.{ltb, leb}
use lib.ListN.{length, get_or, drop, length-drop, drop_of_length-le}
use lib.Seq.{drop-drop, drop-nil}
use borrow.Table.Steps.{cases}
use borrow.Author.Tests.{lt-ltb, le-ltb, ltb-true, ltb-false, leb-true, leb-false, ne_eqb}
use Rattle.std.specs.Option as Code
use Rattle.std.specs.declared.option.Option as Options
use Rattle.std.specs.declared.option.Option.TheVariants.{None, Some}
use Rattle.text.specs.Bytes.{is_newline, is_blank, is_indent, is_non_blank, is_letter, is_digit, lower}
use Rattle.text.specs.Runs.{run, after_run}
use Rattle.text.specs.Lines.{Line, indent}
use Rattle.text.specs.Parts.{part, lines_in, line_in}
use Rattle.text.proofs.Laws.Bytes.{lower-either, is_letter-below, is_digit-below}
use Rattle.text.proofs.Laws.Runs.{run-length-le, run-part-to, after_run-drop}
use Rattle.text.proofs.Laws.Parts.{part-drop}
use Rattle.text.proofs.Laws.Lines.{line, line-nil, line-newline, line_other, run-line}
use Rattle.text.proofs.Laws.LinesIn.{line_in-nil, line_in-cons, line_in-next, line_in-some, line_in-part, line_in-after_run, indent-part}
use Rattle.rules.specs.Items.{Part, after_byte, after_counter, is_ended, ended, and_then, after_all, is_sign, after_sign, is_mark, after_number}
use Rattle.rules.specs.Items.{or_then, after_bullet, is_item, list_detail, is_box_byte, after_set, after_box, past, item_text, item_start}
use Rattle.rules.specs.Bullets.{bullet_of, after_marks, marks_end, after_last}
use Rattle.rules.specs.Bullets.{left_at, OnLine, FoundOn, Leaves}
use Rattle.rules.specs.declared.item.Bullet.{Bullet}
use Rattle.rules.proofs.Basics.{options, All, all_nil, all_cons}
use Rattle.rules.proofs.Laws.Bodies.{line_in-first}
use Rattle.rules.proofs.Laws.Items.{after_bullet-less, after_marks-le}

-- ---- tests on bytes

module _ (b : ℕ) where
  pub is_sign-yes : (i : Bool) → (b ≡ 43) ⊎ (b ≡ 45) → is_sign i b ≡ true
  unfolding is_sign
  is_sign-yes i (inl e) = rw e
  is_sign-yes i (inr e) = rw e

  pub is_sign-star : (i : Bool) → b ≡ 42 → is_sign i b ≡ i
  unfolding is_sign
  is_sign-star true e = rw e
  is_sign-star false e = rw e

  pub is_sign-no : (i : Bool) → ((b ≡ 43) ⊎ (b ≡ 45) → ⊥) → (b ≡ 42 → ⊥) → is_sign i b ≡ false
  unfolding is_sign
  is_sign-no true h k = rw (ne_eqb b 45 (λ e. h (inr e)), ne_eqb b 43 (λ e. h (inl e)), ne_eqb b 42 k)
  is_sign-no false h k = rw (ne_eqb b 45 (λ e. h (inr e)), ne_eqb b 43 (λ e. h (inl e)))

  pub is_mark-yes : (b ≡ 41) ⊎ (b ≡ 46) → is_mark b ≡ true
  unfolding is_mark
  is_mark-yes (inl e) = rw e
  is_mark-yes (inr e) = rw e

  pub is_mark-no : ((b ≡ 41) ⊎ (b ≡ 46) → ⊥) → is_mark b ≡ false
  unfolding is_mark
  is_mark-no h = rw (ne_eqb b 46 (λ e. h (inr e)), ne_eqb b 41 (λ e. h (inl e)))

-- byte 10 is no sign
pub is_sign-newline : (i : Bool) → is_sign i 10 ≡ false
unfolding is_sign
is_sign-newline true = refl
is_sign-newline false = refl

-- nor does it stand in a check box
pub is_box_byte-newline : is_box_byte 10 ≡ false
unfolding is_box_byte is_blank lower
is_box_byte-newline = refl

pub is_box_byte-yes : (b : ℕ) → (b ≡ 9) ⊎ ((b ≡ 13) ⊎ ((b ≡ 32) ⊎ ((b ≡ 45) ⊎ ((b ≡ 88) ⊎ (b ≡ 120))))) → is_box_byte b ≡ true
unfolding is_box_byte is_blank lower
is_box_byte-yes b (inl e) = rw e
is_box_byte-yes b (inr (inl e)) = rw e
is_box_byte-yes b (inr (inr (inl e))) = rw e
is_box_byte-yes b (inr (inr (inr (inl e)))) = rw e
is_box_byte-yes b (inr (inr (inr (inr (inl e))))) = rw e
is_box_byte-yes b (inr (inr (inr (inr (inr e))))) = rw e

pub is_box_byte-no : (b : ℕ) → ((b ≡ 9) ⊎ ((b ≡ 13) ⊎ ((b ≡ 32) ⊎ ((b ≡ 45) ⊎ ((b ≡ 88) ⊎ (b ≡ 120))))) → ⊥) → is_box_byte b ≡ false
unfolding is_box_byte is_blank
is_box_byte-no b h =
    let x : lower b ≡ 120 → ⊥ =
    λ e. ⊎_elim (λ w. h (inr (inr (inr (inr (inr (sym w ∙ e))))))) (λ w. h (inr (inr (inr (inr (inl (omega arith))))))) (lower-either b)
    in
    rw (
      ne_eqb b 32 (λ e. h (inr (inr (inl e)))),
      ne_eqb b 9 (λ e. h (inl e)),
      ne_eqb b 13 (λ e. h (inr (inl e))),
      ne_eqb (lower b) 120 x,
      ne_eqb b 45 (λ e. h (inr (inr (inr (inl e))))),
    )

-- ---- bytes of a line

module _ (s : List ℕ) (p e : ℕ) where
  pub on_line-here : p ≤ e → OnLine s p e p
  on_line-here h = record { from = omega arith; to = h; end = refl }

  pub on_line-then : (q r : ℕ) → OnLine s p e q → OnLine s q e r → OnLine s p e r
  on_line-then q r h k = record { from = omega arith; to = k.to; end = k.end ∙ h.end }

  pub on_line-next : p < e → e ≤ length s → (get_or s p 0 ≡ 10 → ⊥) → OnLine s p e (p + 1)
  on_line-next h k n = record { from = omega arith; to = omega arith; end = omega (arith, line_in-next s p e h k n) }

  -- past a run that byte 10 ends
  module _ (f : ℕ → Bool) (n : f 10 ≡ false) (q : ℕ) (i : q ≡ p + length (run f (part s p e))) where
    pub after_run-line : after_run f (line_in s p e) ≡ line_in s q e
    after_run-line = line_in-after_run f n s p e ∙ ap (λ (k : ℕ). line_in s k e) (sym i)

    run_length : length (run f (line_in s p e)) ≡ length (run f (part s p e))
    unfolding line_in lines_in
    run_length = ap length (run-line f n (part s p e))

    pub on_line-run : p ≤ e → e ≤ length s → OnLine s p e q
    on_line-run h k =
        let l = line_in s p e in
        record {
          from = omega arith;
          to = run-part-to s p e f h k q i;
          end = omega (
            arith,
            run_length,
            run-length-le f l,
            ap length (sym (after_run-drop f l) ∙ after_run-line),
            length-drop (length (run f l)) l,
          );
        }

-- ---- one byte

module _ (s : List ℕ) (p e : ℕ) where
  pub byte-none : (f : ℕ → Bool) → e ≤ p → Leaves s p e (after_byte f) None
  unfolding after_byte
  byte-none f h = record { is = rw (line_in-nil s p e h); on = tt }

  pub ended-end : p ≤ e → e ≤ p → Leaves s p e ended (Some p)
  unfolding ended
  ended-end i h = record { is = rw (line_in-nil s p e h); on = on_line-here s p e i }

  pub counter-none : e ≤ p → Leaves s p e after_counter None
  unfolding after_counter
  counter-none h = record { is = rw (line_in-nil s p e h); on = tt }

  module _ (h : p < e) (k : e ≤ length s) where
    abbrev byte : ℕ
    byte = get_or s p 0

    not-newline : (f : ℕ → Bool) → f 10 ≡ false → f byte ≡ true → (byte ≡ 10 → ⊥)
    not-newline f n y t = false≢true (sym n ∙ (rw t at y))

    pub byte-no : (f : ℕ → Bool) → f byte ≡ false → Leaves s p e (after_byte f) None
    unfolding after_byte
    byte-no f n = record { is = ap (after_byte f) (line_in-first s p e h k) ∙ rw (n, after_byte); on = tt }

    pub byte-yes : (f : ℕ → Bool) → f 10 ≡ false → f byte ≡ true → Leaves s p e (after_byte f) (Some (p + 1))
    unfolding after_byte
    byte-yes f n y =
        let i = not-newline f n y in
        record { is = ap (after_byte f) (line_in-cons s p e h k i) ∙ rw (y, after_byte); on = on_line-next s p e h k i }

    is_ended-first : is_ended (line_in s p e) ≡ not (is_non_blank byte)
    unfolding is_ended
    is_ended-first = ap is_ended (line_in-first s p e h k)

    pub ended-no : is_non_blank byte ≡ true → Leaves s p e ended None
    unfolding ended
    ended-no n = record { is = rw (is_ended-first ∙ ap not n, ended); on = tt }

    pub ended-yes : is_non_blank byte ≡ false → Leaves s p e ended (Some p)
    unfolding ended
    ended-yes n = record { is = rw (is_ended-first ∙ ap not n, ended); on = on_line-here s p e (omega arith) }

    pub counter-letter : is_letter byte ≡ true → Leaves s p e after_counter (Some (p + 1))
    unfolding after_counter is_letter lower
    counter-letter y =
        let i = not-newline is_letter refl y in
        record { is = ap after_counter (line_in-cons s p e h k i) ∙ rw (y, after_counter); on = on_line-next s p e h k i }

    pub counter-other : is_letter byte ≡ false → is_digit byte ≡ false → Leaves s p e after_counter None
    unfolding after_counter
    counter-other n m = record { is = ap after_counter (line_in-first s p e h k) ∙ rw (n, m, after_counter); on = tt }

    pub counter-digits : is_letter byte ≡ false → is_digit byte ≡ true → (q : ℕ) → q ≡ p + 1 + length (run is_digit (part s (p + 1) e))
        → Leaves s p e after_counter (Some q)
    unfolding after_counter is_digit
    counter-digits n y q i =
        let j = not-newline is_digit refl y in
        record {
          is = ap after_counter (line_in-cons s p e h k j) ∙ rw (n, y, after_counter) (ap some (after_run-line s (p + 1) e is_digit refl q i));
          on = on_line-then s p e (p + 1) q (on_line-next s p e h k j) (on_line-run s (p + 1) e is_digit refl q i (omega arith) k);
        }

-- ---- parts one after another

module _ (s : List ℕ) (p e : ℕ) where
  found-then : (q : ℕ) (r : Options.Option ℕ) → OnLine s p e q → FoundOn s q e r → FoundOn s p e r
  found-then q None h k = tt
  found-then q (Some r) h k = on_line-then s p e q r h k

  module _ (f : Part) where
    pub leaves_none : (fs : List Part) → Leaves s p e f None → Leaves s p e (after_all (f ∷ fs)) None
    unfolding after_all
    leaves_none fs h = record { is = rw h.is; on = tt }

    pub leaves-then : (fs : List Part) (q : ℕ) (r : Options.Option ℕ) → Leaves s p e f (Some q) → Leaves s q e (after_all fs) r → Leaves s p e (after_all (f ∷ fs)) r
    unfolding after_all
    leaves-then fs q r h k = record { is = rw h.is k.is; on = found-then q r h.on k.on }

    pub leaves_last : (r : Options.Option ℕ) → Leaves s p e f r → Leaves s p e (after_all (f ∷ [])) r
    unfolding after_all
    leaves_last None h = record { is = rw h.is; on = tt }
    leaves_last (Some q) h = record { is = rw h.is; on = h.on }

-- ---- past a part and the blank bytes after it

module _ (s : List ℕ) (p e : ℕ) (h : p ≤ e) (k : e ≤ length s) (f : Part) where
  pub stay-on : (r : Options.Option ℕ) → Leaves s p e f r → OnLine s p e (Code.unwrap_or r p)
  stay-on None g = on_line-here s p e h
  stay-on (Some a) g = g.on

  stay-is : (r : Options.Option ℕ) → Leaves s p e f r → Option.get_or (f (line_in s p e)) (line_in s p e) ≡ line_in s (Code.unwrap_or r p) e
  stay-is None g = rw g.is
  stay-is (Some a) g = rw g.is

  module _ (r : Options.Option ℕ) (g : Leaves s p e f r) (a : ℕ) (j : a ≡ Code.unwrap_or r p) where
    pub stay-to : a ≤ e
    stay-to = rw j (stay-on r g).to

    pub past-line : (q : ℕ) → q ≡ a + length (run is_blank (part s a e)) → (past f (line_in s p e) ≡ line_in s q e) × OnLine s p e q
    unfolding past is_blank
    past-line q i =
        let o : OnLine s p e a = rw j (stay-on r g) in
        let x : Option.get_or (f (line_in s p e)) (line_in s p e) ≡ line_in s a e = rw j (stay-is r g) in
        (ap (after_run is_blank) x ∙ after_run-line s a e is_blank refl q i, on_line-then s p e a q o (on_line-run s a e is_blank refl q i stay-to k))

-- the marks after a bullet
pub marks_line : (s : List ℕ) (p e a b q : ℕ) → OnLine s p e a → after_run is_blank (line_in s p e) ≡ line_in s a e
    → (past after_set (line_in s a e) ≡ line_in s b e) × OnLine s a e b
    → (past after_box (line_in s b e) ≡ line_in s q e) × OnLine s b e q
    → q ≡ marks_end p (line_in s p e)
unfolding marks_end after_marks
marks_line s p e a b q h i set box =
    let left : past after_box (past after_set (after_run is_blank (line_in s p e))) ≡ line_in s q e = rw (i, set.0) box.0 in
    rw left (omega (arith, h.end, set.1.end, box.1.end))

-- ---- bullets

module _ (p : ℕ) (l : Line) where
  abbrev text : List ℕ
  text = after_run is_indent l

  abbrev sign : Option (List ℕ)
  sign = after_sign (ltb 0 (indent l)) text

  bullet_of-sign : (y : List ℕ) → sign ≡ some y → bullet_of p l ≡ Some (record { numbered = false; end = p + (length l - length y) })
  unfolding bullet_of
  bullet_of-sign y h = rw (h, bullet_of)

  bullet_of-number : (y : List ℕ) → sign ≡ none → after_number text ≡ some y → bullet_of p l ≡ Some (record { numbered = true; end = p + (length l - length y) })
  unfolding bullet_of
  bullet_of-number y h k = rw (h, k, bullet_of)

  bullet_of-nothing : sign ≡ none → after_number text ≡ none → bullet_of p l ≡ None
  unfolding bullet_of
  bullet_of-nothing h k = rw (h, k, bullet_of)

-- of the line at byte p, whose body starts at byte b
module _ (s : List ℕ) (p e b : ℕ) (h : b ≡ p + indent (line_in s p e)) (i : p ≤ e) (k : e ≤ length s) where
  abbrev whole : Line
  whole = line_in s p e

  body_run : b ≡ p + length (run is_indent (part s p e))
  body_run = h ∙ rw (indent-part s p e)

  pub body-on : OnLine s p e b
  unfolding is_indent
  body-on = on_line-run s p e is_indent refl b body_run i k

  body_is : text p whole ≡ line_in s b e
  unfolding is_indent
  body_is = after_run-line s p e is_indent refl b body_run

  indented : ltb 0 (indent whole) ≡ ltb p b
  indented = cases (ltb p b)
      (λ t. let j = ltb-true p b t in rw t (lt-ltb 0 (indent whole) (omega arith)))
      (λ t. let j = ltb-false p b t in rw t (le-ltb 0 (indent whole) (omega arith)))

  sign-is : (r : Options.Option ℕ) → Leaves s b e (after_last (is_sign (ltb p b))) r → sign p whole ≡ left_at s e r
  unfolding after_sign
  sign-is r g = rw (indented, body_is) g.is

  number_is : (r : Options.Option ℕ) → Leaves s b e after_number r → after_number (text p whole) ≡ left_at s e r
  number_is r g = rw body_is g.is

  place : (q : ℕ) → OnLine s b e q → q ≡ p + (length whole - length (line_in s q e))
  place q o = omega (arith, o.end, body-on.end, o.from, body-on.from)

  pub bullet-sign : (q : ℕ) → Leaves s b e (after_last (is_sign (ltb p b))) (Some q) → Some (record { numbered = false; end = q }) ≡ bullet_of p whole
  bullet-sign q g = ap (λ (k : ℕ). Some (record { numbered = false; end = k })) (place q g.on) ∙ sym (bullet_of-sign p whole _ (sign-is (Some q) g))

  pub bullet-number : (q : ℕ) → Leaves s b e (after_last (is_sign (ltb p b))) None → Leaves s b e after_number (Some q)
      → Some (record { numbered = true; end = q }) ≡ bullet_of p whole
  bullet-number q n g = ap (λ (k : ℕ). Some (record { numbered = true; end = k })) (place q g.on) ∙ sym (bullet_of-number p whole _ (sign-is None n) (number_is (Some q) g))

  pub bullet-nothing : Leaves s b e (after_last (is_sign (ltb p b))) None → Leaves s b e after_number None → None ≡ bullet_of p whole
  bullet-nothing n g = sym (bullet_of-nothing p whole (sign-is None n) (number_is None g))

-- ---- for callers: what the bullet found tells of the line

-- whether it is a number or letter: a list whose first item has one has detail 1, else 2
abbrev pub is_numbered : Options.Option Bullet → Bool
is_numbered None = false
is_numbered (Some b) = b.numbered

-- no line has both kinds of bullet
sign-number : (i : Bool) (x y : List ℕ) → after_sign i x ≡ some y → after_number x ≡ none
unfolding after_sign after_number after_all after_byte after_counter
sign-number i [] y h = refl
sign-number i (b ∷ x) y h = cases (ltb b 48)
    (λ t. let k = ltb-true b 48 t in rw (is_letter-below b (omega arith), is_digit-below b k, after_counter))
    (λ t. let k = ltb-false b 48 t in
    let n = is_sign-no b i (λ w. ⊎_elim (λ e. omega arith) (λ e. omega arith) w) (λ e. omega arith) in
    let z : none ≡ some y = rw (n, after_byte) at h in
    let w : ◌≡◌ {A = ℕ} 0 1 = cc in
    absurd (omega arith))

module _ (p : ℕ) (l : Line) where
  pub is_item-bullet : is_item l ≡ Code.is_some (bullet_of p l)
  unfolding is_item after_bullet or_then
  is_item-bullet = options (sign p l)
      (λ h. options (after_number (text p l))
      (λ k. rw (bullet_of-nothing p l h k, h, k))
      (λ y k. rw (bullet_of-number p l y h k, h, k)))
      (λ y h. rw (bullet_of-sign p l y h, h))

  pub list_detail-bullet : list_detail l ≡ elim (is_numbered (bullet_of p l)) [ true ↦ 1 | false ↦ 2 ]
  unfolding list_detail
  list_detail-bullet = options (sign p l)
      (λ h. options (after_number (text p l))
      (λ k. rw (bullet_of-nothing p l h k, k, list_detail))
      (λ y k. rw (bullet_of-number p l y h k, k, list_detail)))
      (λ y h. rw (bullet_of-sign p l y h, sign-number _ _ y h, list_detail))

  pub item-nothing : None ≡ bullet_of p l → is_item l ≡ false
  item-nothing h = is_item-bullet ∙ ap Code.is_some (sym h)

-- ---- what is left of some bytes is the end of them

record Tail (x y : List ℕ) : Type 0 where
  pub dropped : ℕ
  pub is : y ≡ drop dropped x

abbrev TailOf : List ℕ → Option (List ℕ) → Type 0
TailOf x none = Unit {0}
TailOf x (some y) = Tail x y

abbrev Tails : Part → Type 0
Tails f = (x : List ℕ) → TailOf x (f x)

tail_all : (x : List ℕ) → Tail x x
tail_all x = record { dropped = 0; is = refl }

tail-then : (x y : List ℕ) (o : Option (List ℕ)) → Tail x y → TailOf y o → TailOf x o
tail-then x y none h k = tt
tail-then x y (some z) h k =
    record { dropped = h.dropped + k.dropped; is = k.is ∙ ap (drop k.dropped) h.is ∙ drop-drop k.dropped h.dropped x }

tail-run : (f : ℕ → Bool) (x : List ℕ) → Tail x (after_run f x)
tail-run f x = record { dropped = length (run f x); is = after_run-drop f x }

tails-then : (x : List ℕ) (o : Option (List ℕ)) (g : Part) → TailOf x o → Tails g → TailOf x (and_then o g)
unfolding and_then
tails-then x none g h k = tt
tails-then x (some y) g h k = tail-then x y (g y) h (k y)

tails-all : {fs : List Part} → All Tails fs → Tails (after_all fs)
unfolding after_all
tails-all all_nil x = tail_all x
tails-all (all_cons {a = f} {x = fs} k ks) x = tails-then x (f x) (after_all fs) (k x) (tails-all ks)

tails-byte : (f : ℕ → Bool) → Tails (after_byte f)
unfolding after_byte
tails-byte f [] = tt
tails-byte f (b ∷ x) = cases (f b) (λ e. rw (e, after_byte) (record { dropped = 1; is = refl })) (λ e. rw (e, after_byte) tt)

tails-ended : Tails ended
unfolding ended
tails-ended x = cases (is_ended x) (λ e. rw (e, ended) (tail_all x)) (λ e. rw (e, ended) tt)

tails-counter : Tails after_counter
unfolding after_counter
tails-counter [] = tt
tails-counter (b ∷ x) = cases (is_letter b)
    (λ e. rw (e, after_counter) (record { dropped = 1; is = refl }))
    (λ e. cases (is_digit b)
    (λ d. rw (e, d, after_counter) (record { dropped = suc (length (run is_digit x)); is = after_run-drop is_digit x }))
    (λ d. rw (e, d, after_counter) tt))

tails-last : (f : ℕ → Bool) → All Tails (after_byte f ∷ ended ∷ [])
tails-last f = all_cons {a = after_byte f} (tails-byte f) (all_cons {a = ended} tails-ended all_nil)

tails-bullet : Tails after_bullet
unfolding after_bullet or_then after_sign after_number
tails-bullet l =
    let x = after_run is_indent l in
    let i = ltb 0 (indent l) in
    let a = tail-then l x (after_sign i x) (tail-run is_indent l) (tails-all (tails-last (is_sign i)) x) in
    let b = tail-then l x (after_number x) (tail-run is_indent l) (tails-all (all_cons {a = after_counter} tails-counter (tails-last is_mark)) x) in
    options (after_sign i x) (λ e. rw e b) (λ y e. rw e (rw e at a))

tail-length : (x y : List ℕ) → Tail x y → y ≡ drop (length x - length y) x
tail-length x y h =
    let n = h.dropped in
    let d = length-drop n x in
    let g = ap length h.is in
    cases (leb n (length x))
    (λ t. let i = leb-true n (length x) t in
    let m : n ≡ length x - length y = omega arith in
    h.is ∙ ap (λ (k : ℕ). drop k x) m)
    (λ t. let i = leb-false n (length x) t in
    h.is ∙ drop_of_length-le x {i = n} (omega arith) ∙ sym (drop_of_length-le x {i = length x - length y} (omega arith)))

-- the end of a line is a line
line-end : (k : ℕ) (t : List ℕ) → line (drop k (line t)) ≡ drop k (line t)
line-end k [] = rw (line-nil, drop-nil k) line-nil
line-end zero (b ∷ t) = cases (is_newline b)
    (λ h. rw (line-newline b t h) (line-newline b [] h))
    (λ h. rw (line_other b t h) (line_other b (line t) h ∙ ap (λ (l : Line). b ∷ l) (line-end 0 t)))
line-end (suc k) (b ∷ t) = cases (is_newline b)
    (λ h. rw (line-newline b t h, drop-nil k) line-nil)
    (λ h. rw (line_other b t h) (line-end k t))

-- what is left after a bullet, and where it starts
record After (p : ℕ) (l : Line) (q : ℕ) : Type 0 where
  pub left : List ℕ
  pub is : after_bullet l ≡ some left
  pub at : q ≡ p + (length l - length left)

bullet-after : (p : ℕ) (l : Line) (b : Bullet) → Some b ≡ bullet_of p l → After p l b.end
unfolding after_bullet or_then
bullet-after p l b e = options (sign p l)
    (λ h. options (after_number (text p l))
    (λ k. let z : Some b ≡ None = rw (bullet_of-nothing p l h k) at e in cc)
    (λ y k. let z = rw (bullet_of-number p l y h k) at e in
    let w : b ≡ record { numbered = true; end = p + (length l - length y) } = cc in
    record { left = y; is = rw (h, k); at = ap (λ (x : Bullet). x.end) w }))
    (λ y h. let z = rw (bullet_of-sign p l y h) at e in
    let w : b ≡ record { numbered = false; end = p + (length l - length y) } = cc in
    record { left = y; is = rw h; at = ap (λ (x : Bullet). x.end) w })

-- of the line at byte p, which ends at byte n, and whose bullet ends at byte q
module _ (s : List ℕ) (p e : ℕ) (h : p < e) (k : e ≤ length s) (n : ℕ) (j : n ≡ p + length (line_in s p e)) where
  abbrev item : Line
  item = line_in s p e

  -- what is left after it is the rest of the line
  rest-is : (q : ℕ) (y : List ℕ) → after_bullet item ≡ some y → q ≡ p + (length item - length y) → line_in s q n ≡ y
  unfolding line_in lines_in
  rest-is q y f a =
      let m = length item - length y in
      let d : y ≡ drop m item = tail-length item y (rw f at (tails-bullet item)) in
      let r : part s q n ≡ drop m item = rw (a, j) (sym (part-drop s m p (p + length item)) ∙ ap (drop m) (sym (line_in-part s p e))) in
      ap line r ∙ line-end m (part s p e) ∙ sym d

  module _ (b : Bullet) (i : Some b ≡ bullet_of p (line_in s p e)) where
    abbrev q : ℕ
    q = b.end

    pub bullet-order : (p < q) × (q ≤ n)
    bullet-order =
        let f = bullet-after p item b i in
        omega (arith, f.at, after_bullet-less item f.left f.is (line_in-some s p e h k))

    -- where what is left on the line starts
    pub start_is : (r : ℕ) → r ≡ marks_end q (line_in s q n) → r ≡ p + item_start item
    unfolding marks_end after_marks item_start item_text
    start_is r g =
        let f = bullet-after p item b i in
        let y = f.left in
        let t : item_text item ≡ after_marks y = rw (f.is, item_text) in
        g ∙ rw (rest-is q y f.is f.at, t) (omega (arith, f.at, after_bullet-less item y f.is (line_in-some s p e h k), after_marks-le y))
