-- An item line that ends in byte 10 has that byte left after its bullet, counter set and check box: none of them has a byte 10.
-- Assumes nothing.
use mathlib.Core.Path.{◌≡◌, refl, sym, ap, ◌∙◌}
use mathlib.Core.Bool.{Bool, true, false, ◌||◌, true≢false, false≢true}
use mathlib.Core.List.{List, [], ◌∷◌}
use mathlib.Core.Option.{Option, none, some, get_or}
use Prim.Native.Nat.{ℕ, ◌+◌, ◌≤◌, ◌<◌}
use native.Mathlib.Omega.{arith}
use lib.Dec.{ltb}
use lib.ListN.{length}
use borrow.Table.Steps.{cases}
use borrow.Author.Tests.{eqb-true}
use Rattle.text.specs.Bytes.{is_newline, is_blank, is_indent, is_letter, is_digit, lower}
use Rattle.text.specs.Runs.{after_run}
use Rattle.text.specs.Lines.{Line, indent}
use Rattle.text.specs.Parts.{part, lines_in, line_in}
use Rattle.text.proofs.Laws.Lines.{line, line-newline, line_other}
use Rattle.text.proofs.Laws.Parts.{part_length}
use Rattle.rules.specs.Items.{Part, is_some, after_byte, after_counter, is_ended, ended, and_then, after_all, is_sign, after_sign, is_mark, after_number}
use Rattle.rules.specs.Items.{or_then, after_bullet, is_item, is_byte, after_set, is_box_byte, after_box, past, item_text, item_start}
use Rattle.rules.proofs.Basics.{options, All, all_nil, all_cons}

-- byte 10 is one of some bytes
has_newline : List ℕ → Bool
has_newline [] = false
has_newline (b ∷ x) = is_newline b || has_newline x

abbrev Ends : List ℕ → Type 0
Ends x = has_newline x ≡ true

-- a byte that passes a test which byte 10 does not pass
ends-past : (f : ℕ → Bool) → f 10 ≡ false → (b : ℕ) (x : List ℕ) → f b ≡ true → Ends (b ∷ x) → Ends x
unfolding has_newline is_newline
ends-past f n b x h e = cases (is_newline b)
    (λ i. absurd (true≢false (sym h ∙ ap f (eqb-true b 10 i) ∙ n)))
    (λ i. rw i at e)

ends-run : (f : ℕ → Bool) → f 10 ≡ false → (x : List ℕ) → Ends x → Ends (after_run f x)
unfolding has_newline after_run
ends-run f n [] e = e
ends-run f n (b ∷ x) e = cases (f b)
    (λ i. rw (i, after_run) (ends-run f n x (ends-past f n b x i e)))
    (λ i. rw (i, after_run) e)

-- ---- parts of a line keep it

abbrev Left : Option (List ℕ) → Type 0
Left none = Unit {0}
Left (some x) = Ends x

abbrev Keeps : Part → Type 0
Keeps f = (x : List ℕ) → Ends x → Left (f x)

keeps-byte : (f : ℕ → Bool) → f 10 ≡ false → Keeps (after_byte f)
unfolding after_byte
keeps-byte f n [] e = tt
keeps-byte f n (b ∷ x) e = cases (f b) (λ i. rw (i, after_byte) (ends-past f n b x i e)) (λ i. rw (i, after_byte) tt)

keeps-counter : Keeps after_counter
unfolding after_counter is_letter is_digit lower
keeps-counter [] e = tt
keeps-counter (b ∷ x) e = cases (is_letter b)
    (λ i. rw (i, after_counter) (ends-past is_letter refl b x i e))
    (λ i. cases (is_digit b)
    (λ j. rw (i, j, after_counter) (ends-run is_digit refl x (ends-past is_digit refl b x j e)))
    (λ j. rw (i, j, after_counter) tt))

keeps-ended : Keeps ended
unfolding ended
keeps-ended x e = cases (is_ended x) (λ i. rw (i, ended) e) (λ i. rw (i, ended) tt)

left-then : (o : Option (List ℕ)) (g : Part) → Left o → Keeps g → Left (and_then o g)
unfolding and_then
left-then none g h k = tt
left-then (some x) g h k = k x h

keeps-all : {fs : List Part} → All Keeps fs → Keeps (after_all fs)
unfolding after_all
keeps-all all_nil x e = e
keeps-all (all_cons {a = f} {x = fs} k ks) x e = left-then (f x) (after_all fs) (k x e) (keeps-all ks)

keeps-last : All Keeps (ended ∷ [])
keeps-last = all_cons {a = ended} keeps-ended all_nil

then-byte : (f : ℕ → Bool) → f 10 ≡ false → {fs : List Part} → All Keeps fs → All Keeps (after_byte f ∷ fs)
then-byte f n ks = all_cons {a = after_byte f} (keeps-byte f n) ks

then-counter : {fs : List Part} → All Keeps fs → All Keeps (after_counter ∷ fs)
then-counter ks = all_cons {a = after_counter} keeps-counter ks

keeps-sign : (i : Bool) → Keeps (after_sign i)
unfolding after_sign is_sign
keeps-sign true = keeps-all (then-byte (is_sign true) refl keeps-last)
keeps-sign false = keeps-all (then-byte (is_sign false) refl keeps-last)

keeps-number : Keeps after_number
unfolding after_number is_mark
keeps-number = keeps-all (then-counter (then-byte is_mark refl keeps-last))

keeps-set : Keeps after_set
unfolding after_set is_byte
keeps-set = keeps-all (then-byte (is_byte 91) refl (then-byte (is_byte 64) refl (then-counter (then-byte (is_byte 93) refl keeps-last))))

keeps-box : Keeps after_box
unfolding after_box is_byte is_box_byte is_blank lower
keeps-box = keeps-all (then-byte (is_byte 91) refl (then-byte is_box_byte refl (then-byte (is_byte 93) refl keeps-last)))

ends-past-part : (f : Part) → Keeps f → (x : List ℕ) → Ends x → Ends (past f x)
unfolding past is_blank
ends-past-part f k x e = ends-run is_blank refl (get_or (f x) x) (go (f x) (k x e))
  where
    go : (o : Option (List ℕ)) → Left o → Ends (get_or o x)
    go none h = e
    go (some y) h = h

-- ---- a line

left_or : (o u : Option (List ℕ)) → Left o → Left u → Left (or_then o u)
unfolding or_then
left_or none u h k = k
left_or (some x) u h k = h

module _ (l : Line) (e : Ends l) where
  left-bullet : Left (after_bullet l)
  unfolding after_bullet is_indent
  left-bullet =
      let x = after_run is_indent l in
      let k = ends-run is_indent refl l e in
      left_or (after_sign (ltb 0 (indent l)) x) (after_number x) (keeps-sign (ltb 0 (indent l)) x k) (keeps-number x k)

  ends-text : is_item l ≡ true → Ends (item_text l)
  unfolding is_item is_some item_text is_blank
  ends-text is =
      let k = left-bullet in
      options (after_bullet l)
      (λ i. absurd (false≢true (rw i at is)))
      (λ x i. let h = rw i at k in
      rw (i, item_text) (ends-past-part after_box keeps-box _ (ends-past-part after_set keeps-set _ (ends-run is_blank refl x h))))

ends_some : (x : List ℕ) → Ends x → 0 < length x
unfolding has_newline
ends_some [] e = absurd (false≢true e)
ends_some (b ∷ x) e = omega arith

-- a line that is not the last ends so
line-ends : (t : List ℕ) → length (line t) < length t → Ends (line t)
unfolding has_newline
line-ends [] h = absurd (omega arith)
line-ends (b ∷ t) h = cases (is_newline b)
    (λ i. rw (line-newline b t i) (rw i))
    (λ i. rw (line_other b t i) (rw i (line-ends t (omega (arith, ap length (line_other b t i))))))

pub item_start-left : (s : List ℕ) (p e : ℕ) → e ≤ length s → let l = line_in s p e in is_item l ≡ true → p + length l < e → item_start l < length l
unfolding item_start line_in lines_in
item_start-left s p e t is h =
    let l = line_in s p e in
    let k = line-ends (part s p e) (omega (arith, part_length s p e t)) in
    omega (arith, ends_some (item_text l) (ends-text l k is), ends_some l k)
