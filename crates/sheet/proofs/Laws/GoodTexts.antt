-- What a good text and a good key are, test by test: neither holds a byte 10, and nothing is trimmed at a good text's end.
use mathlib.Core.Path.{◌≡◌, refl, ap}
use mathlib.Core.Bool.{true, false, not, ◌||◌}
use mathlib.Core.List.{List, [], ◌∷◌}
use Prim.Native.Nat.{ℕ}
use lib.Dec.{eqb, ltb}
use lib.ListN.{length}
use borrow.Author.Tests.{not-true, not-false}
use Rattle.text.specs.Limits.{key_limit}
use Rattle.text.specs.Bytes.{is_newline, is_blank, is_non_blank}
use Rattle.text.specs.Runs.{all, is_empty, cons_unless_end, trim_end}
use Rattle.rules.specs.Names.{ends_in}
use Rattle.rules.proofs.Basics.{or_no}
use Rattle.lookup.specs.Stages.{is_bad_key}
use Rattle.sheet.specs.Faults.{is_break, has_break, starts_blank, ends_blank, is_bad_text}
use Rattle.sheet.proofs.Laws.Lines.{NoNewline}

-- ---- a good text

pub record GoodText (x : List ℕ) : Type 0 where
  pub breaks : has_break x ≡ false
  pub starts : starts_blank x ≡ false
  pub ends : ends_blank x ≡ false

pub good-text : (x : List ℕ) → is_bad_text x ≡ false → GoodText x
unfolding is_bad_text
good-text x h =
    let (a0, a1) = or_no (has_break x || starts_blank x) (ends_blank x) h in
    let (b0, b1) = or_no (has_break x) (starts_blank x) a0 in
    record { breaks = b0; starts = b1; ends = a1 }

break-newline : (b : ℕ) → is_break b ≡ false → is_newline b ≡ false
unfolding is_break is_newline
break-newline b h = (or_no (eqb b 10) (eqb b 13) h).0

pub text-newline : (x : List ℕ) → has_break x ≡ false → NoNewline x
unfolding has_break all
text-newline [] h = refl
text-newline (b ∷ x) h = let (h0, h1) = or_no (is_break b) (has_break x) h in rw (break-newline b h0) (text-newline x h1)

-- nothing is trimmed at its end
pub text-trimmed : (x : List ℕ) → has_break x ≡ false → ends_blank x ≡ false → trim_end x ≡ x
unfolding has_break ends_blank trim_end is_non_blank
text-trimmed [] h i = refl
text-trimmed (b ∷ []) h i = rw (i, break-newline b (or_no (is_break b) false h).0, cons_unless_end)
text-trimmed (b ∷ c ∷ x) h i = ap (cons_unless_end b) (text-trimmed (c ∷ x) (or_no (is_break b) _ h).1 i)

-- ---- a good key

pub record GoodKey (k : List ℕ) : Type 0 where
  pub some : is_empty k ≡ false
  pub nonblank : all is_non_blank k ≡ true
  pub plus : ends_in 43 k ≡ false

pub good-key : (k : List ℕ) → is_bad_key k ≡ false → GoodKey k
unfolding is_bad_key
good-key k h =
    let blank = not (all is_non_blank k) in
    let (a0, a1) = or_no (is_empty k || ltb key_limit (length k) || blank) (ends_in 43 k) h in
    let (b0, b1) = or_no (is_empty k || ltb key_limit (length k)) blank a0 in
    record { some = (or_no (is_empty k) (ltb key_limit (length k)) b0).0; nonblank = not-false _ b1; plus = a1 }

pub nonblank-newline : (b : ℕ) → is_non_blank b ≡ true → not (is_newline b) ≡ true
unfolding is_non_blank
nonblank-newline b h = ap not (or_no (is_blank b) (is_newline b) (not-true _ h)).1
