-- Laws of the tests of titles, values and keys, in a part of a buffer.
use mathlib.Core.Path.{◌≡◌, refl}
use mathlib.Core.Bool.{true, false, ◌||◌}
use mathlib.Core.List.{List, [], ◌∷◌, ◌++◌}
use Prim.Native.Nat.{ℕ, ◌-◌, ◌≤◌, ◌<◌}
use lib.ListN.{length, get_or}
use lib.Seq.{take-length}
use Rattle.std.specs.List.{list_any}
use Rattle.text.specs.Bytes.{is_blank}
use Rattle.text.specs.Runs.{word, same}
use Rattle.text.specs.Parts.{part}
use Rattle.text.proofs.Laws.Parts.{part-nil, part-cons, part-last}
use Rattle.lookup.specs.Stages.{is_bad_key}
use Rattle.sheet.specs.Faults.{is_break, has_break, starts_blank, ends_blank, is_bad_text, is_bad_name}

-- ---- byte 10 or 13

pub has_break-any : (x : List ℕ) → list_any is_break x ≡ has_break x
unfolding has_break
has_break-any [] = refl
has_break-any (b ∷ x) = rw (has_break-any x)

-- ---- a blank byte at either end

ends_blank-snoc : (x : List ℕ) (b : ℕ) → ends_blank (x ++ (b ∷ [])) ≡ is_blank b
unfolding ends_blank
ends_blank-snoc [] b = refl
ends_blank-snoc (a ∷ []) b = refl
ends_blank-snoc (a ∷ c ∷ x) b = ends_blank-snoc (c ∷ x) b

module _ (x : List ℕ) (p e : ℕ) where
  pub bad_text-none : e ≤ p → is_bad_text (part x p e) ≡ false
  unfolding is_bad_text has_break starts_blank ends_blank
  bad_text-none h = rw (part-nil x p e h)

  pub bad_text-break : has_break (part x p e) ≡ true → is_bad_text (part x p e) ≡ true
  unfolding is_bad_text
  bad_text-break h = rw h

  module _ (h : p < e) (k : e ≤ length x) where
    starts_blank-part : starts_blank (part x p e) ≡ is_blank (get_or x p 0)
    unfolding starts_blank
    starts_blank-part = rw (part-cons x p e h k)

    ends_blank-part : ends_blank (part x p e) ≡ is_blank (get_or x (e - 1) 0)
    ends_blank-part = rw (part-last x p e h k) (ends_blank-snoc (part x p (e - 1)) (get_or x (e - 1) 0))

    pub bad_text-ends : has_break (part x p e) ≡ false → is_bad_text (part x p e) ≡ (is_blank (get_or x p 0) || is_blank (get_or x (e - 1) 0))
    unfolding is_bad_text
    bad_text-ends i = rw (i, starts_blank-part, ends_blank-part)

-- ---- a bad key, or `END`

pub bad_name-key : (k : List ℕ) → is_bad_key k ≡ true → is_bad_name k ≡ true
unfolding is_bad_name
bad_name-key k h = rw h

pub bad_name-end : (k : List ℕ) → is_bad_key k ≡ false → is_bad_name k ≡ same (part k 0 (length k)) (word "END")
unfolding is_bad_name part
bad_name-end k h = rw (h, take-length k)
