-- For what a state can say of the unfinished line, a line of which it is true: stars alone, a heading line, or any other.
-- Assumes nothing.
use mathlib.Core.Path.{◌≡◌, refl, ap, ◌∙◌}
use mathlib.Core.Bool.{true}
use mathlib.Core.List.{List, [], ◌∷◌, ◌++◌, append-nil}
use Prim.Native.Nat.{ℕ, zero, suc, ◌+◌, ◌-◌, ◌<◌}
use native.Mathlib.Omega.{arith}
use lib.ListN.{length, replicate, length-append, length-replicate}
use lib.Seq.{append_snoc}
use borrow.Author.Tests.{lt-ltb}
use Rattle.text.specs.Bytes.{is_non_blank, is_star, is_not}
use Rattle.text.specs.Runs.{all, run, cons_unless_end, trim_end}
use Rattle.text.specs.Lines.{Line}
use Rattle.text.proofs.Laws.Runs.{trim_end-blank}
use Rattle.rules.specs.Headings.{stars, is_heading}
use Rattle.stream.specs.State.{stars_so_far, title_so_far}
use Rattle.stream.proofs.Laws.Bytes.{all_append, all_replicate}
use Rattle.stream.proofs.Laws.Unfinished.{NoNewline}
use Rattle.stream.proofs.Laws.Stars.{heading-alone, stars-next, heading-next}
use Rattle.stream.proofs.Laws.Titles.{title-next}
use Rattle.stream.proofs.Laws.Stepped.{stars_so_far-alone, stars_so_far-heading, title_so_far-heading, title_so_far-none}

-- a line with those numbers: k bytes, m stars, a title of t bytes
pub record LineWith (k m t : ℕ) : Type 0 where
  pub line : Line
  pub plain : NoNewline line
  pub size : length line ≡ k
  pub stars : stars_so_far line ≡ m
  pub title : title_so_far line ≡ t

-- one byte n times has n bytes
pub length-byte : (n b : ℕ) → length (replicate n b) ≡ n
length-byte n b = length-replicate n b

-- ---- stars alone

abbrev all_stars : ℕ → Line
all_stars m = replicate m 42

all_stars-alone : (m : ℕ) → all is_star (all_stars m) ≡ true
unfolding is_star
all_stars-alone m = all_replicate is_star 42 refl m

pub stars-line : (m : ℕ) → LineWith m m 0
unfolding is_not
stars-line m = record {
  line = all_stars m;
  plain = all_replicate (is_not 10) 42 refl m;
  size = length-byte m 42;
  stars = stars_so_far-alone (all_stars m) (all_stars-alone m) ∙ length-byte m 42;
  title = title_so_far-none (all_stars m) (heading-alone (all_stars m) (all_stars-alone m));
}

-- ---- no stars

pub other-line : (k : ℕ) → 0 < k → LineWith k 0 0
unfolding is_not all stars_so_far title_so_far is_heading stars run is_star
other-line k h = record {
  line = 97 ∷ replicate (k - 1) 97;
  plain = all_replicate (is_not 10) 97 refl (k - 1);
  size = omega (arith, length-byte (k - 1) 97);
  stars = refl;
  title = refl;
}

-- ---- a heading line: stars, byte 32, a title without blank bytes, blank bytes

abbrev letters : ℕ → List ℕ
letters t = replicate t 97

abbrev spaces : ℕ → List ℕ
spaces j = replicate j 32

trim_end-spaces : (x : List ℕ) (j : ℕ) → trim_end (x ++ spaces j) ≡ trim_end x
unfolding is_non_blank
trim_end-spaces x zero = ap trim_end (append-nil x)
trim_end-spaces x (suc j) = rw (← append_snoc x 32 (spaces j)) (trim_end-spaces (x ++ (32 ∷ [])) j ∙ trim_end-blank x 32 refl)

trim_end-letters : (t : ℕ) → trim_end (letters t) ≡ letters t
unfolding trim_end cons_unless_end is_non_blank
trim_end-letters zero = refl
trim_end-letters (suc zero) = refl
trim_end-letters (suc (suc t)) = ap (cons_unless_end 97) (trim_end-letters (suc t))

module _ (k m t : ℕ) (some : 0 < m) (fits : m + t < k) where
  abbrev after : Line
  after = letters t ++ spaces (k - m - t - 1)

  abbrev whole : Line
  whole = all_stars m ++ (32 ∷ after)

  whole_plain : NoNewline whole
  unfolding all is_not
  whole_plain =
      rw (all_append (is_not 10) (all_stars m) (32 ∷ after), all_append (is_not 10) (letters t) (spaces (k - m - t - 1)))
      (rw (all_replicate (is_not 10) 42 refl m, all_replicate (is_not 10) 97 refl t) (all_replicate (is_not 10) 32 refl (k - m - t - 1)))

  whole-size : length whole ≡ k
  whole-size = omega (
    arith,
    length-append (all_stars m) (32 ∷ after),
    length-append (letters t) (spaces (k - m - t - 1)),
    length-byte m 42,
    length-byte t 97,
    length-byte (k - m - t - 1) 32,
  )

  whole-heading : is_heading whole ≡ true
  unfolding is_star
  whole-heading =
      heading-next (all_stars m) (all_stars-alone m) 32 after refl
      ∙ rw (lt-ltb 0 (length (all_stars m)) (omega (arith, length-byte m 42)))

  whole-stars : stars_so_far whole ≡ m
  unfolding is_star
  whole-stars = stars_so_far-heading whole whole-heading ∙ stars-next (all_stars m) (all_stars-alone m) 32 after refl ∙ length-byte m 42

  whole-title : title_so_far whole ≡ t
  unfolding is_star
  whole-title =
      title_so_far-heading whole whole-heading
      ∙ ap length (title-next (all_stars m) (all_stars-alone m) 32 after refl ∙ trim_end-spaces (letters t) (k - m - t - 1) ∙ trim_end-letters t)
      ∙ length-byte t 97

  pub heading-line : LineWith k m t
  heading-line = record { line = whole; plain = whole_plain; size = whole-size; stars = whole-stars; title = whole-title }
