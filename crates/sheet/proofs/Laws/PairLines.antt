-- The lines of a good order: the title's is a heading line; a pair's has its body, its name and its value as they were put in. All of it from the
-- shape of the line: `:`, the key, `:`, the value after a space, byte 10.
use mathlib.Core.Path.{◌≡◌, refl, sym, ◌∙◌}
use mathlib.Core.Bool.{true, false, true≢false}
use mathlib.Core.List.{List, [], ◌∷◌, ◌++◌, append_assoc}
use Prim.Native.Nat.{ℕ, ◌+◌, ◌-◌, ◌≤◌, ◌<◌}
use native.Mathlib.Omega.{arith}
use lib.ListN.{length, drop, length-append}
use lib.Seq.{drop-append_seam}
use borrow.Table.Steps.{cases}
use Rattle.text.specs.Bytes.{is_newline, is_star, is_blank, is_indent, is_non_blank, lower}
use Rattle.text.specs.Runs.{word, all, run, after_run, trim_end, same}
use Rattle.text.specs.Lines.{blank_line, indent, body, body_end, first_run, value_start}
use Rattle.text.proofs.Laws.Runs.{trim_end-blank}
use Rattle.rules.specs.Headings.{stars, is_heading}
use Rattle.rules.specs.LineTests.{is_end_line, property_name, is_node_property}
use Rattle.sheet.specs.Order.{Pair}
use Rattle.sheet.specs.Faults.{starts_blank, is_bad_text}
use Rattle.sheet.specs.Sheet.{title_line, marked_key, spaced, pair_line}
use Rattle.sheet.proofs.Laws.GoodTexts.{GoodText, good-text, text-newline, text-trimmed, GoodKey, good-key, nonblank-newline}
use Rattle.sheet.proofs.Laws.Judged.{GoodPair}
use Rattle.sheet.proofs.Laws.Lines.{all_append, all-wider, run-append, trim_end-append, NoNewline, Whole}
use Rattle.sheet.proofs.Laws.Names.{between_colons-marker, drop_plus-no, same-colon}
use Rattle.sheet.proofs.Laws.SameKeys.{same-both}

-- ---- the title's line

title_line-cons : (t : List ℕ) → title_line t ≡ 42 ∷ 32 ∷ (t ++ (10 ∷ []))
unfolding title_line word
title_line-cons t = refl

module _ (t : List ℕ) where
  pub title_line-stars : stars (title_line t) ≡ 1
  unfolding stars run is_star
  title_line-stars = rw (title_line-cons t)

  pub title_line-heading : is_heading (title_line t) ≡ true
  unfolding is_heading
  title_line-heading = rw (title_line-stars, title_line-cons t)

  pub title_line-whole : is_bad_text t ≡ false → Whole (title_line t)
  unfolding all is_newline
  title_line-whole h = record { before = 42 ∷ 32 ∷ t; plain = text-newline t (good-text t h).breaks; is = title_line-cons t }

-- ---- a space and a value

pub spaced-length : (v : List ℕ) → length v ≤ length (spaced v)
unfolding spaced
spaced-length [] = omega arith
spaced-length (b ∷ v) = omega arith

spaced-newline : (v : List ℕ) → NoNewline v → NoNewline (spaced v)
unfolding spaced all is_newline
spaced-newline [] h = refl
spaced-newline (b ∷ v) h = h

spaced-run : (v : List ℕ) → run is_non_blank (spaced v) ≡ []
unfolding run spaced is_non_blank
spaced-run [] = refl
spaced-run (b ∷ v) = refl

spaced-after : (v : List ℕ) → starts_blank v ≡ false → after_run is_blank (spaced v) ≡ v
unfolding after_run spaced is_blank starts_blank
spaced-after [] h = refl
spaced-after (b ∷ v) h = rw (h, after_run)

spaced-trimmed : (v : List ℕ) → trim_end v ≡ v → trim_end (58 ∷ spaced v) ≡ 58 ∷ spaced v
unfolding spaced trim_end is_non_blank
spaced-trimmed [] h = refl
spaced-trimmed (b ∷ v) h = rw h

-- ---- a pair's line

module _ (p : Pair) where
  abbrev k : List ℕ
  k = p.key

  abbrev v : List ℕ
  v = p.value

  -- `:`, the key, `:`; and with the value
  abbrev marker : List ℕ
  marker = 58 ∷ (k ++ (58 ∷ []))

  abbrev pair_body : List ℕ
  pair_body = 58 ∷ (k ++ (58 ∷ spaced v))

  pair_line-is : pair_line p ≡ pair_body ++ (10 ∷ [])
  unfolding pair_line marked_key word
  pair_line-is = simp append_assoc

  body-marker : pair_body ≡ marker ++ spaced v
  body-marker = rw append_assoc

  pub pair_line-heading : is_heading (pair_line p) ≡ false
  unfolding is_heading stars run is_star
  pair_line-heading = rw pair_line-is

  pub pair_line-blank : blank_line (pair_line p) ≡ false
  unfolding blank_line all is_non_blank
  pair_line-blank = rw pair_line-is

  pub pair_line-some : 0 < length (pair_line p)
  pair_line-some = rw pair_line-is (omega arith)

  module _ (g : GoodPair p) where
    key : GoodKey k
    key = good-key k g.key

    value : GoodText v
    value = good-text v g.value

    pub pair_line-whole : Whole (pair_line p)
    unfolding all is_newline
    pair_line-whole =
        let plain = all-wider is_non_blank _ nonblank-newline k key.nonblank in
        record {
          before = pair_body;
          plain = all_append _ k (58 ∷ spaced v) plain (spaced-newline v (text-newline v value.breaks));
          is = pair_line-is;
        }

    pair_line-body : body (pair_line p) ≡ pair_body
    unfolding body after_run is_indent is_non_blank is_blank
    pair_line-body =
        rw pair_line-is
        (trim_end-blank pair_body 10 refl ∙ trim_end-append (58 ∷ k) 58 (spaced v) (spaced-trimmed v (text-trimmed v value.breaks value.ends)))

    pair_line-run : first_run (body (pair_line p)) ≡ marker
    unfolding first_run run is_non_blank is_blank is_newline
    pair_line-run = rw (pair_line-body, run-append is_non_blank k (58 ∷ spaced v) key.nonblank, spaced-run v)

    pub pair_line-name : property_name (pair_line p) ≡ k
    unfolding property_name
    pair_line-name = rw (pair_line-run, between_colons-marker k) (drop_plus-no k key.plus)

    pub pair_line-node : is_node_property (pair_line p) ≡ true
    unfolding is_node_property
    pair_line-node = rw (pair_line-name, key.some, key.plus)

    pub pair_line-end : is_end_line (pair_line p) ≡ false
    unfolding is_end_line word same all lower
    pair_line-end = rw pair_line-body (cases (same (k ++ (58 ∷ spaced v)) (word "end:"))
        (λ e. absurd (true≢false (sym (same-both k (word "END") (word "end") (same-colon k (word "end") (spaced v) refl e) refl) ∙ g.other)))
        (λ e. e))

    pub pair_line-body_end : body_end (pair_line p) ≡ length k + 2 + length (spaced v)
    unfolding body_end indent run is_indent
    pair_line-body_end = rw (pair_line-body, pair_line-is) (omega (arith, length-append k (58 ∷ spaced v)))

    -- what follows the marker
    pub pair_line-value : after_run is_blank (drop (length (first_run (body (pair_line p)))) (body (pair_line p))) ≡ v
    pair_line-value = rw (pair_line-run, pair_line-body ∙ body-marker, drop-append_seam marker (spaced v)) (spaced-after v value.starts)

    pub pair_line-value_start : value_start (length (first_run (body (pair_line p)))) (pair_line p) ≡ length k + 2 + length (spaced v) - length v
    unfolding value_start
    pair_line-value_start = rw (pair_line-value, pair_line-body_end)
