-- A text's finished lines: their headings are those that its bytes finish, from a new state.
use mathlib.Core.Path.{◌≡◌, refl, sym, ap, ◌∙◌}
use mathlib.Core.Bool.{false}
use mathlib.Core.List.{List, [], ◌∷◌, ◌++◌, append-nil, append_assoc}
use Prim.Native.Nat.{ℕ, ◌-◌}
use native.Mathlib.Omega.{arith}
use lib.ListN.{length, take, length-append}
use lib.Seq.{append_snoc, take_at}
use borrow.Author.Tests.{eqb-true}
use borrow.Table.Steps.{cases}
use Rattle.text.specs.Bytes.{is_newline}
use Rattle.text.specs.Runs.{all}
use Rattle.rules.specs.Headings.{is_heading, OpenHeadings}
use Rattle.stream.specs.declared.state.Stream.{Stream}
use Rattle.stream.specs.declared.heading.Heading.{Heading}
use Rattle.stream.specs.Headings.{headings, numbers}
use Rattle.stream.specs.State.{unfinished, finished_part, state_of, new_stream}
use Rattle.stream.specs.Steps.{last_heading, fed, finished}
use Rattle.stream.proofs.Laws.Unfinished.{NoNewline, no-newline-more, unfinished-open, unfinished-after}
use Rattle.stream.proofs.Laws.Finished.{last_heading-no}
use Rattle.stream.proofs.Laws.GoesOn.{finished-none}
use Rattle.stream.proofs.Laws.Lists.{numbers-append}
use Rattle.stream.proofs.Laws.Splits.{fed-new, all-headings}
use Rattle.stream.proofs.Laws.Steps.{finished-append}

-- a text is its finished lines, and a line without byte 10
record Parted (s : List ℕ) : Type 0 where
  pub part : List ℕ
  pub is : s ≡ part ++ unfinished s
  pub ended : unfinished part ≡ []
  pub plain : NoNewline (unfinished s)

parted-line : (u x : List ℕ) → NoNewline u → Parted (u ++ x)
unfolding is_newline all
parted-line u [] h =
    let e = ap unfinished (append-nil u) ∙ unfinished-open u h in
    record { part = []; is = append-nil u ∙ sym e; ended = unfinished-open [] refl; plain = rw e h }
parted-line u (b ∷ x) h = cases (is_newline b)
    (λ k. rw (eqb-true b 10 k)
    (let p = parted-line [] x refl in
    let e = unfinished-after u x h in
    record {
      part = u ++ (10 ∷ p.part);
      is =
          ap (λ (y : List ℕ). u ++ (10 ∷ y)) p.is
          ∙ sym (append_assoc u (10 ∷ p.part) (unfinished x))
          ∙ ap (λ (y : List ℕ). u ++ (10 ∷ p.part) ++ y) (sym e);
      ended = unfinished-after u p.part h ∙ p.ended;
      plain = rw e p.plain;
    }))
    (λ k. rw (append_snoc u b x) at (parted-line (u ++ (b ∷ [])) x (no-newline-more u b h k)))

parted : (s : List ℕ) → Parted s
unfolding all
parted s = parted-line [] s refl

heading-nil : is_heading [] ≡ false
unfolding OpenHeadings
heading-nil = refl

module _ (s : List ℕ) where
  part-is : finished_part s ≡ (parted s).part
  unfolding finished_part
  part-is =
      let p = (parted s).part in
      let v = unfinished s in
      let size : length s - length v ≡ length p = omega (arith, ap length (parted s).is, length-append p v) in
      rw size (ap (take (length p)) (parted s).is ∙ take_at p v (length p) refl)

  -- the part has no unfinished line, and the rest finishes nothing
  pub part-headings : headings (finished_part s) ≡ finished new_stream s
  unfolding state_of
  part-headings =
      let p = (parted s).part in
      let v = unfinished s in
      let last : last_heading (state_of p) ≡ [] = rw (parted s).ended (last_heading-no (length p) [] heading-nil) in
      ap headings part-is
      ∙ sym (all-headings p)
      ∙ ap (λ (hs : List Heading). finished new_stream p ++ hs) (last ∙ sym (finished-none (fed new_stream p) v (parted s).plain))
      ∙ sym (finished-append new_stream p v)
      ∙ ap (finished new_stream) (sym (parted s).is)

  -- what the end of s finishes
  pub part-last : numbers (headings s) ≡ numbers (headings (finished_part s)) ++ numbers (last_heading (state_of s))
  part-last = ap numbers (sym (all-headings s)) ∙ numbers-append (finished new_stream s) (last_heading (state_of s)) ∙ rw part-headings

-- what bytes x after s finish
pub part-more : (s x : List ℕ) → numbers (headings (finished_part (s ++ x))) ≡ numbers (headings (finished_part s)) ++ numbers (finished (state_of s) x)
part-more s x =
    let y = finished (state_of s) x in
    ap numbers (part-headings (s ++ x) ∙ finished-append new_stream s x ∙ ap (λ (c : Stream). finished new_stream s ++ finished c x) (fed-new s))
    ∙ numbers-append (finished new_stream s) y
    ∙ ap (λ (hs : List Heading). numbers hs ++ numbers y) (sym (part-headings s))
