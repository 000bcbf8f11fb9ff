-- A text's headings are the heading records of its reading. Both are where the heading lines start, each with the stars of the line there.
-- Assumes nothing.
use mathlib.Core.Path.{◌≡◌, refl, sym, ap, ◌∙◌}
use mathlib.Core.List.{List, [], ◌∷◌, map}
use Prim.Native.Nat.{ℕ, ◌+◌}
use lib.Dec.{eqb}
use lib.ListN.{length}
use borrow.Author.Tests.{eqb-true}
use borrow.Table.Steps.{cases}
use Rattle.text.specs.Lines.{Line, lines, size, head_line, tail_lines}
use Rattle.text.specs.Parts.{lines_in, line_in}
use Rattle.text.proofs.Laws.LinesIn.{lines_in-next}
use Rattle.text.proofs.Laws.LineStarts.{lines_in-whole}
use Rattle.rules.specs.Headings.{is_heading}
use Rattle.rules.specs.Kind
use Rattle.rules.proofs.Basics.{All, all_nil, all_cons, all_of}
use Rattle.table.specs.declared.record.Record.{Record}
use Rattle.table.specs.Proper.{heading_lines_in, heading_lines, heading_starts, IsHeadingRecord, Proper}
use Rattle.table.specs.Reading.{reading}
use Rattle.table.specs.Records.{no_record}
use Rattle.table.proofs.Laws.Reading.{stars_at}
use Rattle.table.proofs.Proper.Children.{heading-record}
use Rattle.table.proofs.Proper.Exists.{reading-proper}
use Rattle.stream.specs.Headings.{headings_from, headings}
use Rattle.stream.specs.Promises.{start_and_stars, heading_records, AsRead}

-- bytes of a text, each with the stars of the line there
abbrev with_stars : List ℕ → List ℕ → List (ℕ × ℕ)
with_stars s = map (λ p. (p, stars_at s p))

-- ---- the headings of the lines from byte p on

headings_from-lines : (s : List ℕ) (p : ℕ) (ls : List Line) → lines_in s p (length s) ≡ ls
    → map start_and_stars (headings_from p ls) ≡ with_stars s (heading_lines_in p ls)
unfolding headings_from heading_lines_in line_in head_line tail_lines
headings_from-lines s p [] h = refl
headings_from-lines s p (l ∷ ls) h =
    let here : line_in s p (length s) ≡ l = ap head_line h in
    let next = headings_from-lines s (p + length l) ls (rw here at (lines_in-next s p (length s)) ∙ ap tail_lines h) in
    cases (is_heading l)
    (λ e. rw (e, headings_from, heading_lines_in) (rw (here, next)))
    (λ e. rw (e, headings_from, heading_lines_in) next)

headings-lines : (s : List ℕ) → map start_and_stars (headings s) ≡ with_stars s (heading_lines s)
unfolding headings heading_lines size
headings-lines s = headings_from-lines s 0 (lines s) (lines_in-whole s 0)

-- ---- heading records

-- A heading record has the stars of the line at its start.
abbrev HasStars : List ℕ → Record → Type 0
HasStars s r = r.kind ≡ Kind.heading → r.detail ≡ stars_at s r.start

heading_records-starts : (s : List ℕ) {R : List Record} → All (HasStars s) R → heading_records R ≡ with_stars s (heading_starts R)
unfolding heading_records heading_starts
heading_records-starts s all_nil = refl
heading_records-starts s (all_cons {a = r} p h) = cases (eqb r.kind Kind.heading)
    (λ e. rw (e, heading_records, heading_starts) (rw (p (eqb-true _ _ e), heading_records-starts s h)))
    (λ e. rw (e, heading_records, heading_starts) (heading_records-starts s h))

heading_records-lines : (s : List ℕ) (R : List Record) → Proper s R → heading_records R ≡ with_stars s (heading_lines s)
unfolding IsHeadingRecord
heading_records-lines s R h =
    heading_records-starts s (all_of R no_record (λ k i e. (heading-record s R h k i e).detail)) ∙ ap (with_stars s) h.headings_stand

pub as-read : AsRead
unfolding AsRead
as-read s = headings-lines s ∙ sym (heading_records-lines s (reading s) (reading-proper s))
