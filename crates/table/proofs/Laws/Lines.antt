-- Every record of a reading has its line number  [02 order 7].
-- Assumes nothing.
use mathlib.Core.Path.{◌≡◌, refl, sym}
use mathlib.Core.List.{List, []}
use Prim.Native.Nat.{ℕ, zero, suc}
use lib.ListN.{length}
use borrow.Table.Steps.{cases}
use Rattle.text.specs.LineNumbers.{line_number}
use Rattle.text.proofs.Laws.LineNumbers.{line_number-zero}
use Rattle.rules.specs.Kind.{is_holder}
use Rattle.rules.proofs.Basics.{All, all_nil, all_cons, all_append}
use Rattle.table.specs.declared.record.Record.{Record}
use Rattle.table.specs.Sections.{section_start, section_end}
use Rattle.table.specs.Makers.{document_record, found_record, element_record, item_record, line_record, child_record}
use Rattle.table.specs.Reading.{contents, section, headings, reading}
use Rattle.table.proofs.Basics.{split}
use Rattle.table.proofs.Laws.Fits.{child_record-each}
use Rattle.table.proofs.Laws.Reading.{held, held-yes, held-no, contents-none, contents-step, section-yes, section-no}
use Rattle.table.proofs.Laws.Reading.{Earlier, headings-none, headings-step}

abbrev Lined : List ℕ → List Record → Type 0
Lined s R = All (λ (r : Record). r.line ≡ line_number s r.start) R

child_record-line : (s : List ℕ) (c : Record) (q p : ℕ) → let r = child_record s c q p in r.line ≡ line_number s r.start
unfolding line_record found_record element_record item_record
child_record-line s c q p = child_record-each s c q p (λ r. r.line ≡ line_number s r.start) refl refl refl (λ h i. refl)

contents-lined : (n : ℕ) (s : List ℕ) (c : Record) (q p k : ℕ) → Lined s (contents n s c q p k)
unfolding contents
contents-lined zero s c q p k = all_nil
contents-lined (suc n) s c q p k = split p c.to
    (λ lt.
    let r = child_record s c q p in
    let inner : Lined s (held n s r k) = cases (is_holder r.kind)
    (λ e. rw (held-yes n s r k e) (contents-lined n s r k _ (suc k)))
    (λ e. rw (held-no n s r k e) all_nil) in
    rw (contents-step n s c q p k lt) (all_cons (child_record-line s c q p) (all_append inner (contents-lined n s c q r.end _))))
    (λ le. rw (contents-none (suc n) s c q p k le) all_nil)

section-lined : (s : List ℕ) (c : Record) (q k : ℕ) → Lined s (section s c q k)
section-lined s c q k = split (section_start s c) (section_end s c)
    (λ lt. rw (section-yes s c q k lt) (all_cons refl (contents-lined _ s _ k _ (suc k))))
    (λ le. rw (section-no s c q k le) all_nil)

headings-lined : (n : ℕ) (s : List ℕ) (hs : Earlier) (p k : ℕ) → Lined s (headings n s hs p k)
unfolding headings
headings-lined zero s hs p k = all_nil
headings-lined (suc n) s hs p k = split p (length s)
    (λ lt. rw (headings-step n s hs p k lt) (all_cons refl (all_append (section-lined s _ k (suc k)) (headings-lined n s _ _ _))))
    (λ le. rw (headings-none (suc n) s hs p k le) all_nil)

pub reading-lined : (s : List ℕ) → Lined s (reading s)
unfolding reading
reading-lined s = all_cons {a = document_record s} (sym (line_number-zero s)) (all_append (section-lined s _ 0 1) (headings-lined (length s) s [] _ _))
