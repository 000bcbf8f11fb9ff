-- The reading of a text is a proper table: its document, its zeroth section and its headings stand as a proper table asks, and the headings start
-- at the text's heading lines. Closers in it are sought far enough.
-- Assumes nothing.
use mathlib.Core.Path.{◌≡◌, refl, sym, ap, ◌∙◌}
use mathlib.Core.Logic.{inl, inr}
use mathlib.Core.Bool.{false}
use mathlib.Core.List.{List, [], ◌∷◌, ◌++◌}
use Prim.Native.Nat.{ℕ, zero, suc, ◌+◌, ◌≤◌, ◌<◌}
use native.Mathlib.Omega.{arith}
use lib.Dec.{T}
use lib.ListN.{length, drop}
use lib.Seq.{drop-append_seam, drop-cons}
use borrow.Table.Steps.{cases}
use Rattle.text.specs.Lines.{Line}
use Rattle.text.proofs.Laws.LinesIn.{next_line-to, next_line-none}
use Rattle.text.proofs.Laws.LineStarts.{line_start-zero}
use Rattle.rules.specs.Headings.{is_heading, is_heading_up_to}
use Rattle.rules.specs.Kind.{holds_sections, is_holder}
use Rattle.rules.proofs.Basics.{all_get_d, all_map}
use Rattle.rules.proofs.Laws.Headings.{stars-some, up_to-no}
use Rattle.table.specs.Makers.{document_record}
use Rattle.table.specs.Proper.{with_parent, children, heading_lines, heading_starts, Each, EachLater, Proper}
use Rattle.table.specs.Reading.{section, nearest, headings, reading}
use Rattle.table.specs.Records.{no_record, at}
use Rattle.table.specs.Sections.{section_end}
use Rattle.table.specs.Closers.{AllSought}
use Rattle.table.proofs.Basics.{split}
use Rattle.table.proofs.Laws.Lines.{reading-lined}
use Rattle.table.proofs.Laws.Proper.{with_parent-no, heading_starts-append, heading_starts-none, heading_lines_from-zero, heading_lines_from-next}
use Rattle.table.proofs.Proper.Headings.{AllReady, heads-local}
use Rattle.table.proofs.Proper.Heads.{Heads, headings-heads, heads-starts, heads-outside}
use Rattle.table.proofs.Proper.Sections.{Top, section-own, section-at, section-after, section-local}
use Rattle.table.proofs.Proper.Stands.{Filled, Local, Placed, placed_first}
use Rattle.table.proofs.Proper.Subheadings.{heads-filled}
use Rattle.table.specs.declared.record.Record.{Record}

-- no heading line has no stars
up_to-none : (l : Line) → is_heading_up_to 0 l ≡ false
unfolding is_heading_up_to
up_to-none l = cases (is_heading l) (λ e. up_to-no 0 l (stars-some l e)) (λ e. rw e)

module _ (s : List ℕ) where
  abbrev doc : Record
  doc = document_record s

  abbrev zeroth : List Record
  zeroth = section s doc 0 1

  -- the first heading line and its index
  abbrev p : ℕ
  p = section_end s doc

  abbrev k : ℕ
  k = suc (length zeroth)

  abbrev H : List Record
  H = headings (length s) s [] p k

  abbrev R : List Record
  R = doc ∷ (zeroth ++ H)

  top : Top s doc
  unfolding holds_sections
  top = record { kind = tt; start = line_start-zero s; text = omega arith; end = sym (next_line-none s (is_heading_up_to 0) 0 (omega arith) up_to-none) }

  heads : Heads s [] p k H
  unfolding section_end
  heads = headings-heads (length s) s [] 0 k (line_start-zero s) (omega arith) (omega arith)

  -- ---- the records after the document

  zeroth-placed : Placed R doc 0 1 zeroth H
  unfolding nearest
  zeroth-placed = placed_first refl refl (heads-outside 1 (1 + length zeroth) heads (omega arith) (λ x z. inl (omega arith)))

  ready : AllReady s R p k []
  unfolding nearest holds_sections section_end
  ready x z =
      record {
        before = omega arith;
        top = tt;
        heading = inr refl;
        fewer = z;
        far = λ j a b e. absurd (omega (arith, section-at s doc top 0 R H refl j a (omega arith)));
        inside = λ i a b. omega arith;
        from = omega arith;
        to = sym (next_line-none s (is_heading_up_to 0) p (next_line-to s is_heading 0 (omega arith)) up_to-none);
      }

  local : EachLater R (Local s R)
  local j a b =
      split j k
      (λ c. section-local s doc top 0 R H zeroth-placed j a (omega arith))
      (λ c. heads-local heads R (drop-append_seam zeroth H) ready j c b)

  -- what holds of the document and of each later record
  each : {P : ℕ → Type 0} → P 0 → EachLater R P → Each R P
  each x f zero b = x
  each x f (suc i) b = f (suc i) (omega arith) b

  -- ---- children

  document-filled : Filled s doc (children R 0)
  unfolding children nearest
  document-filled =
      heads-filled s doc 0 k [] H top heads (omega arith)
      (record { order = omega arith; child = λ x a b. refl; deep = λ x a b e. omega arith; out = λ x z a e. omega arith })

  -- the children of record i stand after it
  children-after : (i : ℕ) → i < length R → (a : ℕ) → a ≤ i → children R i ≡ with_parent i (drop (suc a) R)
  unfolding children
  children-after i b zero h = refl
  children-after i b (suc a) h =
      children-after i b a (omega arith)
      ∙ ap (with_parent i) (drop-cons R (suc a) no_record (omega arith))
      ∙ with_parent-no i (at R (suc a)) (drop (suc (suc a)) R) (λ e. omega (arith, (local (suc a) (omega arith) (omega arith)).earlier))

  filled : Each R (λ i. T (is_holder (at R i).kind) → Filled s (at R i) (children R i))
  filled = each (λ h. document-filled) (λ i a b h. rw (children-after i b i (omega arith)) ((local i a b).filled h))

  -- ---- headings

  headings-stand : heading_starts R ≡ heading_lines s
  unfolding heading_starts section_end
  headings-stand =
      let none = heading_starts-none (all_map (λ r o e. omega arith) (section-own s doc top 0)) in
      rw (heading_starts-append zeroth H, none, heads-starts heads, ← heading_lines_from-next s 0) (heading_lines_from-zero s)

  proper : Proper s R
  unfolding reading
  proper =
      record {
        first = omega arith;
        document = record { kind = refl; end = refl; from = refl; to = refl; detail = refl };
        document_start = refl;
        document_parent = refl;
        lines = λ j b. all_get_d no_record (reading-lined s) j b;
        earlier = λ j a b. (local j a b).earlier;
        together = each (λ i a b. absurd (omega arith)) (λ j a b. (local j a b).together);
        headings_stand = headings-stand;
        heading_parent = each (λ e. absurd (omega arith)) (λ j a b. (local j a b).heading);
        sections_only = λ j a b. (local j a b).child.section;
        sections_all = each (λ h. section-after s doc top 0 R H refl) (λ j a b. (local j a b).section);
        within = λ j a b. (local j a b).child.within;
        holders = λ j a b. (local j a b).child.holder;
        tiled = filled;
        tops = λ j a b. (local j a b).child.top;
        elements = λ j a b. (local j a b).child.element;
        items = λ j a b. (local j a b).child.item;
        properties = λ j a b. (local j a b).child.property;
        rows = λ j a b. (local j a b).child.row;
      }

pub reading-sought : (s : List ℕ) → AllSought s (reading s)
unfolding reading
reading-sought s j a b = (local s j a b).sought

pub reading-proper : (s : List ℕ) → Proper s (reading s)
unfolding reading
reading-proper = proper
